-- A lent buffer that is written at its front: what stands there, what is lent of the rest, and one more byte.
-- Assumes nothing.
use Rattle.std.specs.Prelude.{◌≡◌, refl, List, [], ◌∷◌, ◌++◌, ℕ, suc, ◌+◌, ◌-◌, ◌≤◌, ◌<◌, length, take, drop, set, get_or}
use Rattle.std.proofs.Common.{sym, ap, ◌∙◌, append_assoc, append-nil, add-one, arith, length-append, length-drop, drop_of_length-le, drop-cons, take_all, take_at, drop_at, drop-drop}
use Rattle.std.proofs.lemmas.List.{set_at}
use Rattle.std.proofs.Math.Seq.{append_snoc}
use Rattle.rules.specs.Buffers.{Written, rest_of, put_back, Stands}

pub stands_none : (o₀ : List ℕ) → Stands [] o₀ o₀ 0
stands_none o₀ = record { front = (refl, refl); within = omega arith }

module _ {x o₀ o : List ℕ} {at : ℕ} (d : Stands x o₀ o at) where
  pub stands_kept : length o ≡ length o₀
  stands_kept = rw (d.front.1, length-append, length-drop) (omega (arith, d.front.0, d.within))

  pub stands_left : at ≤ length o
  stands_left = rw stands_kept d.within

  -- all that is lent from `at` on is as it came
  lent_rest : rest_of o at ≡ drop at o₀
  lent_rest =
      take_all (length o - at) (drop at o) (simp length-drop (omega arith)) ∙ ap (drop at) d.front.1
      ∙ drop_at x (drop (length x) o₀) at (sym d.front.0) ∙ ap (λ (n : ℕ). drop n o₀) (sym d.front.0)

  pub stands_rest : length (rest_of o at) ≡ length o₀ - at
  stands_rest = rw (lent_rest, length-drop)

  -- what a callee wrote at the front of the rest fits there
  pub stands_fits : (y ys : List ℕ) (r : ℕ) → Written y r (rest_of o at) ys → length ys ≡ length (rest_of o at) → at + r ≤ length o₀
  stands_fits y ys r v kept =
      let long : length y + (length (rest_of o at) - length y) ≡ length (rest_of o at) = rw (length-append, length-drop) at (ap length (sym v.1) ∙ kept) in
      omega (arith, long, v.0, stands_rest, d.within)

  -- what a callee wrote at the front of the rest stands after x
  pub stands_more : (y ys : List ℕ) (r : ℕ) → Written y r (rest_of o at) ys → at + r ≤ length o₀ → Stands (x ++ y) o₀ (put_back o at ys) (at + r)
  stands_more y ys r v h =
      let first : take at o ≡ x = ap (take at) d.front.1 ∙ take_at x (drop (length x) o₀) at (sym d.front.0) in
      let rest : drop (length o - at) (drop at o) ≡ [] = drop_of_length-le (drop at o) {i = length o - at} (simp length-drop (omega arith)) in
      let mid : ys ≡ y ++ drop (length y) (drop at o₀) = rw lent_rest at v.1 in
      record {
        front = (
          rw (length-append, d.front.0, v.0),
          rw (first, rest, mid, d.front.0, append-nil, length-append, drop-drop, append_assoc),
        );
        within = h;
      }

  -- one byte more
  module _ (h : at < length o₀) where
    pub stands_in : at < length o
    stands_in = rw stands_kept h

    pub stands_byte : (b : ℕ) → Stands (x ++ (b ∷ [])) o₀ (set o at b) (at + 1)
    stands_byte b =
        let cut : drop (length x) o₀ ≡ get_or o₀ (length x) 0 ∷ drop (suc (length x)) o₀ = drop-cons o₀ (length x) 0 (omega (arith, d.front.0)) in
        record {
          front = (
            rw (length-append, d.front.0),
            ap (λ (l : List ℕ). set l at b) (d.front.1 ∙ ap (λ (l : List ℕ). x ++ l) cut)
                ∙ set_at x (get_or o₀ (length x) 0) (drop (suc (length x)) o₀) b at (sym d.front.0)
                ∙ rw (length-append, append_snoc, ← add-one (length x)),
          );
          within = omega arith;
        }

pub stands_first : (o₀ : List ℕ) (b : ℕ) → 0 < length o₀ → Stands (b ∷ []) o₀ (set o₀ 0 b) 1
stands_first o₀ b h = stands_byte (stands_none o₀) h b
