-- The lines on the way: what was written so far, and that what is left of them is what these parts still have.
-- Assumes nothing.
use mathlib.Core.Path.{◌≡◌, sym, ap, ◌∙◌}
use mathlib.Core.Bool.{true, false}
use mathlib.Core.List.{List, ◌++◌, append-nil, append_assoc}
use Prim.Native.Nat.{ℕ, ◌+◌, ◌-◌, ◌≤◌, ◌<◌, ◌^◌}
use native.Mathlib.Nat.{sub-add-eq}
use native.Mathlib.Omega.{arith}
use lib.ListN.{length}
use Rattle.std.specs.Prelude.{Ok}
use borrow.Author.Tests.{le-leb, lt-leb}
use Rattle.rules.specs.Buffers.{Written, Stands, rest_of, put_back}
use Rattle.rules.proofs.Laws.Bools.{and_both, and_not_left, and_not_right}
use Rattle.rules.proofs.Laws.Buffers.{stands_kept, stands_fits, stands_more}
use Rattle.comparison.specs.Compare.{Stepped, is_pair, advanced}
use Rattle.comparison.specs.declared.Pair.{Pair as PairOf}
use Rattle.comparison.specs.declared.Step.{Step}
use Rattle.comparison.specs.declared.Step.TheVariants.{Pair}
use Rattle.comparison.specs.declared.Reach.{Reach}
use Rattle.text.specs.Lines.{differs_room}
use Rattle.listing.specs.Listing.{line_by, step_in, Holds, none, before, goes_on, listed, Lists}
use Rattle.listing.specs.Laws.{a_pair_goes_on, list_on, list_stays}
use Rattle.comparison.specs.declared.Sides.{Sides}

pub record Going (b : Sides ℕ) (here there : List ℕ) (r₀ : Reach) (o₀ o : List ℕ) (r : Reach) (count : ℕ) : Type 0 where
  pub bytes : List ℕ
  pub front : Stands bytes o₀ o count
  pub all : listed b here there (length o₀) r₀ ≡ before bytes (listed b here there (length o₀ - count) r)
  pub holds : Holds b here there r

module _ {b : Sides ℕ} {here there : List ℕ} {r₀ : Reach} {o₀ o : List ℕ} {r : Reach} {count : ℕ} (v : Going b here there r₀ o₀ o r count) where
  -- the lines end here
  stays : goes_on (step_in here there r) (length o₀ - count) ≡ false → Lists b here there r₀ (record { reach = r; count = count }) o₀ o
  stays e =
      let end : listed b here there (length o₀) r₀ ≡ before v.bytes (none r) = v.all ∙ ap (before v.bytes) (list_stays here there b (length o₀ - count) r e) in
      record {
        reached = sym (rw end);
        lines = rw (end, append-nil) v.front.front;
        fits = rw (stands_kept v.front) v.front.within;
        holds = v.holds;
      }

  module _ {s : Stepped} (at : s ≡ step_in here there r) where
    pub no_pair : is_pair s ≡ false → Lists b here there r₀ (record { reach = r; count = count }) o₀ o
    no_pair e = stays (and_not_left _ _ (sym (ap is_pair at) ∙ e))

    pub no_room : length o - count < differs_room → Lists b here there r₀ (record { reach = r; count = count }) o₀ o
    no_room h = stays (and_not_right (is_pair (step_in here there r)) _ (lt-leb _ _ (rw (stands_kept v.front) at h)))

    module _ {d : Step} (ok : s ≡ Ok d) {p : PairOf} (pair : d ≡ Pair p) where
      pub there_is : step_in here there r ≡ Ok (Pair p)
      there_is = sym at ∙ ok ∙ ap Ok pair

      is-a-pair : is_pair (step_in here there r) ≡ true
      is-a-pair = ap is_pair there_is

      pub counts : r.number + 1 < 2 ^ 64
      counts =
          let o = a_pair_goes_on here there r is-a-pair in
          omega (arith, v.holds.number_fits, v.holds.first_fits, o.first_on, o.first_in)

      pub nearer : (r₁ : Reach) → r₁ ≡ advanced (Ok (Pair p)) r → length here - r₁.first < length here - r.first
      nearer r₁ e =
          let o = a_pair_goes_on here there r is-a-pair in
          rw (e, ← there_is) (omega (arith, o.first_on, o.first_in))

      module _ (wide : differs_room ≤ length o - count) {n : ℕ} {ys : List ℕ} (kept : length ys ≡ length (rest_of o count))
          (wrote : Written (line_by b here there (Ok (Pair p)) r) n (rest_of o count) ys) where
        within : count + n ≤ length o₀
        within = stands_fits v.front (line_by b here there (Ok (Pair p)) r) ys n wrote kept

        pub goes : (r₁ : Reach) → r₁ ≡ advanced (Ok (Pair p)) r → Going b here there r₀ o₀ (put_back o count ys) r₁ (count + n)
        goes r₁ e =
            let o₁ = a_pair_goes_on here there r is-a-pair in
            let tests : goes_on (step_in here there r) (length o₀ - count) ≡ true =
            and_both _ _ is-a-pair (le-leb _ _ (rw (stands_kept v.front) at wide)) in
            record {
              bytes = v.bytes ++ line_by b here there (Ok (Pair p)) r;
              front = stands_more v.front (line_by b here there (Ok (Pair p)) r) ys n wrote within;
              all =
                  v.all ∙ ap (before v.bytes) (list_on here there b (length o₀ - count) r tests)
                  ∙ rw (e, there_is, wrote.0, sub-add-eq, append_assoc);
              holds = rw (e, ← there_is)
                  (record {
                    first_in = o₁.first_in;
                    second_in = o₁.second_in;
                    first_fits = v.holds.first_fits;
                    second_fits = v.holds.second_fits;
                    number_fits = omega (arith, o₁.counted, o₁.first_on, v.holds.number_fits);
                  });
            }
