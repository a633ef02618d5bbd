-- Laws of the lines: each pair goes on in both parts, and there are steps enough.
-- Assumes nothing.
use Rattle.std.specs.Prelude.{◌≡◌, Bool, true, false, cond, List}
use Rattle.std.proofs.Math.Path.{refl, sym}
use Rattle.std.proofs.Common.{ap, arith}
use Prim.Native.Nat.{ℕ, zero, suc, ◌+◌, ◌-◌, ◌≤◌, ◌<◌}
use Rattle.std.proofs.Math.ListN.{length}
use Rattle.rules.proofs.Laws.Bools.{true_not_false, is_false, and_left, and_not_left}
use Rattle.comparison.specs.Compare.{Stepped, is_pair, advanced}
use Rattle.comparison.proofs.Laws.Steps.{Stepping, each_step}
use Rattle.comparison.proofs.Laws.Steps.Stepping.{pair, first_ends, second_ends, both_end, first_broken, second_broken}
use Rattle.comparison.specs.declared.Reach.{Reach}
use Rattle.listing.specs.Listing.{line_by, step_in, Lines, none, before, goes_on, list_from, listed}
use Rattle.comparison.specs.declared.Sides.{Sides}

module _ (here there : List ℕ) where
  -- a pair goes on in both parts, and stays inside
  pub record Onward (s : Stepped) (r : Reach) : Type 0 where
    pub first_on : r.first < (advanced s r).first
    pub first_in : (advanced s r).first ≤ length here
    pub second_on : r.second < (advanced s r).second
    pub second_in : (advanced s r).second ≤ length there
    pub counted : (advanced s r).number ≡ r.number + 1

  goes_on_lem : (r : Reach) {s : Stepped} → Stepping here r.first there r.second s → is_pair s ≡ true → Onward s r
  unfolding advanced
  goes_on_lem r (pair v w) t = record { first_on = v.onward; first_in = v.within; second_on = w.onward; second_in = w.within; counted = refl }
  goes_on_lem r (first_ends h w) t = absurd (true_not_false t refl)
  goes_on_lem r (second_ends v h) t = absurd (true_not_false t refl)
  goes_on_lem r (both_end h k) t = absurd (true_not_false t refl)
  goes_on_lem r (first_broken x) t = absurd (true_not_false t refl)
  goes_on_lem r (second_broken x) t = absurd (true_not_false t refl)

  pub a_pair_goes_on : (r : Reach) → is_pair (step_in here there r) ≡ true → Onward (step_in here there r) r
  a_pair_goes_on r t = goes_on_lem r (each_step here r.first there r.second) t

  pub no_pair_left : (r : Reach) → length here ≤ r.first → is_pair (step_in here there r) ≡ false
  no_pair_left r h = is_false _ (λ t. let o = a_pair_goes_on r t in omega (arith, o.first_on, o.first_in))

  module _ (b : Sides ℕ) where
    pub list_here : (f room : ℕ) (r : Reach) → goes_on (step_in here there r) room ≡ false → list_from f b here there room r ≡ none r
    unfolding list_from
    list_here zero room r e = refl
    list_here (suc f) room r e = rw e

    -- what is left behind a pair
    abbrev pub behind_it : (ℕ → Reach → Lines) → ℕ → Reach → Lines
    behind_it rest room r =
        before (line_by b here there (step_in here there r) r)
        (rest (room - length (line_by b here there (step_in here there r) r)) (advanced (step_in here there r) r))

    enough : (f g room : ℕ) (r : Reach) → length here ≤ r.first + f → length here ≤ r.first + g
        → list_from f b here there room r ≡ list_from g b here there room r
    unfolding list_from
    enough zero g room r h k = sym (list_here g room r (and_not_left _ _ (no_pair_left r (omega arith))))
    enough (suc f) zero room r h k = list_here (suc f) room r (and_not_left _ _ (no_pair_left r (omega arith)))
    enough (suc f) (suc g) room r h k =
        go (goes_on (step_in here there r) room) refl
        (λ o. enough f g (room - length (line_by b here there (step_in here there r) r)) (advanced (step_in here there r) r)
        (omega (arith, o.first_on)) (omega (arith, o.first_on)))
      where
        next : Reach
        next = advanced (step_in here there r) r

        line : List ℕ
        line = line_by b here there (step_in here there r) r

        go : (x : Bool) → goes_on (step_in here there r) room ≡ x
            → (Onward (step_in here there r) r → list_from f b here there (room - length line) next ≡ list_from g b here there (room - length line) next)
            → cond x (before line (list_from f b here there (room - length line) next)) (none r)
            ≡ cond x (before line (list_from g b here there (room - length line) next)) (none r)
        go true t rest = ap (before line) (rest (a_pair_goes_on r (and_left _ _ t)))
        go false t rest = refl

    pub list_on : (room : ℕ) (r : Reach) → goes_on (step_in here there r) room ≡ true
        → listed b here there room r ≡ behind_it (listed b here there) room r
    unfolding listed list_from
    list_on room r t =
        rw t
        (ap (before (line_by b here there (step_in here there r) r))
        (enough (length here) (suc (length here)) (room - length (line_by b here there (step_in here there r) r)) (advanced (step_in here there r) r)
        (omega arith) (omega arith)))

    pub list_stays : (room : ℕ) (r : Reach) → goes_on (step_in here there r) room ≡ false → listed b here there room r ≡ none r
    unfolding listed
    list_stays room r e = list_here (suc (length here)) room r e
