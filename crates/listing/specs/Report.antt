-- What a program prints that goes part by part is the report of the two traces: the lines of the records that differ, and the
-- answer that the library gives of the whole.
-- Assumes nothing.
use Rattle.std.specs.Prelude.{◌≡◌, Bool, cond, Option, Some, None, Ok, Err}
use Rattle.std.proofs.Math.Path.{refl, ap}
use Rattle.std.proofs.Common.{sym, ◌∙◌, arith, length-drop, length-take}
use Rattle.std.proofs.Math.Bool.{true, false}
use mathlib.Core.List.{List, [], ◌++◌, append_assoc}
use Prim.Native.Nat.{ℕ, zero, suc, ◌+◌, ◌-◌, ◌≤◌}
use Rattle.std.proofs.Math.ListN.{length, drop}
use Rattle.rules.proofs.Laws.Bools.{never, and_left, and_right}
use Rattle.comparison.specs.Compare.{error_of, between, Stepped, is_pair, advanced, passed, step_of, reach_at_start, at_start, walk_from, walked, likeness_if, concluded, compared_from, compared, longer_by, ends_told, likeness_told, rest_by, rest_of}
use Rattle.comparison.proofs.Laws.Steps.{Stepping, each_step, walk_here, walk_on_lem, walk_on}
use Rattle.comparison.proofs.Laws.Steps.Stepping.{pair, first_ends, second_ends, both_end, first_broken, second_broken}
use Rattle.comparison.proofs.Laws.Lists.{same_bytes_are_equal}
use Rattle.comparison.proofs.Theorems.{the_walk_is_over}
use Rattle.comparison.specs.declared.Side.{Side}
use Rattle.comparison.specs.declared.Side.TheVariants.{First, Second}
use Rattle.comparison.specs.declared.Ends.{Ends}
use Rattle.comparison.specs.declared.Likeness.{Likeness}
use Rattle.text.specs.Lines.{ends_line, likeness_line}
use Rattle.comparison.specs.declared.Step.TheVariants.{Pair, Over}
use Rattle.comparison.specs.declared.Walk.{Walk}
use Rattle.listing.specs.Listing.{line_by, step_in, at_the_front, rest_line_by, closing_lines, differs_from, differs_lines, report}
use Rattle.listing.specs.Laws.{a_pair_goes_on, no_pair_left}
use Rattle.listing.specs.Whole.{differs_on, closing_at, Ran, ran_prints}
use Rattle.comparison.specs.declared.Reach.{Reach}

-- ---- the lines go where the walk of the answer goes
reach_on : (s : Stepped) (w : Walk) → (passed 0 s w).reach ≡ advanced s w.reach
unfolding advanced passed
reach_on (Ok (Pair p)) w = refl
reach_on (Ok (Over side)) w = refl
reach_on (Err e) w = refl

module _ (first second : List ℕ) where
  -- what is said behind the last pair of a walk that has come so far
  abbrev closing_of : Walk → List ℕ
  closing_of w = closing_at first second w.reach

  -- no pair is left
  closes : (w : Walk) → is_pair (step_of first second w) ≡ false → closing_of w ≡ closing_of (walk_on first second 0 w)
  closes w e = sym (ap closing_of (walk_here first second 0 (suc (length first)) w e))

  answer_follows : (m : ℕ) (w : Walk) → length first ≤ w.reach.first + m
      → differs_from m first second (closing_at first second) w.reach ≡ differs_from m first second (λ r. []) w.reach ++ closing_of (walk_on first second 0 w)
  unfolding differs_from passed
  answer_follows zero w h = closes w (no_pair_left first second w.reach (omega arith))
  answer_follows (suc m) w h =
      go (is_pair (step_of first second w)) refl
      (λ t. let o = a_pair_goes_on first second w.reach t in
      rw (reach_on (step_of first second w) w) at
      (answer_follows m (passed 0 (step_of first second w) w) (rw (reach_on (step_of first second w) w) (omega (arith, o.first_on)))))
    where
      next : Reach
      next = advanced (step_of first second w) w.reach

      line : List ℕ
      line = line_by at_the_front first second (step_of first second w) w.reach

      go : (x : Bool) → is_pair (step_of first second w) ≡ x
          → (is_pair (step_of first second w) ≡ true
          → differs_from m first second (closing_at first second) next
          ≡ differs_from m first second (λ r. []) next ++ closing_of (walk_on first second 0 (passed 0 (step_of first second w) w)))
          → cond x (line ++ differs_from m first second (closing_at first second) next) (closing_of w)
          ≡ cond x (line ++ differs_from m first second (λ r. []) next) [] ++ closing_of (walk_on first second 0 w)
      go true t rest =
          ap (λ (l : List ℕ). line ++ l) (rest t ∙ ap (λ (v : Walk). differs_from m first second (λ r. []) next ++ closing_of v) (sym (walk_on_lem first second 0 w t)))
          ∙ sym (append_assoc line (differs_from m first second (λ r. []) next) (closing_of (walk_on first second 0 w)))
      go false t rest = closes w t

  -- ---- pairs that are the same take the same places
  abbrev Together : Walk → Type 0
  Together w = w.reach.alike ≡ true → w.reach.first ≡ w.reach.second

  stays_together : (w : Walk) {s : Stepped} → Stepping first w.reach.first second w.reach.second s → Together w → Together (passed 0 s w)
  unfolding passed advanced
  stays_together w (pair {v} {w = u} a b) t alike =
      let e = same_bytes_are_equal (between w.reach.first v.next first) (between w.reach.second u.next second) (and_right w.reach.alike _ alike) in
      let long : length (between w.reach.first v.next first) ≡ length (between w.reach.second u.next second) = ap length e in
      let m : length (between w.reach.first v.next first) ≡ v.next - w.reach.first = simp (length-take, length-drop) (omega (arith, a.onward, a.within)) in
      let n : length (between w.reach.second u.next second) ≡ u.next - w.reach.second = simp (length-take, length-drop) (omega (arith, b.onward, b.within)) in
      omega (arith, t (and_left w.reach.alike _ alike), a.onward, b.onward)
  stays_together w (first_ends h v) t a = t a
  stays_together w (second_ends u h) t a = t a
  stays_together w (both_end h k) t a = t a
  stays_together w (first_broken x) t a = t a
  stays_together w (second_broken x) t a = t a

  together_from : (m : ℕ) (w : Walk) → Together w → Together (walk_from m first second 0 w)
  unfolding walk_from
  together_from zero w t = t
  together_from (suc m) w t =
      go (is_pair (step_of first second w)) (together_from m (passed 0 (step_of first second w) w) (stays_together w (each_step first w.reach.first second w.reach.second) t))
    where
      go : (x : Bool) → Together (walk_from m first second 0 (passed 0 (step_of first second w) w))
          → Together (cond x (walk_from m first second 0 (passed 0 (step_of first second w) w)) w)
      go true rest = rest
      go false rest = t

  together : Together (walked first second 0)
  unfolding walked
  together = together_from (suc (length first)) at_start (λ e. refl)

-- ---- the rest that the lines tell is the one that is handed back
rest_told : (l : Option Likeness) (e : Option Ends) (m n k : ℕ) → (longer_by l e ≡ Some First → m ≡ k) → (longer_by l e ≡ Some Second → n ≡ k)
    → closing_lines l e m n ≡ closing_lines l e k k
unfolding closing_lines rest_line_by
rest_told l e m n k f g = ap (λ (x : List ℕ). (ends_line e ++ x) ++ likeness_line l) (go (longer_by l e) f g)
  where
    go : (x : Option Side) → (x ≡ Some First → m ≡ k) → (x ≡ Some Second → n ≡ k) → rest_line_by x m n ≡ rest_line_by x k k
    go (Some First) f g = ap (λ (i : ℕ). rest_line_by (Some First) i i) (f refl)
    go (Some Second) f g = ap (λ (i : ℕ). rest_line_by (Some Second) i i) (g refl)
    go None f g = refl

-- what the answer says of a walk that is over
abbrev longer_over : Option Side → ℕ → Bool → Option Side
longer_over side number alike = longer_by (Some (likeness_if alike side)) (Some (record { side = side; records = number }))

first_longer : (side : Option Side) (number : ℕ) (alike : Bool) → longer_over side number alike ≡ Some First → (side ≡ Some Second) × (alike ≡ true)
first_longer (Some First) n true e = never (cc)
first_longer (Some First) n false e = never (cc)
first_longer (Some Second) n true e = (refl, refl)
first_longer (Some Second) n false e = never (cc)
first_longer None n true e = never (cc)
first_longer None n false e = never (cc)

second_longer : (side : Option Side) (number : ℕ) (alike : Bool) → longer_over side number alike ≡ Some Second → (side ≡ Some First) × (alike ≡ true)
second_longer (Some First) n true e = (refl, refl)
second_longer (Some First) n false e = never (cc)
second_longer (Some Second) n true e = never (cc)
second_longer (Some Second) n false e = never (cc)
second_longer None n true e = never (cc)
second_longer None n false e = never (cc)

first_at_its_end : {first : List ℕ} {p : ℕ} {second : List ℕ} {q : ℕ} → Stepping first p second q (Ok (Over (Some First))) → p ≡ length first
first_at_its_end (first_ends h v) = h

second_at_its_end : {first : List ℕ} {p : ℕ} {second : List ℕ} {q : ℕ} → Stepping first p second q (Ok (Over (Some Second))) → q ≡ length second
second_at_its_end (second_ends u h) = h

module _ (first second : List ℕ) (sound : error_of first second ≡ Ok tt) where
  abbrev end : Reach
  end = (walked first second 0).reach

  over : (side : Option Side) × (step_in first second end ≡ Ok (Over side))
  over = the_walk_is_over first second sound 0

  ends_with : (side : Option Side) → over.0 ≡ side → step_in first second end ≡ Ok (Over side)
  ends_with side e = over.1 ∙ ap (λ (x : Option Side). Ok (Over x)) e

  answer_is : compared first second 0 ≡ Ok (compared_from first second (walked first second 0))
  unfolding compared
  answer_is = rw sound

  -- it is told by the last step
  likeness_is : likeness_told (compared first second 0) ≡ Some (likeness_if end.alike over.0)
  unfolding compared_from concluded
  likeness_is = ap likeness_told answer_is ∙ rw over.1

  ends_is : ends_told (compared first second 0) ≡ Some (record { side = over.0; records = end.number })
  unfolding compared_from concluded
  ends_is = ap ends_told answer_is ∙ rw over.1

  abbrev longer : Option Side
  longer = longer_over over.0 end.number end.alike

  rest_is : rest_of first second ≡ rest_by longer first second
  unfolding rest_of
  rest_is = rw (likeness_is, ends_is)

  first_left : longer ≡ Some First → length first - end.first ≡ length (rest_of first second)
  first_left e =
      let w = first_longer over.0 end.number end.alike e in
      let ends : end.second ≡ length second = second_at_its_end (rw (ends_with (Some Second) w.0) at (each_step first end.first second end.second)) in
      let rest : rest_of first second ≡ drop (length second) first = rest_is ∙ ap (λ (x : Option Side). rest_by x first second) e in
      rw (rest, length-drop) (omega (arith, together first second w.1))

  second_left : longer ≡ Some Second → length second - end.second ≡ length (rest_of first second)
  second_left e =
      let w = second_longer over.0 end.number end.alike e in
      let ends : end.first ≡ length first = first_at_its_end (rw (ends_with (Some First) w.0) at (each_step first end.first second end.second)) in
      let rest : rest_of first second ≡ drop (length first) second = rest_is ∙ ap (λ (x : Option Side). rest_by x first second) e in
      rw (rest, length-drop) (omega (arith, together first second w.1))

  closing_is : closing_at first second end
      ≡ closing_lines (likeness_told (compared first second 0)) (ends_told (compared first second 0)) (length (rest_of first second)) (length (rest_of first second))
  closing_is =
      let told : closing_at first second end ≡ closing_lines (Some (likeness_if end.alike over.0)) (Some (record { side = over.0; records = end.number })) (length first - end.first) (length second - end.second) = rw over.1 in
      told
      ∙ rest_told _ _ (length first - end.first) (length second - end.second) (length (rest_of first second)) first_left second_left
      ∙ rw (likeness_is, ends_is)

  report_is : differs_on first second (closing_at first second) reach_at_start ≡ report first second
  unfolding report differs_lines walked
  report_is =
      answer_follows first second (suc (length first)) at_start (omega arith)
      ∙ ap (λ (l : List ℕ). differs_from (suc (length first)) first second (λ r. []) reach_at_start ++ l) closing_is
      ∙ rw answer_is

  -- however the traces are cut, a program that begins at the beginning of both prints the report
  pub however_cut : {here there out : List ℕ} → Ran first second at_the_front here there reach_at_start out → out ≡ report first second
  however_cut ran = ran_prints ran ∙ report_is
