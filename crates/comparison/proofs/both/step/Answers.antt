-- `comparison::both::step` meets its contract: a record that was found lies inside its trace, and its kind is its first byte.
-- Assumes nothing.
use Rattle.std.proofs.Common.{rules, ◌≡◌, ℕ, suc, ◌+◌, ◌-◌, ◌≤◌, ◌&&◌, List, length, get_or, eqb, Bool, Option, Some, Result, Ok, Err, sym, ap, ◌∙◌, arith, drop-cons, add-one, eq-eqb}
use Rattle.std.proofs.lemmas.Bool.{ne_eqb}
use Rattle.rules.proofs.Laws.Bools.{never}
use Rattle.trace.specs.Extents.{extent_at}
use Rattle.trace.specs.declared.decoder.Whole.{Whole}
use Rattle.comparison.specs.Compare.{Extent, found_by, same_bytes, between, step_at}
use Rattle.comparison.proofs.Laws.Steps.{WholeAt, whole_at, pair_step}
use Rattle.comparison.specs.declared.Side.{Side}
use Rattle.comparison.specs.declared.Error.{Error}
use Rattle.comparison.specs.declared.Step.{Step}
use Rattle.comparison.specs.declared.Step.TheVariants.{Pair}
use Rattle.comparison.proofs.both.step.Goals as goal

found_is : (side : Side) (at : ℕ) (e : Extent) {o : Option Whole} → found_by side at e ≡ Ok o → e ≡ Ok o
found_is side at (Ok found) f = cc
found_is side at (Err x) f = never (cc)

whole : (side : Side) (trace : List ℕ) (at : ℕ) {r : Result (Option Whole) Error} {o : Option Whole} {w : Whole}
    → r ≡ found_by side at (extent_at trace at) → r ≡ Ok o → o ≡ Some w → WholeAt trace at w
whole side trace at told f g = whole_at trace at (found_is side at (extent_at trace at) (sym told ∙ f) ∙ ap Ok g)

inside : {trace : List ℕ} {at : ℕ} {w : Whole} → WholeAt trace at w → (at + 1 ≤ w.next) × (w.next ≤ length trace)
inside w = (omega (arith, w.onward), w.within)

module _ {first : List ℕ} {p : ℕ} {second : List ℕ} {q : ℕ} {v w : Whole} (one : WholeAt first p v) (other : WholeAt second q w) where
  -- the first bytes are compared, and then the bodies
  first_bytes : same_bytes (between p v.next first) (between q w.next second)
      ≡ (eqb (get_or first p 0) (get_or second q 0) && same_bytes (between (p + 1) v.next first) (between (q + 1) w.next second))
  first_bytes =
      let m : v.next - p ≡ suc (v.next - (p + 1)) = omega (arith, one.onward) in
      let n : w.next - q ≡ suc (w.next - (q + 1)) = omega (arith, other.onward) in
      rw (m, n, drop-cons first p 0 (omega (arith, one.onward, one.within)), drop-cons second q 0 (omega (arith, other.onward, other.within)), add-one p, add-one q)

  stepped : (same : Bool) → same_bytes (between p v.next first) (between q w.next second) ≡ same
      → ◌≡◌ {A = Result Step Error} (Ok (Pair (record { first = v; second = w; same = same }))) (step_at first p second q)
  stepped same e = sym (pair_step one other ∙ rw e)

  by_bodies : (same : Bool) → get_or first p 0 ≡ get_or second q 0 → same ≡ same_bytes (between (p + 1) v.next first) (between (q + 1) w.next second)
      → ◌≡◌ {A = Result Step Error} (Ok (Pair (record { first = v; second = w; same = same }))) (step_at first p second q)
  by_bodies same e f = stepped same (first_bytes ∙ rw (eq-eqb _ _ e) (sym f))

  by_kinds : (get_or first p 0 ≡ get_or second q 0 → ⊥) → ◌≡◌ {A = Result Step Error} (Ok (Pair (record { first = v; second = w; same = eqb (get_or first p 0) (get_or second q 0) }))) (step_at first p second q)
  by_kinds d = stepped _ (first_bytes ∙ rw (ne_eqb _ _ d))

pub bounds-first-p : goal.bounds-first-p
bounds-first-p c = let w = whole _ _ _ c.found.ensures c.in_ok-here.was c.in-Some-Some.is-0 in omega (arith, w.onward, w.within)

pub bounds-second-q : goal.bounds-second-q
bounds-second-q c = let w = whole _ _ _ c.found-2.ensures c.in_ok-there.was c.in-Some-Some.is-1 in omega (arith, w.onward, w.within)

pub overflow_add-p : goal.overflow_add-p
overflow_add-p c = let w = whole _ _ _ c.found.ensures c.in_ok-here.was c.in-Some-Some.is-0 in let fits = inside w in search rules

pub slice_bounds-same_body-count : goal.slice_bounds-same_body-count
slice_bounds-same_body-count c = let w = whole _ _ _ c.found.ensures c.in_ok-here.was c.in-Some-Some.is-0 in omega (arith, w.onward)

pub slice_bounds-same_body-start : goal.slice_bounds-same_body-start
slice_bounds-same_body-start c = let w = whole _ _ _ c.found.ensures c.in_ok-here.was c.in-Some-Some.is-0 in let fits = inside w in search rules

pub slice_bounds-same_body-end : goal.slice_bounds-same_body-end
slice_bounds-same_body-end c = let w = whole _ _ _ c.found.ensures c.in_ok-here.was c.in-Some-Some.is-0 in let fits = inside w in search rules

pub overflow_add-q : goal.overflow_add-q
overflow_add-q c = let w = whole _ _ _ c.found-2.ensures c.in_ok-there.was c.in-Some-Some.is-1 in let fits = inside w in search rules

pub slice_bounds-same_body-count-then-first-p : goal.slice_bounds-same_body-count-then-first-p
slice_bounds-same_body-count-then-first-p c = let w = whole _ _ _ c.found-2.ensures c.in_ok-there.was c.in-Some-Some.is-1 in omega (arith, w.onward)

pub slice_bounds-same_body-start-then-first-p : goal.slice_bounds-same_body-start-then-first-p
slice_bounds-same_body-start-then-first-p c = let w = whole _ _ _ c.found-2.ensures c.in_ok-there.was c.in-Some-Some.is-1 in let fits = inside w in search rules

pub slice_bounds-same_body-end-then-first-p : goal.slice_bounds-same_body-end-then-first-p
slice_bounds-same_body-end-then-first-p c = let w = whole _ _ _ c.found-2.ensures c.in_ok-there.was c.in-Some-Some.is-1 in let fits = inside w in search rules

pub returns-then-first-p : goal.returns-then-first-p
returns-then-first-p c =
    let v = whole _ _ _ c.found.ensures c.in_ok-here.was c.in-Some-Some.is-0 in
    let w = whole _ _ _ c.found-2.ensures c.in_ok-there.was c.in-Some-Some.is-1 in
    by_bodies v w _ c.if-first-p.true c.same_body.ensures

pub returns-else-first-p : goal.returns-else-first-p
returns-else-first-p c =
    let v = whole _ _ _ c.found.ensures c.in_ok-here.was c.in-Some-Some.is-0 in
    let w = whole _ _ _ c.found-2.ensures c.in_ok-there.was c.in-Some-Some.is-1 in
    by_kinds v w c.if-first-p.false
