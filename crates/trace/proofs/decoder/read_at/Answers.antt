-- `trace::decoder::read_at` meets its contract: what stands at the place, with its numbers.
-- Assumes nothing.
use mathlib.Core.Path.{◌≡◌, sym, ◌∙◌}
use mathlib.Core.List.{List}
use Prim.Native.Nat.{ℕ}
use native.Mathlib.Omega.{arith}
use Rattle.std.specs.Prelude.{Result, Ok, Option, Some}
use Rattle.std.proofs.lemmas.Result.{err_from_is_err_and}
use Rattle.rules.specs.Results.{Read}
use Rattle.rules.specs.Trace.{read_at}
use Rattle.rules.proofs.Laws.Refusals.{read_on_paper}
use Rattle.rules.specs.declared.refusals.Refusal.{Refusal}
use Rattle.trace.specs.declared.decoder.Whole.{Whole}
use Rattle.trace.specs.Answers.{ReadOnPaper}
use Rattle.trace.specs.Extents.{extent_at}
use Rattle.trace.proofs.ExtentLaws.{IsWhole, whole_only, err_only, end_only}
use Rattle.trace.proofs.decoder.read_at.Goals as goal

-- both clauses, from the first
abbrev Both : List ℕ → ℕ → Read → Type 0
Both trace at r = record { value : r ≡ read_at trace at; number : ReadOnPaper trace at r }

both : (trace : List ℕ) (at : ℕ) {r : Read} → r ≡ read_at trace at → Both trace at r
both trace at e = record { value = e; number = read_on_paper trace at e }

stands : (l : List ℕ) (at : ℕ) (w : Whole) {r : Result (Option Whole) Refusal} {o : Option Whole} → r ≡ extent_at l at → r ≡ Ok o → o ≡ Some w → IsWhole l at w
stands l at w e f g = whole_only l at w (sym e ∙ (rw g at f))

pub returns-in_err-whole : goal.returns-in_err-whole
returns-in_err-whole c =
    let p = err_from_is_err_and c.from_residual.result c.from_residual.ensures.1 in
    both _ _ (p.1 ∙ rw p.2 (sym (err_only _ _ _ (sym c.extent.ensures ∙ c.in_err-whole.was))))

pub returns-in_default : goal.returns-in_default
returns-in_default c = both _ _ (sym (end_only _ _ (sym c.extent.ensures ∙ (rw c.in_default.is at c.in_ok-whole.was))))

pub overflow_add-at : goal.overflow_add-at
overflow_add-at c = let w = stands _ _ _ c.extent.ensures c.in_ok-whole.was c.in-Some.is in omega (arith, w.inside, w.to)

pub record_at-item-requires : goal.record_at-item-requires
record_at-item-requires c = let w = stands _ _ _ c.extent.ensures c.in_ok-whole.was c.in-Some.is in omega (arith, w.inside, w.to)

pub returns : goal.returns
returns c = let w = stands _ _ _ c.extent.ensures c.in_ok-whole.was c.in-Some.is in both _ _ (rw c.record_at-item.ensures (sym w.it))
