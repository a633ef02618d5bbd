-- `comparison::one::records_end` meets its contract: each whole record goes on, and stays inside.
-- Assumes nothing.
use Rattle.std.proofs.Common.{◌≡◌, ℕ, List, Option, Some, Ok, sym, ap, ◌∙◌, arith}
use Rattle.trace.specs.Extents.{extent_at}
use Rattle.trace.specs.declared.decoder.Whole.{Whole}
use Rattle.comparison.specs.Compare.{Extent}
use Rattle.comparison.proofs.Laws.Steps.{WholeAt, whole_at, records_end_on}
use Rattle.comparison.proofs.one.records_end.Goals as goal

whole : (trace : List ℕ) (at : ℕ) {e : Extent} {o : Option Whole} {w : Whole} → e ≡ extent_at trace at → e ≡ Ok o → o ≡ Some w → WholeAt trace at w
whole trace at told f g = whole_at trace at (sym told ∙ f ∙ ap Ok g)

pub loop-whole-smaller : goal.loop-whole-smaller
loop-whole-smaller c =
    let w = whole _ _ c.extent.ensures c.in-Ok-Some.is c.in-Ok-Some.field-0-is in
    omega (arith, w.onward, w.within)

pub loop-whole-preserved : goal.loop-whole-preserved
loop-whole-preserved c =
    let w = whole _ _ c.extent.ensures c.in-Ok-Some.is c.in-Ok-Some.field-0-is in
    (sym (records_end_on _ _ w.extent) ∙ c.loop-whole.invariant.0, w.within)
