-- `rests::answer::tell_records` meets its contract: from each place on there are whole records to the end, so it stops there and
-- nowhere before; the measure is what is left.
-- Assumes nothing.
use Rattle.std.proofs.Common.{◌≡◌, sym, ap, ◌∙◌, List, ℕ, ◌≤◌, ◌<◌, length, arith, rules, None, Ok}
use Rattle.rules.specs.Trace.{behind, read_at}
use Rattle.rules.proofs.Laws.Bools.{never}
use Rattle.rules.proofs.Laws.Trace.{end_at_the_end, found_only_whole}
use Rattle.rules.specs.declared.trace.Record.{Record}
use Rattle.rules.specs.Results.{Read, found}
use Rattle.trace.specs.Extents.{extent_of}
use Rattle.comparison.specs.Compare.{past_of}
use Rattle.comparison.proofs.Laws.Records.{Records, without_error}
use Rattle.comparison.proofs.Laws.Records.Records.{none_left, one_more}
use Rattle.comparison.specs.declared.Side.TheVariants.{First}
use Rattle.rests.proofs.answer.tell_records.Invariants.{Whole}
use Rattle.rests.proofs.answer.tell_records.Goals as goal

-- a record takes a byte at least, and ends inside
onward : (trace : List ℕ) (at : ℕ) {r : Record} {next : ℕ} → read_at trace at ≡ found r next → (at < next) × (next ≤ length trace)
unfolding behind
onward trace at {r} {next} e =
    let here = found_only_whole trace at r next e in
    (omega (arith, here.to), omega (arith, here.to, here.inside))

one_on : {trace : List ℕ} {at next : ℕ} {r : Record} {rs : List (List ℕ)} → Records trace at rs → read_at trace at ≡ found r next → Whole trace next
one_on {trace} {at} {next} {r} (none_left d) e =
    let none : found r next ≡ Ok None = sym e ∙ end_at_the_end trace at d in
    never (cc)
one_on {next = next} {r = r} (one_more {w = v} w more) e = (_, rw (same (sym w.reads ∙ e)) at more)
  where
    same : {s : Record} → found s v.next ≡ found r next → v.next ≡ next
    same f = ap (λ (read : Read). past_of (extent_of read) 0) f

pub loop-found-init : goal.loop-found-init
loop-found-init g c = (search rules, (omega arith, without_error c.args.records.now First c.requires.0))

pub loop-found-smaller : goal.loop-found-smaller
loop-found-smaller g c =
    let next = onward c.args.records.now c.loop-found.at (sym c.read_at.ensures.value ∙ c.in-Ok-Some.is ∙ ap Ok c.in-Ok-Some.field-0-is) in
    omega (arith, next.0, next.1)

pub loop-found-preserved : goal.loop-found-preserved
loop-found-preserved g c =
    let reads = sym c.read_at.ensures.value ∙ c.in-Ok-Some.is ∙ ap Ok c.in-Ok-Some.field-0-is in
    let next = onward c.args.records.now c.loop-found.at reads in
    (search rules, (next.1, one_on c.loop-found.invariant.1.1.1 reads))
