-- `trace::decoder::extent` meets its contract: each answer is that of the rules' case.
-- Assumes nothing.
use native.Mathlib.Omega.{arith}
use Rattle.std.proofs.lemmas.Result.{err_from_is_err_and}
use Rattle.rules.proofs.Laws.Trace.{beyond_is_cut, end_at_the_end, unknown_is_refused}
use Rattle.trace.specs.Extents.{extent_at}
use Rattle.trace.proofs.ExtentLaws.{cut_short, whole_stands}
use Rattle.trace.proofs.decoder.extent.Goals as goal

pub returns-then-trace-at : goal.returns-then-trace-at
unfolding extent_at
returns-then-trace-at c = rw (beyond_is_cut _ _ c.if-trace-at.true)

pub returns-then-at-trace : goal.returns-then-at-trace
unfolding extent_at
returns-then-at-trace c = rw (end_at_the_end _ _ c.if-at-trace.true)

pub returns-in_err-kind : goal.returns-in_err-kind
unfolding extent_at
returns-in_err-kind c =
    let p = err_from_is_err_and c.from_residual.result c.from_residual.ensures.1 in
    let d = rw c.in_err-kind.was at c.try_from.ensures in
    rw (p.1, p.2, d.1, unknown_is_refused c.args.trace.now c.args.at (omega arith) d.0)

pub returns-then-len-trace : goal.returns-then-len-trace
returns-then-len-trace c =
    let d = rw c.in_ok-kind.was at c.try_from.ensures in
    whole_stands c.args.trace.now c.args.at _ _ (omega arith) d.0 d.1 c.body_len-len.ensures (omega arith)

pub returns-else-len-trace : goal.returns-else-len-trace
returns-else-len-trace c =
    let d = rw c.in_ok-kind.was at c.try_from.ensures in
    cut_short c.args.trace.now c.args.at _ _ (omega arith) d.0 d.1 c.body_len-len.ensures (omega arith)
