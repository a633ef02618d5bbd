-- `follow` meets its contract: at the loop's head the rows passed are planned, and the others as they were.
-- Assumes nothing.
use mathlib.Core.Path.{◌∙◌}
use native.Mathlib.Omega.{arith}
use Rattle.rules.specs.Budget.{empty_row}
use Rattle.rules.proofs.Laws.Sweeps.{place_here, place_put, places_done}
use Rattle.plan.specs.Steps.{planned_at}
use Rattle.plan.proofs.follow.Goals as goal

pub planned_row-requires : goal.planned_row-requires
planned_row-requires c =
    let a = c.args in
    let planned = planned_at a.quiet a.active a.before.now a.after.now a.rows.now in
    let here = place_here planned a.rows.now c.loop-n.rows c.loop-n.n empty_row c.told-rows c.loop-n.invariant c.loop-n-test.true in
    rw (c.has.ensures, here) (c.requires.worthy c.loop-n.n c.loop-n-test.true)

pub loop-n-preserved : goal.loop-n-preserved
loop-n-preserved c =
    let a = c.args in
    let planned = planned_at a.quiet a.active a.before.now a.after.now a.rows.now in
    let here = place_here planned a.rows.now c.loop-n.rows c.loop-n.n empty_row c.told-rows c.loop-n.invariant c.loop-n-test.true in
    place_put planned a.rows.now c.loop-n.rows c.loop-n.n empty_row c.told-rows c.loop-n.invariant c.loop-n-test.true
    c.planned_row.result (c.planned_row.ensures ∙ rw (c.has.ensures, here))

pub returns : goal.returns
returns c =
    let a = c.args in
    places_done (planned_at a.quiet a.active a.before.now a.after.now a.rows.now)
    a.rows.now c.loop-n.rows c.loop-n.n c.told-rows c.loop-n.invariant (omega arith)
