-- `staying_counted` meets its contract: a node that does not stay is taken out, and any other is left.
-- Assumes nothing.
use mathlib.Core.Path.{◌≡◌, ◌∙◌}
use native.Mathlib.Omega.{arith}
use Rattle.plan.specs.Steps.{bare_queues, keeps_at}
use Rattle.plan.proofs.Turns.{none_cleared, all_cleared, left_in, taken_out, keeps_counted}
use Rattle.plan.proofs.staying_counted.Goals.{then-not-stays, else-not-stays}
use Rattle.plan.proofs.staying_counted.Goals as goal

pub loop-n-init : goal.loop-n-init
loop-n-init c = none_cleared c.args.active (keeps_at c.args.quiet c.args.rows.now (bare_queues c.args.waiting.now)) c.ranges.active.fits

pub loop-n-preserved : goal.loop-n-preserved
loop-n-preserved c =
    let a = c.args in
    let keeps = keeps_at a.quiet a.rows.now (bare_queues a.waiting.now) in
    let told = keeps_counted a.waiting.now a.quiet a.rows.now c.loop-n-test.true c.forgiven.ensures c.stays.ensures in
    elim c.if-not-stays.branch [
      | then-not-stays w ↦
          w.staying-is ∙ w.remove-staying.ensures
          ∙ taken_out a.active keeps c.loop-n.staying c.loop-n.n c.loop-n.invariant (told ∙ w.if-not-stays.true)
      | else-not-stays w ↦
          w.staying-is
          ∙ left_in a.active keeps c.loop-n.staying c.loop-n.n c.loop-n.invariant (told ∙ w.if-not-stays.false)
    ]

pub returns : goal.returns
returns c =
    let a = c.args in
    let past : c.loop-n.n ≡ 64 = omega (arith, c.loop-n-test.false, c.loop-n.auto.n-end) in
    rw past at c.loop-n.invariant ∙ all_cleared a.active (keeps_at a.quiet a.rows.now (bare_queues a.waiting.now))
