-- `donors_counted` meets its contract: a node that gives is put in, and any other is left out.
-- Assumes nothing.
use mathlib.Core.Path.{refl, ◌∙◌}
use Rattle.rules.specs.Words.{set_to}
use Rattle.plan.specs.Steps.{bare_queues, gives_at}
use Rattle.plan.proofs.Turns.{left_out, put_in, idle_goes, gives_counted}
use Rattle.plan.proofs.donors_counted.Goals.{then-has+then-is_donor, else-has, else-has-via-then-has+else-is_donor, else-has-via-else-has}
use Rattle.plan.proofs.donors_counted.Goals as goal

pub loop-n-init : goal.loop-n-init
unfolding set_to
loop-n-init c = refl

pub loop-n-preserved : goal.loop-n-preserved
loop-n-preserved c =
    let a = c.args in
    let inside = gives_at a.active a.quiet a.bases.now a.targets.now a.rows.now (bare_queues a.waiting.now) in
    elim c.if-has.branch [
      | then-has+then-is_donor w ↦
          w.donors-is ∙ w.insert-donors.ensures ∙ put_in inside c.loop-n.donors c.loop-n.n c.loop-n.invariant c.loop-n-test.true
          (gives_counted a.waiting.now a.active a.quiet a.rows.now c.loop-n-test.true c.has.ensures w.if-has.true a.bases.now a.targets.now c.from-target.ensures c.from-base.ensures w.forgiven.ensures w.is_donor.ensures
          ∙ w.if-is_donor.true)
      | else-has w ↦
          w.donors-is ∙ left_out inside c.loop-n.donors c.loop-n.n c.loop-n.invariant
          (elim w.else-has.branch [
            | else-has-via-then-has+else-is_donor v ↦
                gives_counted a.waiting.now a.active a.quiet a.rows.now c.loop-n-test.true c.has.ensures v.if-has.true a.bases.now a.targets.now c.from-target.ensures c.from-base.ensures v.forgiven.ensures v.is_donor.ensures
                ∙ v.if-is_donor.false
            | else-has-via-else-has v ↦ idle_goes _ _ _ c.has.ensures v.if-has.false
          ])
    ]
