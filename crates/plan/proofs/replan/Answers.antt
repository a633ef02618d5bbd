-- `replan` meets its contract: it is refused by the rule's own test, and else carried out as the plan of the rules.
-- Assumes nothing.
use Rattle.plan.proofs.Steps.{refused, some_passed, accepted}
use Rattle.plan.proofs.replan.Goals as goal

pub returns-then-not-is_due : goal.returns-then-not-is_due
returns-then-not-is_due c = refused c.args.c.now c.is_due.ensures c.if-not-is_due.true

-- above the need that a lie about it may leave true: the first error is what is false
pub returns : goal.returns
returns c =
    accepted c.args.c.now (some_passed c.args.c.now c.is_due.ensures c.if-not-is_due.false) c.carry_out.ensures

pub carry_out-requires : goal.carry_out-requires
carry_out-requires c = (c.requires, some_passed c.args.c.now c.is_due.ensures c.if-not-is_due.false)
