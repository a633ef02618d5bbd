-- `carry_out` meets its contract: its steps are the plan of the rules.
-- Assumes nothing.
use Rattle.plan.proofs.Steps.{still_within, can_share, is_plan_lem}
use Rattle.plan.proofs.carry_out.Goals as goal

pub base_shares-bases-requires : goal.base_shares-bases-requires
base_shares-bases-requires c = still_within c.requires.0 c.is_quiet-quiet.result c.staying-active.ensures

pub shared-sharing-requires : goal.shared-sharing-requires
shared-sharing-requires c =
    can_share c.requires.0 c.is_quiet-quiet.result c.staying-active.ensures c.targets_in-targets.result
    c.base_shares-bases.ensures c.donors_in-donors.ensures

pub returns : goal.returns
returns c =
    is_plan_lem c.args.c.now c.usage_all.ensures c.is_quiet-quiet.ensures c.staying-active.ensures c.base_shares-bases.ensures
    c.targets_in-targets.ensures c.donors_in-donors.ensures c.shared-sharing.ensures c.follow.ensures c.restarted-c.ensures
