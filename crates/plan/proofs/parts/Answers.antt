-- `parts` meets its contract: its steps are those of the rules, over any state with these parts.
-- Assumes nothing.
use Rattle.plan.proofs.Steps.{parts_within, parts_can_share, parts_plan}
use Rattle.plan.proofs.parts.Goals as goal

pub base_shares-bases-requires : goal.base_shares-bases-requires
base_shares-bases-requires c = parts_within c.requires.1 c.is_quiet-quiet.result c.staying_counted-active.ensures

pub shared-sharing-requires : goal.shared-sharing-requires
shared-sharing-requires c =
    parts_can_share c.requires.1 c.is_quiet-quiet.result c.staying_counted-active.ensures
    c.targets_in-targets.result c.base_shares-bases.ensures c.donors_counted-donors.ensures

pub returns : goal.returns
returns c =
    λ state shown.
    parts_plan shown c.is_quiet-quiet.result c.staying_counted-active.ensures c.targets_in-targets.result
    c.base_shares-bases.ensures c.donors_counted-donors.ensures c.usage_all.ensures c.is_quiet-quiet.ensures c.targets_in-targets.ensures
    c.shared-sharing.ensures c.follow.ensures
