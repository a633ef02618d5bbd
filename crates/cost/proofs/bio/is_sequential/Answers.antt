-- `cost::bio::is_sequential` meets its contract by that of `is_near`.
-- Assumes nothing.
use Rattle.rules.specs.Cost.{is_sequential}
use Rattle.cost.proofs.bio.is_sequential.Goals as goal

pub returns : goal.returns
unfolding is_sequential
returns c = rw c.is_near.ensures
