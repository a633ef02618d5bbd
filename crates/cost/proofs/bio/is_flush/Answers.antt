-- `cost::bio::is_flush` meets its contract by that of `is_write`.
-- Assumes nothing.
use Rattle.rules.specs.Cost.{is_flush}
use Rattle.cost.proofs.bio.is_flush.Goals as goal

pub returns : goal.returns
unfolding is_flush
returns c = rw c.is_write.ensures
