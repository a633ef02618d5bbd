-- `cost::bio::cost_at` meets its contract: a base, and the pages by their price.
-- Assumes nothing.
use Rattle.rules.specs.Cost.{cost_at}
use Rattle.cost.proofs.bio.cost_at.Goals as goal

pub returns : goal.returns
unfolding cost_at
returns c = rw (c.base_of-base.ensures, c.pages.ensures)
