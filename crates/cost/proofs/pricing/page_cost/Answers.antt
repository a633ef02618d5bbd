-- `cost::pricing::page_cost` meets its contract by that of `ceil_div`.
-- Assumes nothing.
use mathlib.Core.Path.{ap}
use Rattle.rules.specs.Units.{abs}
use Rattle.rules.specs.Cost.{page_cost}
use Rattle.cost.proofs.pricing.page_cost.Goals as goal

pub returns : goal.returns
unfolding page_cost
returns c = ap abs c.ceil_div.ensures
