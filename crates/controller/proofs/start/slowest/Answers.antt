-- `slowest` meets its contract: the prices are those of the slowest rates.
-- Assumes nothing.
use mathlib.Core.Path.{refl}
use Rattle.rules.specs.Cost.{page_cost, base_cost, price_of, priced}
use Rattle.controller.proofs.start.slowest.Goals as goal

pub returns : goal.returns
unfolding priced price_of page_cost base_cost
returns c = refl
