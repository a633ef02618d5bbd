-- `cost::pricing::price_of` meets its contract by those of the page cost and the bases.
-- Assumes nothing.
use Rattle.rules.specs.Cost.{price_of, base_cost}
use Rattle.cost.proofs.pricing.price_of.Goals as goal

pub returns : goal.returns
unfolding price_of base_cost
returns c = rw (c.base_cost-2.ensures, c.base_cost.ensures, c.page_cost-page.ensures)
