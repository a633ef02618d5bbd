-- `cost::pricing::rates_in_range` meets its contract by those of the tests of one rate.
-- Assumes nothing.
use Rattle.rules.specs.Cost.{rates_in_range}
use Rattle.cost.proofs.pricing.rates_in_range.Goals as goal

pub returns : goal.returns
unfolding rates_in_range
returns c = rw (c.bps_in_range.ensures, c.iops_in_range.ensures, c.iops_in_range-2.ensures, c.bps_in_range-2.ensures, c.iops_in_range-3.ensures, c.iops_in_range-4.ensures)
