-- `units::rel_cost` meets its contract by that of `ceil_div`.
-- Assumes nothing.
use mathlib.Core.Path.{ap}
use Rattle.rules.specs.Units.{virt, relative}
use Rattle.units.proofs.rel_cost.Goals as goal

pub returns : goal.returns
unfolding relative
returns c = ap virt c.ceil_div-relative.ensures
