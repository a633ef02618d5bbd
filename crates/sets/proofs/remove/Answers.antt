-- `sets::remove` meets its contract: the bit that is taken out is a power of 2, of which the difference is that of the sets.
-- Assumes nothing.
use Rattle.rules.proofs.Laws.Sets.{one_shift, remove_bit}
use Rattle.sets.proofs.remove.Goals as goal

pub returns : goal.returns
returns c = rw (one_shift c.args.n c.requires) (remove_bit c.args.set c.args.n c.ranges.set.fits c.requires)
