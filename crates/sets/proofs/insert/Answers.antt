-- `sets::insert` meets its contract: the bit that is put in is a power of 2, of which the union is that of the sets.
-- Assumes nothing.
use Rattle.rules.proofs.Laws.Sets.{one_shift, insert_bit}
use Rattle.sets.proofs.insert.Goals as goal

pub returns : goal.returns
returns c = rw (one_shift c.args.n c.requires) (insert_bit c.args.set c.args.n c.ranges.set.fits c.requires)
