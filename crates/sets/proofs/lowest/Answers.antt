-- `sets::lowest` meets its contract: the zeros below the lowest 1 are its number.
-- Assumes nothing.
use Rattle.sets.proofs.Zeros.{zeros_lowest}
use Rattle.sets.proofs.lowest.Goals as goal

-- above the needs that a lie about it may leave true: the first error is what is false
pub returns : goal.returns
returns c = zeros_lowest c.args.set c.requires c.ranges.set.fits
