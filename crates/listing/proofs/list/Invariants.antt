-- `listing::list` meets its contract: each turn passes one pair, and its line stands behind those before it.
-- Assumes nothing.
use Rattle.std.proofs.Common.{◌-◌, length}
use Rattle.listing.proofs.Going.{Going}
use Rattle.listing.proofs.list.Given as goal

abbrev pub invariant-loop-pair : goal.invariant-loop-pair
invariant-loop-pair l = Going l.begins l.here l.there l.initial.reach l.initial.out l.out l.reach l.count

abbrev pub decreases-loop-pair : goal.decreases-loop-pair
decreases-loop-pair l = length l.here - l.reach.first
