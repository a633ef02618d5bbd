-- The measure is the node's number, and a parent's is smaller.
-- Assumes nothing.
use Rattle.tree.proofs.faults.+level_of.Given as goal

abbrev pub decreases-level_of : goal.decreases-level_of
decreases-level_of l = l.node
