-- The measure is the node's number, and a parent's is smaller.
-- Assumes nothing.
use Rattle.tree.proofs.active.ActiveTree.+share_of.Given as goal

abbrev pub decreases-share_of : goal.decreases-share_of
decreases-share_of l = l.node
