-- `of` of an active tree meets its contract: the set is that of the active nodes, and the sums are among them.
-- Assumes nothing.
use Rattle.tree.proofs.Lit.{lit_here}
use Rattle.tree.proofs.active.ActiveTree.of.Goals as goal

pub child_sums-sums-requires : goal.child_sums-sums-requires
child_sums-sums-requires c = lit_here c.requires.0 c.args.active c.requires.1 c.ranges.active.fits c.active_nodes-nodes.ensures

pub invariant_of-result : goal.invariant_of-result
invariant_of-result c = record {
  lit = lit_here c.requires.0 c.args.active c.requires.1 c.ranges.active.fits c.active_nodes-nodes.ensures;
  summed = c.child_sums-sums.ensures;
}
