-- `nodes::leaves` meets its contract: at the loop's head are the leaves of the tree that ends before the node.
-- Assumes nothing.
use Rattle.std.proofs.Common.{◌≡◌, ◌-◌, ◌≤◌}
use Rattle.rules.specs.Tree.{leaves_of}
use Rattle.tree.specs.View.{tree_of}
use Rattle.tree.proofs.nodes.leaves.Given as goal

abbrev pub invariant-loop-node : goal.invariant-loop-node
invariant-loop-node l = (l.node - 1 ≤ l.tree.count - 1) × (l.found ≡ leaves_of (tree_of l.node l.tree.parents l.tree.weights))
