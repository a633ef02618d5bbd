-- `nodes::active_nodes` meets its contract: at the loop's head are the nodes that the pass has reached.
-- Assumes nothing.
use Rattle.std.proofs.Common.{◌≡◌}
use Rattle.rules.specs.Words.{set_of}
use Rattle.tree.proofs.Reach.{reached}
use Rattle.tree.proofs.nodes.active_nodes.Given as goal

abbrev pub invariant-loop-node : goal.invariant-loop-node
invariant-loop-node l = l.nodes ≡ set_of (reached l.tree l.active l.node)
