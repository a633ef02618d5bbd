-- `faults::newest` meets its contract: the last node, by the same test as every node of a whole tree.
-- Assumes nothing.
use native.Mathlib.Omega.{arith}
use Rattle.tree.proofs.First.{climbs_before, newest_at}
use Rattle.tree.proofs.faults.newest.Goals as goal

pub node_fault-requires : goal.node_fault-requires
node_fault-requires c =
    (climbs_before c.args.tree c.requires.1 c.requires.2, omega arith, omega arith)

pub returns : goal.returns
returns c = newest_at c.args.tree c.requires.1 c.node_fault.ensures
