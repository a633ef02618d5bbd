-- `faults::fault` meets its contract: the count is judged first, so that every node has a place.
-- Assumes nothing.
use native.Mathlib.Omega.{arith}
use Rattle.tree.proofs.First.{too_few, too_many, in_range}
use Rattle.tree.proofs.faults.fault.Goals as goal

pub returns-then-tree-lt-NODES_LEAST : goal.returns-then-tree-lt-NODES_LEAST
returns-then-tree-lt-NODES_LEAST c = too_few c.args.tree.now (omega arith)

pub returns-then-tree-gt-NODES_MOST : goal.returns-then-tree-gt-NODES_MOST
returns-then-tree-gt-NODES_MOST c = too_many c.args.tree.now (omega arith)

pub returns : goal.returns
returns c = in_range c.args.tree.now (omega arith) (omega arith) c.first_fault.ensures
