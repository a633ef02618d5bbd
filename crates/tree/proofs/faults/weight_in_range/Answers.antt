-- `faults::weight_in_range` meets its contract, side by side.
-- Assumes nothing.
use borrow.Author.Rules.{rules}
use Rattle.rules.specs.Tree.{weight_in_range}
use Rattle.tree.proofs.faults.weight_in_range.Goals as goal

pub returns : goal.returns
unfolding weight_in_range
returns c = search rules
