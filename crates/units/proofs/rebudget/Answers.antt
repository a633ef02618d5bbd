-- `units::rebudget` meets its contract: the test is the rule's own.
-- Assumes nothing.
use borrow.Author.Tests.{lt-ltb, le-ltb}
use Rattle.rules.specs.Budget.{rebudget}
use Rattle.units.proofs.rebudget.Goals as goal

pub returns-then-h-k : goal.returns-then-h-k
unfolding rebudget
returns-then-h-k c = simp (lt-ltb _ _ c.if-h-k.true)

pub returns-else-h-k : goal.returns-else-h-k
unfolding rebudget
returns-else-h-k c = simp (le-ltb _ _ c.if-h-k.false)
