-- `faults::first_fault` meets its contract: at the loop's head every node before is sound.
-- Assumes nothing.
use Rattle.std.proofs.Common.{◌≡◌, ◌-◌, Ok}
use Rattle.rules.specs.Tree.{fault_to}
use Rattle.tree.proofs.faults.first_fault.Given as goal

abbrev pub invariant-loop-node : goal.invariant-loop-node
invariant-loop-node l = fault_to l.tree (l.node - 1) ≡ Ok tt
