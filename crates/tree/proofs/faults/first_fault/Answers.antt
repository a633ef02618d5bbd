-- `faults::first_fault` meets its contract: at the loop's head every node before is sound.
-- Assumes nothing.
use Rattle.std.proofs.Common.{◌≡◌, refl, sym, ◌∙◌, ◌+◌, ◌-◌, arith}
use Rattle.std.proofs.lemmas.Result.{err_from_is_err_and}
use Rattle.rules.specs.Tree.{fault_to}
use Rattle.tree.proofs.First.{sound_so_far, here, stops, ended}
use Rattle.tree.proofs.faults.first_fault.Goals as goal

pub loop-node-init : goal.loop-node-init
unfolding fault_to
loop-node-init c = refl

pub node_fault-requires : goal.node_fault-requires
node_fault-requires c =
    (sound_so_far c.args.tree.now c.loop-node.node (omega arith) c.loop-node.invariant, omega arith, omega arith)

pub returns-in_err-node_fault : goal.returns-in_err-node_fault
returns-in_err-node_fault c =
    let p = err_from_is_err_and c.from_residual.result c.from_residual.ensures.1 in
    rw (p.1, p.2) (stops c.args.tree.now c.loop-node.node (omega arith) c.loop-node.invariant c.in_err-node_fault.ensures (omega arith))

pub loop-node-preserved : goal.loop-node-preserved
loop-node-preserved c =
    let e : c.loop-node.node + 1 - 1 ≡ c.loop-node.node = omega arith in
    rw e
    (here c.args.tree.now c.loop-node.node (omega arith) c.loop-node.invariant ∙ sym c.node_fault.ensures ∙ c.in_ok-node_fault.was)

pub returns : goal.returns
returns c = ended c.args.tree.now c.loop-node.node c.loop-node.invariant (omega arith)
