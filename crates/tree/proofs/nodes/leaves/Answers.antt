-- `nodes::leaves` meets its contract: at the loop's head are the leaves of the tree that ends before the node.
-- Assumes nothing.
use Rattle.std.proofs.Common.{◌<◌, get_or, arith}
use Rattle.tree.specs.View.{tree_of, Climbs}
use Rattle.tree.proofs.View.{last_at, sound_climbs}
use Rattle.tree.proofs.Cut.{no_leaves, leaves_cut, leaves_whole}
use Rattle.tree.proofs.nodes.leaves.Goals as goal

pub loop-node-init : goal.loop-node-init
loop-node-init c =
    let cut = tree_of 1 c.args.tree.now.parents c.args.tree.now.weights in
    (omega arith, no_leaves cut (last_at cut))

-- above the needs that a lie about it may leave true: the first error is what is false
pub loop-node-preserved : goal.loop-node-preserved
loop-node-preserved c =
    let t = c.args.tree.now in
    let up : Climbs t.parents c.loop-node.node = λ k p q. sound_climbs t c.requires k p (omega arith) in (
      omega arith,
      leaves_cut t.parents t.weights c.loop-node.node (omega arith) up c.from.ensures c.loop-node.invariant.1 c.insert.ensures c.remove-found.ensures,
    )

pub remove-found-requires : goal.remove-found-requires
remove-found-requires c =
    let t = c.args.tree.now in
    let u : get_or t.parents c.loop-node.node 0 < c.loop-node.node = sound_climbs t c.requires c.loop-node.node (omega arith) (omega arith) in
    omega (arith, c.from.ensures, c.requires.most)

pub returns : goal.returns
returns c =
    let t = c.args.tree.now in
    leaves_whole t.parents t.weights t.count c.loop-node.node (omega arith) (omega arith) c.loop-node.invariant.0 c.loop-node.invariant.1
