-- `nodes::active_nodes` meets its contract: at the loop's head are the nodes that the pass has reached.
-- Assumes nothing.
use Rattle.std.proofs.Common.{◌-◌, ◌<◌, get_or, sym, ◌∙◌, arith}
use Rattle.tree.proofs.View.{parent_at, last_at, sound_climbs}
use Rattle.tree.proofs.Reach.{pass_starts, pass_adds, pass_skips, pass_ends}
use Rattle.tree.proofs.nodes.active_nodes.Goals as goal

pub loop-node-init : goal.loop-node-init
loop-node-init c = pass_starts c.requires.0 c.args.active c.requires.1 _ c.ranges.active.fits (omega arith)

pub insert-nodes-requires : goal.insert-nodes-requires
insert-nodes-requires c =
    let t = c.args.tree.now in
    let n = c.loop-node.node - 1 in
    let u : get_or t.parents n 0 < n = sound_climbs t c.requires.0 n (omega arith) (omega arith) in
    omega (arith, c.from.ensures, c.requires.0.most)

pub loop-node-preserved-then-has : goal.loop-node-preserved-then-has
loop-node-preserved-then-has c =
    let t = c.args.tree.now in
    let pos : 0 < c.loop-node.node - 1 = omega arith in
    pass_adds c.requires.0 c.args.active c.requires.1 c.loop-node.invariant (omega arith) pos (rw (last_at t) (omega arith))
    (sym c.has.ensures ∙ c.if-has.true) (c.from.ensures ∙ sym (parent_at t (c.loop-node.node - 1) pos)) c.insert-nodes.ensures

pub loop-node-preserved : goal.loop-node-preserved
loop-node-preserved c =
    pass_skips c.requires.0 c.args.active c.requires.1 c.loop-node.invariant (omega arith) (omega arith)
    (rw (last_at c.args.tree.now) (omega arith)) (sym c.has.ensures ∙ c.if-has.false)

pub returns : goal.returns
returns c = pass_ends c.requires.0 c.args.active c.requires.1 c.loop-node.invariant (omega arith)
