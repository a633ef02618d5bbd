-- `share_of` of an active tree meets its contract: a portion of the parent's share, by the sum over the active children.
-- Assumes nothing.
use Rattle.std.proofs.Common.{refl, arith}
use Rattle.tree.proofs.Lit.{lit_small, root_share, child_below, parent_asks, parent_inside, share_fits, some_weight, share_stepped}
use Rattle.tree.proofs.active.ActiveTree.+share_of.Goals as goal

pub returns-then-node-eq0 : goal.returns-then-node-eq0
returns-then-node-eq0 t c = root_share c.args.self.now.tree.now c.args.self.now.nodes c.args.node c.if-node-eq0.true

pub bounds-self-node : goal.bounds-self-node
bounds-self-node t c = lit_small c.args.self.now.lit c.args.node c.requires

pub share_of-requires : goal.share_of-requires
share_of-requires t c =
    let s = c.args.self.now in
    let k = parent_asks (child_below s.tree.now s.lit c.args.node c.requires c.if-node-eq0.false c.from-parent.ensures) c.decreases in
    (k.0, k.1.1)

pub offset_bounds-self-node : goal.offset_bounds-self-node
offset_bounds-self-node t c = omega (arith, lit_small c.args.self.now.lit c.args.node c.requires)

pub bounds-self-node-2 : goal.bounds-self-node-2
bounds-self-node-2 t c = lit_small c.args.self.now.lit c.args.node c.requires

pub bounds-self-parent : goal.bounds-self-parent
bounds-self-parent t c =
    let s = c.args.self.now in
    parent_inside (child_below s.tree.now s.lit c.args.node c.requires c.if-node-eq0.false c.from-parent.ensures)

pub portion-requires : goal.portion-requires
portion-requires t c =
    let s = c.args.self.now in
    let k = child_below s.tree.now s.lit c.args.node c.requires c.if-node-eq0.false c.from-parent.ensures in
    (share_fits k c.share_of.ensures (omega arith), some_weight k (s.summed c.from-parent.result (parent_inside k)))

pub returns : goal.returns
returns t c =
    let s = c.args.self.now in
    let k = child_below s.tree.now s.lit c.args.node c.requires c.if-node-eq0.false c.from-parent.ensures in
    share_stepped k c.share_of.ensures refl (s.summed c.from-parent.result (parent_inside k)) c.portion.ensures
