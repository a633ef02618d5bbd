-- `setup::node` meets its contract: the newest node's fault decides, and with 64 nodes there is no room for another.
-- Assumes nothing.
use Rattle.std.proofs.Common.{arith}
use Rattle.std.proofs.lemmas.Result.{err_from_is_err_and}
use Rattle.rules.proofs.Laws.Replays.{node_climbs}
use Rattle.steps.proofs.Records.{node_too_many, node_refused, node_accepted}
use Rattle.steps.proofs.setup.node.Goals as goal

pub returns-then-s-ge-NODES_MOST-clause-takes : goal.returns-then-s-ge-NODES_MOST-clause-takes
returns-then-s-ge-NODES_MOST-clause-takes c = node_too_many _ _ _ c.if-s-ge-NODES_MOST.true

pub newest-requires : goal.newest-requires
newest-requires c =
    rw c.grown-next.ensures (
      omega (arith, c.requires.least),
      omega (arith, c.if-s-ge-NODES_MOST.false),
      node_climbs c.requires c.args.parent c.args.weight,
    )

pub returns-in_err-newest-clause-takes : goal.returns-in_err-newest-clause-takes
returns-in_err-newest-clause-takes c =
    let p = err_from_is_err_and c.from_residual.result c.from_residual.ensures.1 in
    rw (p.1, p.2) (node_refused _ _ _ c.grown-next.ensures c.newest.ensures c.in_err-newest.was)

pub returns-clause-takes : goal.returns-clause-takes
returns-clause-takes c = node_accepted _ _ _ c.grown-next.ensures c.newest.ensures c.in_ok-newest.was
