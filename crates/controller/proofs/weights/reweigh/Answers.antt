-- `reweigh` meets its contract: base shares of the tree with the weight are put in where its verdict is to accept it.
-- Assumes nothing.
use Rattle.std.proofs.lemmas.Result.{err_from_is_err_and}
use Rattle.controller.proofs.Weighing.{weight_inside, weight_anew, weight_set, weight_kept}
use Rattle.controller.proofs.weights.reweigh.Goals as goal

pub verdict-requires : goal.verdict-requires
verdict-requires c = c.requires.tree

pub returns-in_err-verdict : goal.returns-in_err-verdict
returns-in_err-verdict c =
    let p = err_from_is_err_and c.from_residual.result c.from_residual.ensures.1 in
    rw (p.1, p.2) (weight_kept _ _ _ c.verdict.ensures c.in_err-verdict.was)

pub with_weight-c-requires : goal.with_weight-c-requires
with_weight-c-requires c = weight_inside _ _ _ c.verdict.ensures c.in_ok-verdict.was c.requires

pub rebase-requires : goal.rebase-requires
rebase-requires c = weight_anew _ _ _ c.verdict.ensures c.in_ok-verdict.was c.with_weight-c.ensures c.requires

pub returns : goal.returns
returns c = weight_set _ _ _ c.verdict.ensures c.in_ok-verdict.was c.with_weight-c.ensures c.rebase.ensures
