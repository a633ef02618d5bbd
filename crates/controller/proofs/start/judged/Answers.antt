-- `judged` meets its contract: the tree's verdict first, then the rates'.
-- Assumes nothing.
use Rattle.std.proofs.Common.{sym, ◌∙◌}
use Rattle.std.proofs.lemmas.Result.{err_from_is_err_and}
use Rattle.controller.proofs.Begin.{tree_refuses, rates_judge}
use Rattle.controller.proofs.start.judged.Goals as goal

pub returns-in_err-check : goal.returns-in_err-check
returns-in_err-check c =
    let a = c.args in
    let p = err_from_is_err_and c.from_residual.result c.from_residual.ensures.1 in
    rw (p.1, p.2) (tree_refuses a.tree a.rates (sym c.in_err-check.ensures.value))

pub returns : goal.returns
returns c = c.price.ensures.value ∙ rates_judge c.args.tree c.args.rates (sym c.in_ok-check.ensures.value)
