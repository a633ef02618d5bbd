-- `setup::model` meets its contract: the rates' verdict decides, and the replay is priced.
-- Assumes nothing.
use Rattle.std.proofs.lemmas.Result.{err_from_is_err_and}
use Rattle.steps.proofs.Records.{model_refused, model_accepted}
use Rattle.steps.proofs.setup.model.Goals as goal

pub returns-in_err-price-clause-takes : goal.returns-in_err-price-clause-takes
returns-in_err-price-clause-takes c =
    let p = err_from_is_err_and c.from_residual.result c.from_residual.ensures.1 in
    rw (p.1, p.2) (model_refused _ _ c.price.ensures.value c.in_err-price.was)

pub returns-clause-takes : goal.returns-clause-takes
returns-clause-takes c = model_accepted _ _ c.price.ensures.value c.in_ok-price.was
