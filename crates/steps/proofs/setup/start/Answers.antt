-- `setup::start` meets its contract: the controller's verdict decides, and the replay runs from the state that it begins with.
-- Assumes nothing.
use Rattle.std.proofs.lemmas.Result.{err_from_is_err_and}
use Rattle.steps.proofs.Records.{start_refused, start_accepted}
use Rattle.steps.proofs.setup.start.Goals as goal

pub returns-in_err-begun-clause-takes : goal.returns-in_err-begun-clause-takes
returns-in_err-begun-clause-takes c =
    let p = err_from_is_err_and c.from_residual.result c.from_residual.ensures.1 in
    rw (p.1, p.2) (start_refused _ _ c.start-begun.ensures.value c.in_err-begun.was)

pub returns-clause-takes : goal.returns-clause-takes
returns-clause-takes c = start_accepted _ _ c.start-begun.ensures.value c.in_ok-begun.was
