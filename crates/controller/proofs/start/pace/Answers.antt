-- `pace` meets its contract: the clock goes at the new rate where its verdict is to accept it.
-- Assumes nothing.
use Rattle.std.proofs.lemmas.Result.{err_from_is_err_and}
use Rattle.controller.proofs.Vrates.{rate_set, rate_kept}
use Rattle.controller.proofs.start.pace.Goals as goal

pub returns-in_err-vrate_verdict : goal.returns-in_err-vrate_verdict
returns-in_err-vrate_verdict c =
    let p = err_from_is_err_and c.from_residual.result c.from_residual.ensures.1 in
    rw (p.1, p.2) (rate_kept _ _ c.vrate_verdict.ensures c.in_err-vrate_verdict.was)

pub returns : goal.returns
returns c = rate_set _ _ c.vrate_verdict.ensures c.in_ok-vrate_verdict.was c.with_rate-c.ensures
