-- `rebase` meets its contract: base shares anew are put in, and nobody gives.
-- Assumes nothing.
use Rattle.controller.proofs.Anew.{anew_put}
use Rattle.controller.proofs.shares.rebase.Goals as goal

pub returns : goal.returns
returns c = anew_put _ _ c.base_anew.ensures
