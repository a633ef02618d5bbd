-- `calls::submit` meets its contract: what the call leaves is sound, by a law of the rules.
-- Assumes nothing.
use Rattle.rules.proofs.Laws.Submits.{submit_keeps}
use Rattle.limits.proofs.calls.submit.Goals as goal

pub returns : goal.returns
returns c = rw c.submit_to.ensures.1 (submit_keeps c.requires _)
