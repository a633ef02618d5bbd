-- `calls::vrate` meets its contract: what the call leaves is sound, by a law of the rules.
-- Assumes nothing.
use Rattle.rules.proofs.Laws.Starts.{vrate_keeps}
use Rattle.limits.proofs.calls.vrate.Goals as goal

pub returns : goal.returns
returns c = rw c.pace.ensures.1 (vrate_keeps c.requires _)
