-- `calls::tick` meets its contract: what the call leaves is sound, by a law of the rules.
-- Assumes nothing.
use Rattle.rules.proofs.Laws.Ticks.{ticked_keeps}
use Rattle.limits.proofs.calls.tick.Goals as goal

pub returns : goal.returns
returns c = rw c.pass.ensures.1 (ticked_keeps c.requires _ _)
