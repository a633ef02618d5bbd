-- `often::saved` meets its contract: a tick keeps a sound state.
-- Assumes nothing.
use Rattle.rules.proofs.Laws.Ticks.{ticked_keeps}
use Rattle.asks.proofs.often.saved.Goals as goal

pub returns : goal.returns
returns c = rw c.tick.ensures.value.0 (ticked_keeps c.in_debt.ensures _ _)
