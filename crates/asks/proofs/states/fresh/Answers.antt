-- `states::fresh` meets its contract: start gives a sound state.
-- Assumes nothing.
use Rattle.rules.proofs.Laws.Starts.{start_gives}
use Rattle.asks.proofs.states.fresh.Goals as goal

pub returns : goal.returns
returns c = rw c.start.ensures.value (start_gives _ _ _)
