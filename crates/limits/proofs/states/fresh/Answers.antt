-- `states::fresh` meets its contract: start gives a sound state.
-- Assumes nothing.
use Rattle.rules.proofs.Laws.Starts.{start_gives}
use Rattle.limits.proofs.states.fresh.Goals as goal

pub returns : goal.returns
returns g c = rw c.start-done.ensures.value (start_gives _ _ _)
