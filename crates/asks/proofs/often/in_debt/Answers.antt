-- `often::in_debt` meets its contract: a submission keeps a sound state.
-- Assumes nothing.
use Rattle.rules.proofs.Laws.Submits.{submit_keeps}
use Rattle.asks.proofs.often.in_debt.Goals as goal

pub returns : goal.returns
returns c = rw c.submit.ensures.value (submit_keeps c.fresh.ensures _)
