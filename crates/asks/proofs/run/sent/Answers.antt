-- `run::sent` meets its contract: a submission keeps a sound state, and a question leaves it.
-- Assumes nothing.
use Rattle.rules.proofs.Laws.Submits.{submit_keeps}
use Rattle.asks.proofs.run.sent.Goals as goal

pub returns : goal.returns
returns c = rw c.submit_to-answered.ensures.1 (submit_keeps c.requires _)
