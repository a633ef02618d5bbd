-- `run::moved` meets its contract: every move keeps a sound state.
-- Assumes nothing.
use Rattle.rules.proofs.Laws.Ticks.{ticked_keeps}
use Rattle.rules.proofs.Laws.Plans.{planned_keeps}
use Rattle.asks.proofs.run.moved.Goals as goal

pub returns-in-Tick : goal.returns-in-Tick
returns-in-Tick c = rw c.pass.ensures.1 (ticked_keeps c.requires _ _)

pub returns-in-Plan : goal.returns-in-Plan
returns-in-Plan c = rw c.replan.ensures.1 (planned_keeps c.requires)
