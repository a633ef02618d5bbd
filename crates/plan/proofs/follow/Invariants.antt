-- `follow` meets its contract: at the loop's head the rows passed are planned, and the others as they were.
-- Assumes nothing.
use mathlib.Core.Path.{◌≡◌}
use Rattle.rules.proofs.Laws.Sweeps.{swept}
use Rattle.plan.specs.Steps.{planned_rows}
use Rattle.plan.proofs.follow.Given as goal

abbrev pub invariant-loop-n : goal.invariant-loop-n
invariant-loop-n l = l.rows ≡ swept (planned_rows l.quiet l.active l.before l.after l.initial.rows) l.initial.rows l.n
