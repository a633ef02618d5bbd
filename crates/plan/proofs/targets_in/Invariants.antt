-- `targets_in` meets its contract: at the loop's head the places passed have their targets, each of which fits.
-- Assumes nothing.
use mathlib.Core.Path.{◌≡◌}
use Rattle.rules.proofs.Laws.Sweeps.{swept}
use Rattle.plan.specs.Steps.{targets_of}
use Rattle.plan.proofs.targets_in.Given as goal

abbrev pub invariant-loop-n : goal.invariant-loop-n
invariant-loop-n l = l.target-items ≡ swept (targets_of l.elapsed.since l.rows) l.initial.target-items l.n
