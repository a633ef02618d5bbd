-- `donors_counted` meets its contract: at the loop's head are those of the nodes passed that give.
-- Assumes nothing.
use mathlib.Core.Path.{◌≡◌}
use Rattle.rules.specs.Words.{set_to}
use Rattle.plan.specs.Steps.{bare_queues, gives_at}
use Rattle.plan.proofs.donors_counted.Given as goal

abbrev pub invariant-loop-n : goal.invariant-loop-n
invariant-loop-n l = l.donors ≡ set_to (gives_at l.active l.quiet l.bases l.targets l.rows (bare_queues l.waiting)) l.n
