-- `staying_counted` meets its contract: at the loop's head those of the nodes passed are left that stay, and of the others all.
-- Assumes nothing.
use mathlib.Core.Path.{◌≡◌}
use Rattle.rules.specs.Words.{set_of}
use Rattle.plan.specs.Steps.{bare_queues, keeps_at, left_at}
use Rattle.plan.proofs.staying_counted.Given as goal

abbrev pub invariant-loop-n : goal.invariant-loop-n
invariant-loop-n l = l.staying ≡ set_of (left_at l.active (keeps_at l.quiet l.rows (bare_queues l.waiting)) l.n)
