-- `donation::sum_over` meets its contract: at the loop's head is the sum over the nodes passed.
-- Assumes nothing.
use mathlib.Core.Path.{◌≡◌}
use mathlib.Core.Bool.{cond}
use mathlib.Core.List.{List}
use Prim.Native.Nat.{ℕ, ◌-◌, ◌*◌, ◌^◌, ◌≤◌}
use lib.ListN.{get_or}
use Rattle.rules.specs.Words.{sum_to, has}
use Rattle.donation.proofs.sum_over.Given as goal

abbrev pub part_at : ℕ → List ℕ → ℕ → ℕ
part_at set shares n = cond (has set n) (get_or shares n 0) 0

abbrev pub invariant-loop-n : goal.invariant-loop-n
invariant-loop-n l = (l.sum ≡ sum_to (part_at l.set l.shares) (l.n - 1)) × (l.sum ≤ 2 ^ 32 * (l.n - 1))
