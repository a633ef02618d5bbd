-- `comparison::both::walk` meets its contract: what is left of the walk is the same at each step, and each goes on in the first
-- trace.
-- Assumes nothing.
use Rattle.std.proofs.Common.{◌≡◌, ℕ, List, ◌-◌, ◌≤◌, length}
use Rattle.comparison.specs.Compare.{walked}
use Rattle.comparison.proofs.Laws.Steps.{walk_on}
use Rattle.comparison.specs.declared.Walk.{Walk}
use Rattle.comparison.proofs.both.walk.Given as goal

-- on the way: what is left of the walk ends where the whole walk does, and no more records are counted than bytes passed
pub record Way (first second : List ℕ) (from : ℕ) (w : Walk) : Type 0 where
  pub on : walk_on first second from w ≡ walked first second from
  pub few : w.reach.number ≤ w.reach.first
  pub inside : w.reach.first ≤ length first

abbrev pub invariant-loop-pair : goal.invariant-loop-pair
invariant-loop-pair l = Way l.first l.second l.from l.w

abbrev pub decreases-loop-pair : goal.decreases-loop-pair
decreases-loop-pair l = length l.first - l.w.reach.first
