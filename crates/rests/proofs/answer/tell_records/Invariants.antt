-- `rests::answer::tell_records` meets its contract: from each place on there are whole records to the end, so it stops there and
-- nowhere before; the measure is what is left.
-- Assumes nothing.
use Rattle.std.proofs.Common.{◌≡◌, List, ℕ, ◌-◌, ◌≤◌, length}
use Rattle.comparison.proofs.Laws.Records.{Records}
use Rattle.rests.proofs.answer.tell_records.Given as goal

-- from a place on there are whole records to the end
abbrev pub Whole : List ℕ → ℕ → Type 0
Whole trace at = (rs : List (List ℕ)) × Records trace at rs

abbrev pub invariant-loop-found : goal.invariant-loop-found
invariant-loop-found g l = (length l.out ≡ length l.initial.out) × ((l.at ≤ length l.records) × Whole l.records l.at)

abbrev pub decreases-loop-found : goal.decreases-loop-found
decreases-loop-found g l = length l.records - l.at
