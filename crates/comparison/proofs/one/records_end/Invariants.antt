-- `comparison::one::records_end` meets its contract: what is left to pass is the same at each place, and each record takes a
-- byte at least.
-- Assumes nothing.
use Rattle.std.proofs.Common.{◌≡◌, ◌-◌, ◌≤◌, length}
use Rattle.comparison.specs.Compare.{records_end}
use Rattle.comparison.proofs.one.records_end.Given as goal

abbrev pub invariant-loop-whole : goal.invariant-loop-whole
invariant-loop-whole l = (records_end l.trace l.at ≡ records_end l.trace l.from) × (l.at ≤ length l.trace)

abbrev pub decreases-loop-whole : goal.decreases-loop-whole
decreases-loop-whole l = length l.trace - l.at
