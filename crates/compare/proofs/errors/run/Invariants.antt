-- What is held stays inside the buffer from round to round, and what is found from where the loop stands, with the tries that are left,
-- is found from where it began.
-- Assumes nothing.
use Rattle.std.proofs.Common.{◌-◌, ◌^◌, length, Result}
use Rattle.std.specs.declared.io.Error.{Error as IoError}
use Rattle.comparison.specs.Compare.{Extent}
use Rattle.compare.specs.Parts.{Inside, Finds}
use Rattle.compare.specs.declared.side.Held.{Held}
use Rattle.compare.proofs.errors.run.Given as goal

abbrev pub invariant-loop-tries : goal.invariant-loop-tries
invariant-loop-tries g l =
    Inside l.held (length l.buf)
    × ((r : Result Extent IoError) (t : Held) → Finds (2 ^ 64 - 1 - l._tries) l.held r t → Finds (2 ^ 64 - 1) l.initial.held r t)
