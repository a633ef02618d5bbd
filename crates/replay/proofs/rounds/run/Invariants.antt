-- `replay::rounds::run` meets its contract: rounds that end from where the loop stands end from where it began, and as they do there
-- with the tries that are left.
-- Assumes nothing.
use Rattle.std.proofs.Common.{List, ℕ, ◌-◌, ◌^◌, length, Result}
use Rattle.replay.specs.Rounds.{Stands, Ends, EndsBy}
use Rattle.replay.specs.declared.rounds.Standing.{Standing}
use Rattle.replay.specs.declared.rounds.Failure.{Failure}
use Rattle.replay.proofs.rounds.run.Given as goal

abbrev pub invariant-loop-tries : goal.invariant-loop-tries
invariant-loop-tries g l =
    Stands l.s (length l.chunk)
    × ((t : Standing) (after : List ℕ) → Ends l.s l.chunk t after → Ends l.initial.s l.initial.chunk t after)
    × ((r : Result (Unit {0}) Failure) → EndsBy (2 ^ 64 - 1 - l._tries) l.s l.chunk r → EndsBy (2 ^ 64 - 1) l.initial.s l.initial.chunk r)
