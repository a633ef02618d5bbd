-- What is held of both stays inside the buffers from round to round.
use Rattle.std.proofs.Common.{length}
use Rattle.compare.specs.Rounds.{Stands}
use Rattle.compare.proofs.differences.run.Given as goal

abbrev pub invariant-loop : goal.invariant-loop
invariant-loop g l = Stands l.s (length l.a) (length l.b)
