-- `run::counts`: the state stays sound from move to move.
-- Assumes nothing.
use Rattle.rules.specs.Invariant.{Sound}
use Rattle.asks.proofs.run.counts.Given as goal

abbrev pub invariant-loop-i : goal.invariant-loop-i
invariant-loop-i l = Sound l.c
