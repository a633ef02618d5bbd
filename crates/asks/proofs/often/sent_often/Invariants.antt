-- `often::sent_often`: the state stays sound from submission to submission.
-- Assumes nothing.
use Rattle.rules.specs.Invariant.{Sound}
use Rattle.asks.proofs.often.sent_often.Given as goal

abbrev pub invariant-loop : goal.invariant-loop
invariant-loop l = Sound l.c
