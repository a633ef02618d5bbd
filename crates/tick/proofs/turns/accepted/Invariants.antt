-- `tick::turns::accepted` meets its contract. The loop's invariant is `Walking`: the leaves below the next one have had
-- their turns.
-- Assumes nothing.
use Rattle.tick.proofs.Going.{Walking}
use Rattle.tick.proofs.turns.accepted.Given as goal

abbrev pub invariant-loop-n : goal.invariant-loop-n
invariant-loop-n l = Walking l.gain l.fn.c l.initial.out l.c l.out l.at l.n-iterator.0
