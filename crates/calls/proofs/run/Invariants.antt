-- `run`: what was called so far stands at the front, and the rest of the run is still to come.
-- Assumes nothing.
use Rattle.std.proofs.Common.{◌-◌}
use Rattle.calls.proofs.Running.{Running}
use Rattle.calls.proofs.run.Given as goal

abbrev pub invariant-loop : goal.invariant-loop
invariant-loop l = Running l.trace l.initial.out l.most l.place l.initial.c l.out l.ids l.c l.at l.count (l.most - l.counter)
