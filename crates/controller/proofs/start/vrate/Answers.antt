-- `vrate` meets its contract: what is answered, and the state after it, are put side by side.
-- Assumes nothing.
use Rattle.std.proofs.Common.{◌≡◌}
use Rattle.rules.specs.Entries.{vrated}
use Rattle.rules.specs.Results.{Judged}
use Rattle.rules.proofs.Laws.Refusals.{vrate_on_paper}
use Rattle.controller.proofs.start.vrate.Goals as goal

pub returns-clause-number : goal.returns-clause-number
returns-clause-number c =
    let e : ◌≡◌ {A = Judged} (record { answer = c.pace-answer.result; state = c.pace-answer.new.c }) (vrated c.args.v c.args.c) = rw (c.pace-answer.ensures.0, c.pace-answer.ensures.1) in
    vrate_on_paper _ _ e
