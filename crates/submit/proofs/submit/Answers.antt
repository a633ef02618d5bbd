-- `submit` meets its contract: what is answered, and the state after it, are put side by side.
-- Assumes nothing.
use Rattle.std.proofs.Common.{◌≡◌}
use Rattle.rules.specs.Entries.{submitted}
use Rattle.rules.specs.Results.{Submitted}
use Rattle.rules.proofs.Laws.Refusals.{submit_on_paper}
use Rattle.submit.proofs.submit.Goals as goal

pub returns-clause-number : goal.returns-clause-number
returns-clause-number c =
    let e : ◌≡◌ {A = Submitted} (record { answer = c.submit_to-answer.result; state = c.submit_to-answer.new.c }) (submitted c.args.bio c.args.c) = rw (c.submit_to-answer.ensures.0, c.submit_to-answer.ensures.1) in
    submit_on_paper _ _ e
