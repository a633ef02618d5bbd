-- `weight` meets its contract: what is answered, and the state after it, are put side by side.
-- Assumes nothing.
use Rattle.std.proofs.Common.{◌≡◌}
use Rattle.rules.specs.Entries.{weighted}
use Rattle.rules.specs.Results.{Judged}
use Rattle.rules.proofs.Laws.Refusals.{weight_on_paper}
use Rattle.controller.proofs.weights.weight.Goals as goal

pub returns-clause-number : goal.returns-clause-number
returns-clause-number c =
    let e : ◌≡◌ {A = Judged} (record { answer = c.reweigh-answer.result; state = c.reweigh-answer.new.c }) (weighted c.args.node c.args.weight c.args.c) = rw (c.reweigh-answer.ensures.0, c.reweigh-answer.ensures.1) in
    weight_on_paper _ _ _ e
