-- `record::take` meets its contract: 16 and 17 as they were read, then 18, then what the record does.
-- Assumes nothing.
use Rattle.std.proofs.Common.{◌≡◌, ◌∙◌, ap}
use Rattle.std.specs.Prelude.{Ok}
use Rattle.std.proofs.lemmas.Result.{err_from_is_err_and}
use Rattle.rules.specs.Replay.{record_step}
use Rattle.rules.specs.Results.{found}
use Rattle.rules.specs.declared.trace.Record.{Record}
use Rattle.steps.proofs.Records.{read_in_phase, read_wrong_phase, read_end, read_refused, setup_only, no_call}
use Rattle.steps.proofs.record.take.Goals.{In-Some}
use Rattle.steps.proofs.record.take.Goals as goal

pub returns-in_err-found-clause-takes : goal.returns-in_err-found-clause-takes
returns-in_err-found-clause-takes c =
    let p = err_from_is_err_and c.from_residual.result c.from_residual.ensures.1 in
    rw (p.1, p.2) (read_refused c.args.s.now c.in_err-found.was)

pub returns-in_default-clause-takes : goal.returns-in_default-clause-takes
returns-in_default-clause-takes c = read_end c.args.s.now (c.in_ok-found.was ∙ ap Ok c.in_default.is)

is_found : (c : In-Some) → c.args.read ≡ found c.in-Some.found.item c.in-Some.found.next
is_found c = c.in_ok-found.was ∙ ap Ok c.in-Some.is

pub returns-then-not-in_phase-clause-takes : goal.returns-then-not-in_phase-clause-takes
returns-then-not-in_phase-clause-takes c =
    read_wrong_phase (is_found (goal.at.returns-then-not-in_phase-clause-takes c).In-Some) c.args.s.now c.in_phase.ensures c.if-not-in_phase.true

pub unreachable-requires : goal.unreachable-requires
unreachable-requires c =
    no_call c.in-Some.found.item
    (setup_only c.args.s.now.phase (is_found (goal.at.unreachable-requires c).In-Some) c.in_phase.ensures c.if-not-in_phase.false c.requires.1)
    c.in_default-item.not-Node c.in_default-item.not-Model c.in_default-item.not-Start

pub returns-in-Node-clause-takes : goal.returns-in-Node-clause-takes
returns-in-Node-clause-takes c =
    read_in_phase (is_found (goal.at.returns-in-Node-clause-takes c).In-Some) c.args.s.now c.in_phase.ensures c.if-not-in_phase.false
    ∙ ap (λ (r : Record). record_step r c.args.s.now) c.in-Node.is ∙ c.node.ensures.takes

pub returns-in-Model-clause-takes : goal.returns-in-Model-clause-takes
returns-in-Model-clause-takes c =
    read_in_phase (is_found (goal.at.returns-in-Model-clause-takes c).In-Some) c.args.s.now c.in_phase.ensures c.if-not-in_phase.false
    ∙ ap (λ (r : Record). record_step r c.args.s.now) c.in-Model.is ∙ c.model.ensures.takes

pub returns-in-Start-clause-takes : goal.returns-in-Start-clause-takes
returns-in-Start-clause-takes c =
    read_in_phase (is_found (goal.at.returns-in-Start-clause-takes c).In-Some) c.args.s.now c.in_phase.ensures c.if-not-in_phase.false
    ∙ ap (λ (r : Record). record_step r c.args.s.now) c.in-Start.is ∙ c.start.ensures.takes
