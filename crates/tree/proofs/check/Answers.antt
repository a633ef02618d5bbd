-- `check` meets its contract: a tree is asked whether it is thin only when it has no fault.
-- Assumes nothing.
use Rattle.std.proofs.Common.{sym, ap, ◌∙◌, Err}
use Rattle.std.proofs.lemmas.Result.{err_from_is_err_and}
use Rattle.rules.proofs.Laws.Trees.{sound_tree}
use Rattle.rules.proofs.Laws.Refusals.{check_on_paper}
use Rattle.rules.proofs.Laws.TreeVerdicts.{refused_exactly_when_broken, refused_exactly_when_thin, accepted_exactly_when}
use Rattle.tree.proofs.check.Goals as goal

pub returns-in_err-fault : goal.returns-in_err-fault
returns-in_err-fault c =
    let t = c.args.tree in
    let p = err_from_is_err_and c.from_residual.result c.from_residual.ensures.1 in
    let e = p.1 ∙ ap Err p.2 ∙ sym ((refused_exactly_when_broken t _).1 (sym c.in_err-fault.ensures)) in
    record { value = e; number = check_on_paper t e }

pub thin-requires : goal.thin-requires
thin-requires c = sound_tree c.args.tree (sym c.in_ok-fault.ensures)

pub returns-then-thin : goal.returns-then-thin
returns-then-thin c =
    let t = c.args.tree in
    let e = sym ((refused_exactly_when_thin t).1 (sym c.in_ok-fault.ensures, sym c.thin.ensures ∙ c.if-thin.true)) in
    record { value = e; number = check_on_paper t e }

pub returns : goal.returns
returns c =
    let t = c.args.tree in
    let e = sym ((accepted_exactly_when t).1 (sym c.in_ok-fault.ensures, sym c.thin.ensures ∙ c.if-thin.false)) in
    record { value = e; number = check_on_paper t e }
