-- `start` meets its contract: what was judged first, then the fresh state over the tree and its price.
-- Assumes nothing.
use Rattle.std.proofs.Common.{◌≡◌, sym, ◌∙◌, Ok}
use Rattle.rules.specs.Entries.{started}
use Rattle.rules.specs.Results.{Judged}
use Rattle.rules.specs.declared.budget.Controller.{Controller}
use Rattle.rules.proofs.Laws.Refusals.{start_on_paper}
use Rattle.controller.proofs.Begin.{start_refuses, start_sound, start_accepts}
use Rattle.controller.proofs.start.start.Goals as goal

abbrev accepted_with : Controller → Judged
accepted_with c = record { answer = Ok tt; state = c }

pub returns-in-Err : goal.returns-in-Err
returns-in-Err c =
    let a = c.args in
    let v = c.refused.ensures a.tree a.rates a.time ∙ sym (start_refuses a.tree a.rates a.time c.in-Err.ensures) in
    record { value = v; number = start_on_paper _ _ a.time v }

pub leaves-leaves-requires : goal.leaves-leaves-requires
leaves-leaves-requires c = start_sound c.args.tree c.args.rates c.in-Ok.ensures

pub returns-in-Ok : goal.returns-in-Ok
returns-in-Ok c =
    let a = c.args in
    let e = sym (start_accepts a.tree a.rates c.in-Ok.ensures a.time) in
    let v : accepted_with c.new.result ≡ started a.tree a.rates a.time = rw (c.new.ensures.value, c.leaves-leaves.ensures) e in
    record { value = v; number = start_on_paper _ _ a.time v }
