-- `tick::pass` meets its contract: the clock's checks come before that of the places.
-- Assumes nothing.
use mathlib.Core.Path.{refl, sym, ◌∙◌}
use borrow.Author.Tests.{ltb-true, ltb-false}
use lib.ListN.{length}
use Rattle.std.proofs.lemmas.Result.{err_from_is_err_and}
use Rattle.rules.proofs.Laws.Passes.{tick_passes}
use Rattle.tick.proofs.Answers.{clock-refuses, too-few-places, enough-places, refuses, accepts}
use Rattle.tick.proofs.pass.Goals as goal

-- above the answers that a lie about the clock may leave true: the first error is what is false
pub accepted-requires : goal.accepted-requires
accepted-requires c =
    let a = c.args in (
      c.requires,
      tick_passes _ _ _ (enough-places a.time (length a.out.now) a.c.now c.verdict.ensures c.in_ok-verdict.was refl
          (ltb-false _ _ (sym c.has_few_places.ensures ∙ c.if-has_few_places.false))),
    )

pub returns-in_err-verdict : goal.returns-in_err-verdict
returns-in_err-verdict c =
    let a = c.args in
    let p = err_from_is_err_and c.from_residual.result c.from_residual.ensures.1 in
    refuses a.time a.out.now a.c.now (rw (p.1, p.2))
    (clock-refuses a.time (length a.out.now) a.c.now c.verdict.ensures c.in_err-verdict.was)

pub returns-then-has_few_places : goal.returns-then-has_few_places
returns-then-has_few_places c =
    let a = c.args in
    refuses a.time a.out.now a.c.now refl
    (too-few-places a.time (length a.out.now) a.c.now c.verdict.ensures c.in_ok-verdict.was refl
    (ltb-true _ _ (sym c.has_few_places.ensures ∙ c.if-has_few_places.true)))

pub returns : goal.returns
returns c =
    let a = c.args in
    accepts _ _ _ (enough-places a.time (length a.out.now) a.c.now c.verdict.ensures c.in_ok-verdict.was refl
    (ltb-false _ _ (sym c.has_few_places.ensures ∙ c.if-has_few_places.false))) c.accepted.ensures
