-- `decide` meets its contract: what is ruled is booked, unless the leaf is to become active first.
-- Assumes nothing.
use Rattle.std.proofs.lemmas.Bool.{not-true, not-false}
use Rattle.std.proofs.lemmas.Result.{err_from_is_err_and}
use Rattle.submit.proofs.Decisions.{can_rule, declines, activates_first, can_book, judges}
use Rattle.submit.proofs.decide.Goals as goal

pub rule-ruled-requires : goal.rule-ruled-requires
rule-ruled-requires c = can_rule _ _ c.own-own.ensures c.requires

pub returns-in_err-answer : goal.returns-in_err-answer
returns-in_err-answer c =
    let p = err_from_is_err_and c.from_residual.result c.from_residual.ensures.1 in
    rw (p.1, p.2) (declines _ _ _ c.own-own.ensures c.rule-ruled.ensures c.in_err-answer.was)

pub returns-then-not-own : goal.returns-then-not-own
returns-then-not-own c =
    activates_first _ _ _ c.own-own.ensures c.rule-ruled.ensures c.in_ok-answer.was (not-true _ c.if-not-own.true)

pub booked-requires : goal.booked-requires
booked-requires c =
    can_book _ _ _ c.own-own.ensures c.rule-ruled.ensures c.in_ok-answer.was (not-false _ c.if-not-own.false) c.requires c.from.ensures

pub returns : goal.returns
returns c =
    judges _ _ _ c.own-own.ensures c.rule-ruled.ensures c.in_ok-answer.was (not-false _ c.if-not-own.false) c.from.ensures
    c.shares_after.ensures c.booked.ensures c.queueing_of.ensures
