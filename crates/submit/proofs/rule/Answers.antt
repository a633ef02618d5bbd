-- `rule` meets its contract: each way out by the tests that led there.
-- Assumes nothing.
use Rattle.std.proofs.Common.{◌∙◌}
use Rattle.std.proofs.lemmas.Bool.{not-true, not-false}
use Rattle.rules.specs.Question.{when_inactive}
use Rattle.submit.proofs.Rulings.{no_leaf_ruled, uncosted_ruled, can_answer, active_ruled, inactive_ruled}
use Rattle.submit.proofs.rule.Goals as goal

pub returns-then-not-own : goal.returns-then-not-own
returns-then-not-own c = c.refused.ensures ∙ no_leaf_ruled _ _ (not-true _ c.if-not-own.true)

pub when_active-answer-requires : goal.when_active-answer-requires
when_active-answer-requires c =
    can_answer _ _ (not-false _ c.if-not-own.false) c.cost_of.ensures.value c.in-Ok.is c.requires c.if-own.true c.from.ensures

pub returns-in-Err : goal.returns-in-Err
returns-in-Err c =
    c.refused-in-Err.ensures ∙ uncosted_ruled _ _ (not-false _ c.if-not-own.false) c.cost_of.ensures.value c.in-Err.is

pub returns-then-own : goal.returns-then-own
returns-then-own c =
    active_ruled _ _ (not-false _ c.if-not-own.false) c.cost_of.ensures.value c.in-Ok.is
    c.if-own.true c.is_forced-forced.ensures c.from.ensures c.when_active-answer.ensures

pub returns-then-forced : goal.returns-then-forced
unfolding when_inactive
returns-then-forced c =
    inactive_ruled _ _ (not-false _ c.if-not-own.false) c.cost_of.ensures.value c.in-Ok.is
    c.if-own.false c.is_forced-forced.ensures (rw c.if-forced.true)

pub returns-else-forced : goal.returns-else-forced
unfolding when_inactive
returns-else-forced c =
    inactive_ruled _ _ (not-false _ c.if-not-own.false) c.cost_of.ensures.value c.in-Ok.is
    c.if-own.false c.is_forced-forced.ensures (rw c.if-forced.false)
