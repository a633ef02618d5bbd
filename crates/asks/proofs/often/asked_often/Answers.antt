-- `often::asked_often` meets its contract: a question less is left of the bio that the answer makes of this one.
-- Assumes nothing.
use Rattle.std.proofs.Common.{◌≡◌, ap, ◌∙◌, ℕ, suc, ◌+◌, ◌-◌, ◌<◌, ◌≤◌, arith}
use Rattle.rules.specs.Question.{question}
use Rattle.rules.specs.declared.budget.Controller.{Controller}
use Rattle.rules.specs.declared.cost.Bio.{Bio}
use Rattle.asks.specs.Often.{varied_by, asked_often}
use Rattle.asks.proofs.often.asked_often.Goals as goal

all_left : (n : ℕ) (c : Controller) (b : Bio) → asked_often (n - 0) c b ≡ asked_often n c b
all_left n c b = let e : n - 0 ≡ n = omega arith in rw e

one_less : (n i : ℕ) (c : Controller) (b : Bio) → i < n → asked_often (n - (i + 1)) c (varied_by b (question b c)) ≡ asked_often (n - i) c b
unfolding asked_often
one_less n i c b l = let e : n - i ≡ suc (n - (i + 1)) = omega arith in rw e

none_left : (n i : ℕ) (c : Controller) (b : Bio) → n ≤ i → b ≡ asked_often (n - i) c b
unfolding asked_often
none_left n i c b l = let e : n - i ≡ 0 = omega arith in rw e

pub loop-init : goal.loop-init
loop-init c = all_left _ _ _

pub loop-preserved : goal.loop-preserved
loop-preserved c =
    ap (asked_often (c.args.times - (c.loop.counter + 1)) c.args.c.now) (c.varied-next.ensures ∙ ap (varied_by c.loop.next) c.ask.ensures.0)
    ∙ (one_less _ _ _ _ c.loop-test.true ∙ c.loop.invariant)

pub returns : goal.returns
returns c = none_left _ _ _ _ c.loop-test.false ∙ c.loop.invariant
