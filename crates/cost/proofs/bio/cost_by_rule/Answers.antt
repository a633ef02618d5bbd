-- `cost::bio::cost_by_rule` meets its contract: each arm is that of the rule's test, and the callees find what the rule asks.
-- Assumes nothing.
use mathlib.Core.Path.{◌≡◌, sym, ◌∙◌}
use mathlib.Core.Bool.{Bool, true, false, cond}
use Rattle.rules.specs.Cost.{is_write, is_flush, is_sequential, cost_at, cost_of}
use Rattle.rules.specs.declared.units.Abs.{Abs}
use Rattle.rules.specs.declared.cost.Price.{Price}
use Rattle.rules.specs.declared.cost.Model.{Model}
use Rattle.rules.specs.declared.cost.Bio.{Bio}
use Rattle.rules.specs.declared.budget.Row.{Row}
use Rattle.cost.proofs.bio.cost_by_rule.Goals as goal

module _ (m : Model) (row : Row) (b : Bio) where
  flushed : is_flush b ≡ true → m.write.page ≡ cost_of m row b
  unfolding cost_of
  flushed e = rw e

  found : (price : Price) (sequential : Bool) (cost : Abs) → is_flush b ≡ false
      → price ≡ cond (is_write b) m.write m.read → sequential ≡ is_sequential row b → cost ≡ cost_at price sequential b.bytes
      → cost ≡ cost_of m row b
  unfolding cost_of
  found price sequential cost f p q e = rw (f, ← q, ← p) e

pub returns-then-is_flush : goal.returns-then-is_flush
returns-then-is_flush c = flushed _ _ _ (sym c.is_flush.ensures ∙ c.if-is_flush.true)

pub returns-else-is_flush : goal.returns-else-is_flush
returns-else-is_flush c =
    found _ _ _ _ _ _ (sym c.is_flush.ensures ∙ c.if-is_flush.false)
    c.price_for-price.ensures c.is_sequential.ensures c.cost_at.ensures
