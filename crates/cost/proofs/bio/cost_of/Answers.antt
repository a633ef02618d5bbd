-- `cost::bio::cost_of` meets its contract: what its callee finds is the rule's cost, and the tests are the rule's in its order.
-- Assumes nothing.
use mathlib.Core.Path.{◌≡◌, sym, ◌∙◌}
use mathlib.Core.Bool.{true, false}
use Prim.Native.Nat.{◌≤◌, ◌<◌}
use Rattle.rules.specs.Cost.{bio_in_range, cost_of}
use Rattle.rules.specs.Numbers.{cost_most}
use Rattle.rules.specs.Entries.{costing}
use Rattle.rules.proofs.Laws.Bools.{exactly_not}
use Rattle.rules.proofs.Laws.Costs.{bio_in_range_lem, bytes_most_lem, costing_refuses_the_range_exactly_when, costing_refuses_the_cost_exactly_when, costing_costs_exactly_when}
use Rattle.rules.proofs.Laws.Refusals.{cost_on_paper}
use Rattle.rules.specs.declared.units.Abs.{Abs}
use Rattle.rules.specs.declared.cost.Model.{Model}
use Rattle.rules.specs.declared.cost.Bio.{Bio}
use Rattle.rules.specs.declared.budget.Row.{Row}
use Rattle.rules.specs.declared.refusals.Refusal.TheVariants.{BadBio, TooDear}
use Rattle.cost.proofs.bio.cost_of.Goals as goal
use Rattle.std.specs.Prelude.{Err, Ok}

module _ (m : Model) (row : Row) (b : Bio) where
  affordable : (cost : Abs) → bio_in_range b ≡ true → cost ≡ cost_of m row b → cost.0 ≤ cost_most → Ok cost ≡ costing m row b
  affordable cost t e l = sym ((costing_costs_exactly_when m row b cost).1 (((bio_in_range_lem b).0 t, rw e at l), e))

  dear : (cost : Abs) → bio_in_range b ≡ true → cost ≡ cost_of m row b → cost_most < cost.0 → Err TooDear ≡ costing m row b
  dear cost t e l = sym ((costing_refuses_the_cost_exactly_when m row b).1 ((bio_in_range_lem b).0 t, rw e at l))

  bad : bio_in_range b ≡ false → Err BadBio ≡ costing m row b
  bad f = sym ((costing_refuses_the_range_exactly_when m row b).1 ((exactly_not _ (bio_in_range_lem b)).0 f))

pub returns-then-not-in_range : goal.returns-then-not-in_range
returns-then-not-in_range c = let e = bad _ _ _ (sym c.in_range.ensures ∙ c.if-not-in_range.true) in record { value = e; number = cost_on_paper _ _ _ e }

pub cost_by_rule-cost-requires : goal.cost_by_rule-cost-requires
cost_by_rule-cost-requires c =
    let range = (bio_in_range_lem c.args.bio).0 (sym c.in_range.ensures ∙ c.if-not-in_range.false) in
    (c.requires, bytes_most_lem c.args.bio range)

pub returns-then-cost-gt-COST_MOST : goal.returns-then-cost-gt-COST_MOST
returns-then-cost-gt-COST_MOST c =
    let e = dear _ _ _ _ (sym c.in_range.ensures ∙ c.if-not-in_range.false) c.cost_by_rule-cost.ensures c.if-cost-gt-COST_MOST.true in
    record { value = e; number = cost_on_paper _ _ _ e }

pub returns : goal.returns
returns c =
    let e = affordable _ _ _ _ (sym c.in_range.ensures ∙ c.if-not-in_range.false) c.cost_by_rule-cost.ensures c.if-cost-gt-COST_MOST.false in
    record { value = e; number = cost_on_paper _ _ _ e }
