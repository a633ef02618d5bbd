-- `verdict` meets its contract: the checks of the rule, one after the other.
-- Assumes nothing.
use mathlib.Core.Path.{◌≡◌, sym, ◌∙◌}
use mathlib.Core.Bool.{Bool, true, false, ◌&&◌}
use Prim.Native.Nat.{ℕ}
use lib.Dec.{ltb}
use Rattle.rules.specs.Tree.{weight_in_range, is_thin, is_below_root, with_weight}
use Rattle.rules.specs.Refusals.{first_of, weight_checks}
use Rattle.rules.proofs.Laws.Weights.{weight_keeps_sound_trees}
use Rattle.rules.specs.declared.tree.Tree.{Tree}
use Rattle.rules.specs.declared.tree.Fault.TheVariants.{Weight}
use Rattle.rules.specs.declared.refusals.Refusal.TheVariants.{BadTree, ThinTree, NotBelowRoot}
use Rattle.tree.proofs.weights.verdict.Goals as goal
use Rattle.std.specs.Prelude.{Err, Ok}

-- ---- the rule's answer, by what was tested
module _ (t : Tree) (w : ℕ) {n at : ℕ} (e : at ≡ n) where
  absent : (ltb 0 at && ltb at t.count) ≡ false → Err NotBelowRoot ≡ first_of (weight_checks n w t)
  unfolding weight_checks is_below_root
  absent h = rw (← e, h)

  module _ (here : (ltb 0 at && ltb at t.count) ≡ true) where
    out_of_range : weight_in_range w ≡ false → Err (BadTree (Weight at)) ≡ first_of (weight_checks n w t)
    unfolding weight_checks is_below_root
    out_of_range h = rw (← e, here, h)

    module _ (range : weight_in_range w ≡ true) where
      too_thin : is_thin (with_weight n w t) ≡ true → Err ThinTree ≡ first_of (weight_checks n w t)
      unfolding weight_checks is_below_root
      too_thin h = rw (h, ← e, here, range)

      accepted : is_thin (with_weight n w t) ≡ false → Ok tt ≡ first_of (weight_checks n w t)
      unfolding weight_checks is_below_root
      accepted h = rw (h, ← e, here, range)

-- the tree with the weight is thin, or it is not
thin_is : (n w : ℕ) (t : Tree) {with : Tree} → with ≡ with_weight n w t → {r b : Bool} → r ≡ is_thin with → r ≡ b
    → is_thin (with_weight n w t) ≡ b
thin_is n w t i e f = rw i at (sym e ∙ f)

pub returns-then-not-weight_in_range : goal.returns-then-not-weight_in_range
returns-then-not-weight_in_range c =
    out_of_range c.args.tree c.args.weight c.from-at.ensures c.if-not-at-tree.false
    (sym c.weight_in_range.ensures ∙ c.if-not-weight_in_range.true)

pub returns-then-not-at-tree : goal.returns-then-not-at-tree
returns-then-not-at-tree c = absent c.args.tree c.args.weight c.from-at.ensures c.if-not-at-tree.true

pub thin_in_flight-requires : goal.thin_in_flight-requires
thin_in_flight-requires c =
    rw c.with_weight.ensures
    (weight_keeps_sound_trees c.args.node c.args.weight c.requires (sym c.weight_in_range.ensures ∙ c.if-not-weight_in_range.false))

pub returns-then-thin_in_flight : goal.returns-then-thin_in_flight
returns-then-thin_in_flight c =
    let a = c.args in
    too_thin a.tree a.weight c.from-at.ensures c.if-not-at-tree.false (sym c.weight_in_range.ensures ∙ c.if-not-weight_in_range.false)
    (thin_is a.node a.weight a.tree c.with_weight.ensures c.thin_in_flight.ensures c.if-thin_in_flight.true)

pub returns : goal.returns
returns c =
    let a = c.args in
    accepted a.tree a.weight c.from-at.ensures c.if-not-at-tree.false (sym c.weight_in_range.ensures ∙ c.if-not-weight_in_range.false)
    (thin_is a.node a.weight a.tree c.with_weight.ensures c.thin_in_flight.ensures c.if-thin_in_flight.false)
