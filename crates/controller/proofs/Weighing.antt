-- A setting of a weight, by what its checks have answered: what may then be asked of the tree with the weight, and the state
-- with the parts that were worked out.
-- Assumes nothing.
use mathlib.Core.Path.{◌≡◌, refl, sym, ◌∙◌}
use Prim.Native.Nat.{ℕ, ◌*◌, ◌≤◌, ◌<◌}
use Rattle.rules.specs.Tree.{with_weight}
use Rattle.rules.specs.Budget.{row_at, share_at, with_tree, rebased, reweighted}
use Rattle.rules.specs.Refusals.{first_of, weight_checks}
use Rattle.rules.specs.Entries.{weighted, weighted_by}
use Rattle.rules.specs.Invariant.{worth_most, SoundTree, Within, Sound}
use Rattle.rules.proofs.Laws.Passes.{weight_passes}
use Rattle.rules.proofs.Laws.Weights.{below_root_inside, weight_keeps_each_leaf, weight_keeps_sound_trees}
use Rattle.rules.specs.declared.tree.Tree.{Tree}
use Rattle.rules.specs.declared.budget.Controller.{Controller}
use Rattle.rules.specs.declared.refusals.Refusal.{Refusal}
use Rattle.std.specs.Prelude.{Err, Ok}
use Rattle.rules.specs.Results.{Verdict}

module _ (n w : ℕ) (c : Controller) {answer : Verdict} (e : answer ≡ first_of (weight_checks n w c.tree)) where
  module _ (i : answer ≡ Ok tt) where
    -- the node has a place
    pub weight_inside : Sound c → n < 64
    weight_inside sound = below_root_inside sound.tree n (weight_passes n w c.tree (sym e ∙ i)).node

    module _ {t : Tree} (r : t ≡ with_weight n w c.tree) where
      pub weight_anew : Sound c → SoundTree t × Within t c.active × ((k : ℕ) → (row_at c k).budget.0 * share_at c k ≤ worth_most)
      weight_anew sound =
          let p = weight_passes n w c.tree (sym e ∙ i) in (
            rw r (weight_keeps_sound_trees n w sound.tree p.range),
            rw r (λ k h. weight_keeps_each_leaf n w c.tree k ∙ sound.active k h),
            sound.worth_at_most,
          )

      pub weight_set : {d : Controller} → d ≡ rebased c.active (with_tree t c)
          → (Ok tt ≡ (weighted n w c).answer) × (d ≡ (weighted n w c).state)
      unfolding weighted weighted_by reweighted
      weight_set b = rw (b, ← e, i, r) (refl, refl)

  pub weight_kept : {x : Refusal} → answer ≡ Err x → (Err x ≡ (weighted n w c).answer) × (c ≡ (weighted n w c).state)
  unfolding weighted weighted_by
  weight_kept i = rw (← e, i) (refl, refl)
