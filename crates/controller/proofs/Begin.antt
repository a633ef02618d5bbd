-- What start answers, by what the check of its tree and the pricing of its rates have answered.
-- Assumes nothing.
use mathlib.Core.Path.{◌≡◌, refl, sym, ap}
use Prim.Native.Nat.{ℕ}
use Rattle.rules.specs.Cost.{priced}
use Rattle.rules.specs.Budget.{fresh}
use Rattle.rules.specs.Refusals.{first_of, tree_checks, rate_checks, start_checks}
use Rattle.rules.specs.Entries.{pricing, pricing_by, tree_verdict, started, started_by}
use Rattle.rules.proofs.Laws.Verdicts.{first_passed, first_refused}
use Rattle.rules.proofs.Laws.Bools.{never}
use Rattle.rules.proofs.Laws.Passes.{start_passes}
use Rattle.rules.proofs.Laws.Trees.{sound_tree}
use Rattle.rules.specs.Invariant.{SoundTree}
use Rattle.rules.specs.declared.cost.Rates.{Rates}
use Rattle.rules.specs.declared.cost.Model.{Model}
use Rattle.rules.specs.declared.tree.Tree.{Tree}
use Rattle.rules.specs.declared.refusals.Refusal.{Refusal}
use Rattle.std.specs.Prelude.{Err, Ok}
use Rattle.rules.specs.Results.{Verdict}

module _ (t : Tree) (r : Rates) where
  pub tree_refuses : {x : Refusal} → tree_verdict t ≡ Err x → Err x ≡ pricing_by (first_of (start_checks t r)) r
  unfolding tree_verdict start_checks pricing_by
  tree_refuses {x} e = rw (first_refused (tree_checks t) (rate_checks r) x e)

  pub rates_judge : tree_verdict t ≡ Ok tt → pricing r ≡ pricing_by (first_of (start_checks t r)) r
  unfolding tree_verdict start_checks pricing
  rates_judge e = ap (λ (v : Verdict). pricing_by v r) (sym (first_passed (tree_checks t) (rate_checks r) e))

  pub start_refuses : (time : ℕ) {x : Refusal} → Err x ≡ pricing_by (first_of (start_checks t r)) r → started t r time ≡ started_by (Err x) t r time
  unfolding started pricing_by
  start_refuses time {x} p = ap (λ (v : Verdict). started_by v t r time) (go (first_of (start_checks t r)) p)
    where
      go : (v : Verdict) → Err x ≡ pricing_by v r → v ≡ Err x
      go (Ok tt) q = never (cc)
      go (Err y) q = let same : y ≡ x = cc in ap Err same

  module _ {m : Model} (p : Ok m ≡ pricing_by (first_of (start_checks t r)) r) where
    both : (first_of (start_checks t r) ≡ Ok tt) × (priced r ≡ m)
    unfolding pricing_by
    both = go (first_of (start_checks t r)) p
      where
        go : (v : Verdict) → Ok m ≡ pricing_by v r → (v ≡ Ok tt) × (priced r ≡ m)
        go (Ok tt) q = (refl, cc)
        go (Err y) q = never (cc)

    pub start_sound : SoundTree t
    start_sound = sound_tree t (start_passes t r both.0).tree

    pub start_accepts : (time : ℕ) → started t r time ≡ record { answer = Ok tt; state = fresh t m time }
    unfolding started started_by
    start_accepts time = rw (both.0, both.1)
