-- What the check of a tree answers: 20 to 23 exactly when a tree rule is broken, 2 exactly when the tree is thin, accepted exactly
-- when neither.
-- Assumes nothing.
use Rattle.std.specs.Prelude.{◌≡◌, refl, Bool, true, false, cond, ◌↔◌, ◌≤◌, Err, Ok}
use Rattle.std.proofs.Common.{ap, ◌∙◌}
use Rattle.rules.specs.Numbers.{nodes_least}
use Rattle.rules.specs.Tree.{count_in_range, fault_to, last, tree_fault, is_thin}
use Rattle.rules.specs.Refusals.{is_fault, tree_checks, fault_in}
use Rattle.rules.specs.Entries.{tree_verdict}
use Rattle.rules.specs.declared.tree.Tree.{Tree}
use Rattle.rules.specs.declared.tree.Fault.{Fault}
use Rattle.rules.specs.declared.tree.Fault.TheVariants.{Count}
use Rattle.rules.specs.declared.refusals.Refusal.TheVariants.{BadTree, ThinTree}
use Rattle.rules.proofs.Laws.Bools.{never, true_not_false, is_true}
use Rattle.rules.proofs.Laws.Trees.{count_range, sound_tree, tree_sound}
use Rattle.rules.specs.Invariant.{SoundTree}
use Rattle.rules.specs.Results.{Finding}

-- ---- a fault is found, or none is
pub sound_when : (f : Finding) → is_fault f ≡ false → f ≡ Ok tt
sound_when (Ok tt) e = refl
sound_when (Err f) e = absurd (true_not_false refl e)

pub fault_when : (f : Finding) → (f ≡ Ok tt → ⊥) → is_fault f ≡ true
fault_when f h = is_true (is_fault f) (λ e. h (sound_when f e))

pub no_sound : (f : Finding) → is_fault f ≡ true → f ≡ Ok tt → ⊥
no_sound f e s = true_not_false e (ap is_fault s)

pub found_when : (f : Finding) → is_fault f ≡ true → f ≡ Err (fault_in f)
found_when (Ok tt) e = absurd (true_not_false e refl)
found_when (Err f) e = refl

-- a tree with no fault keeps every rule, the count's too
pub sound_exactly_when : (t : Tree) → (tree_fault t ≡ Ok tt) ↔ (SoundTree t × (nodes_least ≤ t.count))
unfolding tree_fault
sound_exactly_when t = (λ e. (sound_tree t e, counted e), λ s. tree_sound t s.1 s.0)
  where
    go : (b : Bool) → count_in_range t.count ≡ b → cond b (fault_to t (last t)) (Err Count) ≡ Ok tt → nodes_least ≤ t.count
    go true c e = (count_range t.count c).0
    go false c e = never (cc)

    counted : tree_fault t ≡ Ok tt → nodes_least ≤ t.count
    counted e = go (count_in_range t.count) refl e

-- ---- the verdict, by the two tests
module _ (t : Tree) where
  verdict_by : (b c : Bool) → is_fault (tree_fault t) ≡ b → is_thin t ≡ c
      → tree_verdict t ≡ cond b (Err (BadTree (fault_in (tree_fault t)))) (cond c (Err ThinTree) (Ok tt))
  unfolding tree_verdict tree_checks
  verdict_by b c e f = rw (e, f)

  pub bad_tree : is_fault (tree_fault t) ≡ true → tree_verdict t ≡ Err (BadTree (fault_in (tree_fault t)))
  bad_tree e = verdict_by true (is_thin t) e refl

  pub thin_tree : is_fault (tree_fault t) ≡ false → is_thin t ≡ true → tree_verdict t ≡ Err ThinTree
  thin_tree e f = verdict_by false true e f

  pub fine_tree : is_fault (tree_fault t) ≡ false → is_thin t ≡ false → tree_verdict t ≡ Ok tt
  fine_tree e f = verdict_by false false e f

  -- refusals 20 to 23: ".. breaks the tree rules"
  pub refused_exactly_when_broken : (f : Fault) → (tree_verdict t ≡ Err (BadTree f)) ↔ (tree_fault t ≡ Err f)
  refused_exactly_when_broken f = (
    go (is_fault (tree_fault t)) (is_thin t) refl refl,
    λ e. bad_tree (ap is_fault e) ∙ ap (λ (g : Finding). Err (BadTree (fault_in g))) e,
  )
    where
      go : (b c : Bool) → is_fault (tree_fault t) ≡ b → is_thin t ≡ c → tree_verdict t ≡ Err (BadTree f) → tree_fault t ≡ Err f
      go true c i j v = let e : fault_in (tree_fault t) ≡ f = cc (bad_tree i) in found_when (tree_fault t) i ∙ ap Err e
      go false true i j v = never (cc (thin_tree i j))
      go false false i j v = never (cc (fine_tree i j))

  -- refusal 2: "the tree is thin"
  pub refused_exactly_when_thin : (tree_verdict t ≡ Err ThinTree) ↔ ((tree_fault t ≡ Ok tt) × (is_thin t ≡ true))
  refused_exactly_when_thin = (go (is_fault (tree_fault t)) (is_thin t) refl refl, λ h. thin_tree (ap is_fault h.0) h.1)
    where
      go : (b c : Bool) → is_fault (tree_fault t) ≡ b → is_thin t ≡ c → tree_verdict t ≡ Err ThinTree
          → (tree_fault t ≡ Ok tt) × (is_thin t ≡ true)
      go true c i j v = never (cc (bad_tree i))
      go false true i j v = (sound_when (tree_fault t) i, j)
      go false false i j v = never (cc (fine_tree i j))

  pub accepted_exactly_when : (tree_verdict t ≡ Ok tt) ↔ ((tree_fault t ≡ Ok tt) × (is_thin t ≡ false))
  accepted_exactly_when = (go (is_fault (tree_fault t)) (is_thin t) refl refl, λ h. fine_tree (ap is_fault h.0) h.1)
    where
      go : (b c : Bool) → is_fault (tree_fault t) ≡ b → is_thin t ≡ c → tree_verdict t ≡ Ok tt
          → (tree_fault t ≡ Ok tt) × (is_thin t ≡ false)
      go true c i j v = never (cc (bad_tree i))
      go false true i j v = never (cc (thin_tree i j))
      go false false i j v = (sound_when (tree_fault t) i, j)
