-- What a tree's arrays show of it: its parents, weights and levels.
-- Assumes nothing.
use mathlib.Core.Path.{◌≡◌, refl, sym, ap, ◌∙◌}
use Prim.Native.Nat.{ℕ, zero, suc, ◌+◌, ◌-◌, ◌≤◌, ◌<◌}
use native.Mathlib.Numerals.{add-one}
use native.Mathlib.Omega.{arith}
use lib.ListN.{get_or}
use Rattle.rules.specs.Tree.{parent, weight, last, level}
use Rattle.rules.specs.Invariant.{SoundTree}
use Rattle.rules.specs.declared.tree.Tree.{Tree}
use Rattle.rules.proofs.Laws.Trees.{level_step}
use Rattle.tree.specs.View.{Climbs}

module _ (t : Tree) where
  pub parent_at : (n : ℕ) → 0 < n → parent t n ≡ get_or t.parents n 0
  unfolding parent
  parent_at zero p = absurd (omega arith)
  parent_at (suc n) p = refl

  pub weight_at : (n : ℕ) → weight t n ≡ get_or t.weights n 0
  unfolding weight
  weight_at n = refl

  pub last_at : last t ≡ t.count - 1
  unfolding last
  last_at = refl

  pub climbs_up : (m : ℕ) → Climbs t.parents m → (n : ℕ) → 0 < n → n ≤ m → parent t n < n
  climbs_up m up n p q = rw (parent_at n p) (up n p q)

  -- the level by that of the parent
  pub level_at : (n q r : ℕ) → Climbs t.parents n → 0 < n → q ≡ get_or t.parents n 0 → r ≡ level t q → r + 1 ≡ level t n
  level_at n q r up p e i =
      add-one r
      ∙ ap suc (i ∙ ap (level t) (e ∙ sym (parent_at n p)))
      ∙ sym (level_step t n (climbs_up n up) n p (omega arith))

pub sound_climbs : (t : Tree) → SoundTree t → Climbs t.parents (t.count - 1)
sound_climbs t s n p q = rw (parent_at t n p) at (s.up n p (rw (last_at t) q))
