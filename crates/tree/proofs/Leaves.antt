-- Active leaves: the share that a leaf is asked for, and the search for a leaf below the floor.
-- Assumes nothing.
use mathlib.Core.Path.{◌≡◌, refl, sym, ◌∙◌}
use mathlib.Core.Bool.{Bool, true, false, ◌&&◌}
use Prim.Native.Nat.{ℕ, ◌^◌, ◌<◌}
use lib.Dec.{ltb}
use Rattle.rules.specs.Numbers.{nodes_most, share_floor}
use Rattle.rules.specs.Words.{has, set_of}
use Rattle.rules.specs.Tree.{last, is_leaf, leaves_of, is_active, share_of, is_thin}
use Rattle.rules.specs.Invariant.{SoundTree, Within}
use Rattle.rules.specs.declared.tree.Tree.{Tree}
use Rattle.rules.proofs.Laws.Bools.{and_both}
use Rattle.rules.proofs.Laws.Sums.{any_in, none_any}
use Rattle.rules.proofs.Laws.Sets.{has_set_of, set_of_fits}
use Rattle.rules.proofs.Laws.Trees.{leaf_pos, leaf_last, leaves_within, leaves_are, active_leaf}
use Rattle.tree.specs.View.{leaves_in, Lit}
use Rattle.tree.proofs.Lit.{leaves_back, lit_here}

-- ---- a leaf of the set is asked for its share
module _ {t : Tree} (sound : SoundTree t) (active : ℕ) (within : Within t active) (fits : active < 2 ^ nodes_most)
    {nodes : ℕ} (all : nodes ≡ set_of (is_active t active)) (n : ℕ) (on : has active n ≡ true) where
  is_active_lem : is_active t active n ≡ true
  is_active_lem = active_leaf t active n on (leaf_pos t n (within n on)) (leaf_last t n (within n on))

  pub leaf_asks : n < nodes_most → Lit t nodes × (has nodes n ≡ true)
  leaf_asks l = (lit_here sound active within fits all, rw all (has_set_of (is_active t active) n l ∙ is_active_lem))

  pub leaf_share : {r : ℕ} → r ≡ share_of t (leaves_in t nodes) n → r ≡ share_of t active n
  leaf_share e = rw (leaves_back sound active within fits all) at e

-- ---- all leaves
module _ (t : Tree) {all : ℕ} (a : all ≡ leaves_of t) where
  pub leaves_only : Within t all
  leaves_only = rw a (leaves_within t)

  pub leaves_fit : all < 2 ^ nodes_most
  unfolding leaves_of
  leaves_fit = rw a (set_of_fits (is_leaf t))

  -- some leaf is below the floor, or none is
  pub thin_by : SoundTree t → (r : Bool)
      → (r ≡ true → (n : ℕ) × (has all n ≡ true) × (ltb (share_of t all n) share_floor ≡ true))
      → (r ≡ false → (n : ℕ) → has all n ≡ true → ltb (share_of t all n) share_floor ≡ false) → r ≡ is_thin t
  unfolding is_thin
  thin_by sound true some none =
      let w = some refl in
      let n = w.0 in
      let leaf : is_leaf t n ≡ true = leaves_only n w.1 in
      sym
      (any_in (λ k. is_leaf t k && ltb (share_of t (leaves_of t) k) share_floor) n (last t) (leaf_pos t n leaf) (leaf_last t n leaf)
      (and_both (is_leaf t n) (ltb (share_of t (leaves_of t) n) share_floor) leaf (rw a at w.2)))
  thin_by sound false some none =
      sym (none_any (λ k. is_leaf t k && ltb (share_of t (leaves_of t) k) share_floor) (last t) (λ n p q. go n (is_leaf t n) refl))
    where
      go : (n : ℕ) (b : Bool) → is_leaf t n ≡ b → (b && ltb (share_of t (leaves_of t) n) share_floor) ≡ false
      go n true i = rw a at (none refl n (rw a (leaves_are sound n ∙ i)))
      go n false i = refl
