-- The active nodes as a pass over falling numbers finds them: a node is reached once it is an active leaf, or an active child
-- of it has been passed.
-- Assumes nothing.
use mathlib.Core.Path.{◌≡◌, refl, sym, ap, ◌∙◌}
use mathlib.Core.Bool.{Bool, true, false, ◌&&◌, ◌||◌, and-true, and-false, or-false}
use mathlib.Core.Logic.{◌⊎◌, inl, inr, ⊎_elim}
use Prim.Native.Nat.{ℕ, suc, ◌^◌, ◌≤◌, ◌<◌}
use native.Mathlib.Nat.{eq-or-lt_of_le}
use native.Mathlib.Omega.{arith}
use lib.Dec.{eqb, leb}
use borrow.Author.Tests.{leb-true, le-leb, eqb-true, eq-eqb}
use Rattle.rules.specs.Numbers.{nodes_most}
use Rattle.rules.specs.Words.{any_to, has, set_of}
use Rattle.rules.specs.Tree.{parent, last, is_active}
use Rattle.rules.specs.declared.tree.Tree.{Tree}
use Rattle.rules.proofs.Laws.Bools.{same_test, and_left, and_right, and_both, and_not_right, or_left, or_right, or_cases}
use Rattle.rules.proofs.Laws.Sums.{any_in, any_out, any_cong}
use Rattle.rules.proofs.Laws.Sets.{has_set_of, set_of_fits, set_cong, set_back}
use Rattle.rules.proofs.Laws.Trees.{active_step, last_most}
use Rattle.rules.specs.Invariant.{SoundTree, Within}

-- an active child of n, with a number from m on
abbrev hit : Tree → ℕ → ℕ → ℕ → ℕ → Bool
hit t active m n k = leb m k && (eqb (parent t k) n && is_active t active k)

-- n is an active leaf, or has an active child with a number from m on
unfoldable pub reached : Tree → ℕ → ℕ → ℕ → Bool
reached t active m n = has active n || any_to (hit t active m n) (last t)

module _ {t : Tree} (sound : SoundTree t) (active : ℕ) (within : Within t active) where
  reached_child : (m n k : ℕ) → 0 < k → k ≤ last t → m ≤ k → parent t k ≡ n → is_active t active k ≡ true → reached t active m n ≡ true
  unfolding reached
  reached_child m n k p q l e a =
      or_right (has active n) (any_to (hit t active m n) (last t))
      (any_in (hit t active m n) k (last t) p q
      (and_both (leb m k) (eqb (parent t k) n && is_active t active k) (le-leb m k l)
      (and_both (eqb (parent t k) n) (is_active t active k) (eq-eqb (parent t k) n e) a)))

  reached_leaf : (m n : ℕ) → has active n ≡ true → reached t active m n ≡ true
  unfolding reached
  reached_leaf m n e = or_left (has active n) (any_to (hit t active m n) (last t)) e

  reached_out : (m n : ℕ) → reached t active m n ≡ true
      → (has active n ≡ true) ⊎ ((k : ℕ) × (0 < k) × (k ≤ last t) × (m ≤ k) × (parent t k ≡ n) × (is_active t active k ≡ true))
  unfolding reached
  reached_out m n e =
      ⊎_elim
      (λ (i : has active n ≡ true). inl i)
      (λ (i : any_to (hit t active m n) (last t) ≡ true).
      let w = any_out (hit t active m n) (last t) i in
      let k = w.0 in
      let kid = and_right (leb m k) (eqb (parent t k) n && is_active t active k) w.3 in
      inr (
        k,
        w.1,
        w.2,
        leb-true m k (and_left (leb m k) (eqb (parent t k) n && is_active t active k) w.3),
        eqb-true (parent t k) n (and_left (eqb (parent t k) n) (is_active t active k) kid),
        and_right (eqb (parent t k) n) (is_active t active k) kid,
      ))
      (or_cases (has active n) (any_to (hit t active m n) (last t)) e)

  -- before the pass only the active leaves are reached
  reached_none : (m n : ℕ) → t.count ≤ m → reached t active m n ≡ has active n
  unfolding last
  reached_none m n l =
      same_test (reached t active m n) (has active n)
      (λ e. ⊎_elim (λ (i : has active n ≡ true). i) (λ w. let p : 0 < w.0 = w.1 in absurd (omega (arith, w.2, w.3))) (reached_out m n e))
      (reached_leaf m n)

  -- whose children have all been passed is reached exactly when it is active
  reached_whole : (m n : ℕ) → ((k : ℕ) → 0 < k → k ≤ last t → parent t k ≡ n → m ≤ k) → reached t active m n ≡ is_active t active n
  unfolding reached
  reached_whole m n h =
      ap (λ (b : Bool). has active n || b)
      (any_cong (hit t active m n) (λ k. eqb (parent t k) n && is_active t active k) (last t) (λ k p q. go k p q (eqb (parent t k) n) refl))
      ∙ sym (active_step sound active n within)
    where
      go : (k : ℕ) → 0 < k → k ≤ last t → (b : Bool) → eqb (parent t k) n ≡ b → (leb m k && (b && is_active t active k)) ≡ (b && is_active t active k)
      go k p q true e = rw (le-leb m k (h k p q (eqb-true (parent t k) n e)))
      go k p q false e = and_not_right (leb m k) false refl

  -- one node more is passed
  reached_step : (k n : ℕ) → 0 < k → k ≤ last t
      → reached t active k n ≡ (reached t active (suc k) n || (eqb n (parent t k) && is_active t active k))
  reached_step k n p q =
      same_test (reached t active k n) (reached t active (suc k) n || here)
      (λ e.
      ⊎_elim
      (λ (i : has active n ≡ true). or_left (reached t active (suc k) n) here (reached_leaf (suc k) n i))
      (λ w.
      ⊎_elim
      (λ (i : k ≡ w.0).
      or_right (reached t active (suc k) n) here
      (and_both (eqb n (parent t k)) (is_active t active k) (eq-eqb n (parent t k) (sym w.4 ∙ ap (parent t) (sym i))) (ap (is_active t active) i ∙ w.5)))
      (λ (l : k < w.0). or_left (reached t active (suc k) n) here (reached_child (suc k) n w.0 w.1 w.2 l w.4 w.5))
      (eq-or-lt_of_le w.3))
      (reached_out k n e))
      (λ e.
      ⊎_elim
      (λ (i : reached t active (suc k) n ≡ true).
      ⊎_elim
      (λ (j : has active n ≡ true). reached_leaf k n j)
      (λ w. let l : k ≤ w.0 = omega (arith, w.3) in reached_child k n w.0 w.1 w.2 l w.4 w.5)
      (reached_out (suc k) n i))
      (λ (i : here ≡ true).
      reached_child k n k p q (omega arith) (sym (eqb-true n (parent t k) (and_left (eqb n (parent t k)) (is_active t active k) i)))
      (and_right (eqb n (parent t k)) (is_active t active k) i))
      (or_cases (reached t active (suc k) n) here e))
    where
      here : Bool
      here = eqb n (parent t k) && is_active t active k

  -- ---- the set at the loop's head
  pub pass_starts : (m : ℕ) → active < 2 ^ nodes_most → t.count ≤ m → active ≡ set_of (reached t active m)
  pass_starts m fits l =
      sym (set_cong (reached t active m) (has active) nodes_most (λ n q. reached_none m n l) ∙ set_back active nodes_most fits)

  module _ {nodes m k : ℕ} (at : nodes ≡ set_of (reached t active m)) (next : m ≡ suc k) (pos : 0 < k) (node : k ≤ last t) where
    pub pass_sees : has nodes k ≡ is_active t active k
    pass_sees =
        rw at
        (has_set_of (reached t active m) k (omega (arith, last_most sound))
        ∙ reached_whole m k (λ j p q e. let u : parent t j < j = sound.up j p q in omega arith))

    stepped : (n : ℕ) → n < nodes_most → reached t active k n ≡ (has nodes n || (eqb n (parent t k) && is_active t active k))
    stepped n l =
        let e : has nodes n ≡ reached t active (suc k) n = rw (at, ← next) (has_set_of (reached t active m) n l) in
        reached_step k n pos node ∙ rw e

    pub pass_adds : has nodes k ≡ true → {q out : ℕ} → q ≡ parent t k → out ≡ set_of (λ n. has nodes n || eqb n q) → out ≡ set_of (reached t active k)
    pass_adds e {q} {out} f o =
        let a : is_active t active k ≡ true = sym pass_sees ∙ e in
        o ∙ set_cong (λ n. has nodes n || eqb n q) (reached t active k) nodes_most
        (λ n l. sym (stepped n l ∙ rw (a, and-true, f)))

    pub pass_skips : has nodes k ≡ false → nodes ≡ set_of (reached t active k)
    pass_skips e =
        let a : is_active t active k ≡ false = sym pass_sees ∙ e in
        let fits : nodes < 2 ^ nodes_most = rw at (set_of_fits (reached t active m)) in
        sym (set_back nodes nodes_most fits)
        ∙ set_cong (has nodes) (reached t active k) nodes_most (λ n l. sym (stepped n l ∙ rw (a, and-false, or-false)))

  pub pass_ends : {nodes m : ℕ} → nodes ≡ set_of (reached t active m) → m ≤ 1 → nodes ≡ set_of (is_active t active)
  pass_ends {nodes} {m} at l =
      at ∙ set_cong (reached t active m) (is_active t active) nodes_most (λ n q. reached_whole m n (λ k p r e. omega arith))
