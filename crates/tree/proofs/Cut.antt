-- A tree cut off after some of its nodes, and how its leaves change with one node more.
-- Assumes nothing.
use mathlib.Core.Path.{◌≡◌, sym, ap, ◌∙◌}
use mathlib.Core.Bool.{Bool, true, not, ◌&&◌, ◌||◌}
use mathlib.Core.List.{List}
use mathlib.Core.Logic.{⊎_elim}
use Prim.Native.Nat.{ℕ, ◌+◌, ◌-◌, ◌≤◌, ◌<◌}
use native.Mathlib.Nat.{eq-or-lt_of_le, eq-zero-or-pos}
use native.Mathlib.Omega.{arith}
use lib.Dec.{eqb}
use lib.ListN.{get_or}
use borrow.Author.Tests.{eqb-true, eqb-false, eq-eqb, ne_eqb, not-true}
use Rattle.rules.specs.Numbers.{nodes_most}
use Rattle.rules.specs.Words.{has, set_of}
use Rattle.rules.specs.Tree.{parent, last, is_leaf, leaves_of}
use Rattle.rules.specs.declared.tree.Tree.{Tree}
use Rattle.rules.proofs.Laws.Bools.{is_false, same_test, and_left, and_right, and_both, or_left, or_right, or_cases}
use Rattle.rules.proofs.Laws.Sets.{has_none, has_set_of, set_small, set_cong, set_ext}
use Rattle.rules.proofs.Laws.Trees.{leaf_pos, leaf_last, leaf_childless, childless_leaf, has_leaves}
use Rattle.tree.specs.View.{tree_of, Climbs}
use Rattle.tree.proofs.View.{parent_at, last_at}

-- a tree with no node but the root has no leaf
pub no_leaves : (t : Tree) → last t ≡ 0 → 0 ≡ leaves_of t
unfolding leaves_of
no_leaves t e =
    set_ext 0 (set_of (is_leaf t)) nodes_most (omega arith) (set_small (is_leaf t) nodes_most)
    (λ n l. has_none n ∙ sym (has_set_of (is_leaf t) n l ∙ is_false (is_leaf t n) (λ i. let p : 0 < n = leaf_pos t n i in omega (arith, leaf_last t n i))))

-- node n comes to the nodes before it, as a child of q
module _ (ps ws : List ℕ) (n : ℕ) (pos : 0 < n) (up : Climbs ps n) {q : ℕ} (e : q ≡ get_or ps n 0) where
  abbrev before : Tree
  before = tree_of n ps ws

  abbrev after : Tree
  after = tree_of (n + 1) ps ws

  last_before : last before ≡ n - 1
  last_before = last_at before

  last_after : last after ≡ n
  last_after = let i : n + 1 - 1 ≡ n = omega arith in last_at after ∙ i

  same_parent : (k : ℕ) → 0 < k → parent before k ≡ parent after k
  same_parent k p = parent_at before k p ∙ sym (parent_at after k p)

  still_leaf : (k : ℕ) → is_leaf after k ≡ true → ((is_leaf before k || eqb k n) && not (eqb k q)) ≡ true
  still_leaf k i =
      let p : 0 < k = leaf_pos after k i in
      let l : k ≤ n = rw last_after at (leaf_last after k i) in
      and_both (is_leaf before k || eqb k n) (not (eqb k q))
      (⊎_elim
      (λ (j : k ≡ n). or_right (is_leaf before k) (eqb k n) (eq-eqb k n j))
      (λ (m : k < n).
      or_left (is_leaf before k) (eqb k n)
      (childless_leaf before k p (rw last_before (omega arith))
      (λ j a b f. leaf_childless after k i j a (omega (arith, last_before, last_after)) (sym (same_parent j a) ∙ f))))
      (eq-or-lt_of_le l))
      (rw (ne_eqb k q (λ f. leaf_childless after k i n pos (omega (arith, last_after)) (parent_at after n pos ∙ sym e ∙ sym f))))

  leaf_still : (k : ℕ) → ((is_leaf before k || eqb k n) && not (eqb k q)) ≡ true → is_leaf after k ≡ true
  leaf_still k i =
      let other : k ≡ q → ⊥ = eqb-false k q (not-true (eqb k q) (and_right (is_leaf before k || eqb k n) (not (eqb k q)) i)) in
      ⊎_elim
      (λ (b : is_leaf before k ≡ true).
      childless_leaf after k (leaf_pos before k b) (omega (arith, leaf_last before k b, last_before, last_after))
      (λ j p l f.
      ⊎_elim
      (λ (z : j ≡ n). other (sym (rw z at f) ∙ parent_at after n pos ∙ sym e))
      (λ (m : j < n). leaf_childless before k b j p (omega (arith, last_before)) (same_parent j p ∙ f))
      (eq-or-lt_of_le (rw last_after at l))))
      (λ (b : eqb k n ≡ true).
      let z : k ≡ n = eqb-true k n b in
      childless_leaf after k (omega arith) (omega (arith, last_after))
      (λ j p l f. let u : get_or ps j 0 < j = up j p (omega (arith, last_after)) in omega (arith, last_after, parent_at after j p)))
      (or_cases (is_leaf before k) (eqb k n) (and_left (is_leaf before k || eqb k n) (not (eqb k q)) i))

  leaf_cut : (k : ℕ) → is_leaf after k ≡ ((is_leaf before k || eqb k n) && not (eqb k q))
  leaf_cut k = same_test (is_leaf after k) ((is_leaf before k || eqb k n) && not (eqb k q)) (still_leaf k) (leaf_still k)

  -- the new node is a leaf, and its parent is none any more
  pub leaves_cut : {found with out : ℕ} → found ≡ leaves_of before → with ≡ set_of (λ k. has found k || eqb k n)
      → out ≡ set_of (λ k. has with k && not (eqb k q)) → out ≡ leaves_of after
  unfolding leaves_of
  leaves_cut {found} {with} {out} f w o =
      o ∙ set_cong (λ k. has with k && not (eqb k q)) (is_leaf after) nodes_most
      (λ k l.
      let a : has with k ≡ (is_leaf before k || eqb k n) =
      rw w (has_set_of (λ j. has found j || eqb j n) k l ∙ rw f (ap (λ (b : Bool). b || eqb k n) (has_leaves before k l))) in
      rw a (sym (leaf_cut k)))

-- past the last node the tree is whole
pub leaves_whole : (ps ws : List ℕ) (count n : ℕ) → 0 < n → count ≤ n → n - 1 ≤ count - 1 → {found : ℕ}
    → found ≡ leaves_of (tree_of n ps ws) → found ≡ leaves_of (tree_of count ps ws)
leaves_whole ps ws count n p l m {found} f =
    ⊎_elim
    (λ (z : count ≡ 0).
    f ∙ sym (no_leaves (tree_of n ps ws) (omega (arith, last_at (tree_of n ps ws)))) ∙ no_leaves (tree_of count ps ws) (omega (arith, last_at (tree_of count ps ws))))
    (λ (q : 0 < count). let e : n ≡ count = omega arith in rw (← e) f)
    (eq-zero-or-pos count)
