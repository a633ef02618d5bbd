-- A sound tree with the set of its active nodes: what the set says of a node, and the sum and the share that follow.
-- Assumes nothing.
use mathlib.Core.Path.{◌≡◌, refl, sym, ap, ◌∙◌}
use mathlib.Core.Bool.{true, false, cond, ◌&&◌, and-false}
use Prim.Native.Nat.{ℕ, ◌+◌, ◌-◌, ◌*◌, ◌^◌, ◌≤◌, ◌<◌}
use native.Mathlib.Nat.{add-zero, mul-le-mul}
use native.Mathlib.Omega.{arith}
use lib.Dec.{eqb}
use lib.ListN.{get_or}
use borrow.Author.Tests.{eq-eqb, ne_eqb}
use Rattle.rules.specs.Numbers.{whole, nodes_most}
use Rattle.rules.specs.Words.{sum_to, has, set_of}
use Rattle.rules.specs.Units.{floor_of}
use Rattle.rules.specs.Tree.{parent, weight, last, is_leaf, is_active, child_sum}
use Rattle.rules.specs.Invariant.{SoundTree, Within}
use Rattle.rules.specs.declared.tree.Tree.{Tree}
use Rattle.rules.proofs.Laws.Bools.{same_test, and_left, and_right, and_both}
use Rattle.rules.proofs.Laws.Sums.{sum_step}
use Rattle.rules.proofs.Laws.Sets.{has_set_of, set_of_fits, has_node, set_cong, set_back}
use Rattle.rules.proofs.Laws.Trees.{leaf_active, active_last, active_up, child_in, share_root, share_step, share_le}
use Rattle.tree.specs.View.{leaves_in, Lit, child_sum_in, share_among}
use Rattle.tree.proofs.View.{parent_at, weight_at, last_at}

-- ---- from the active leaves to the active nodes and back
module _ {t : Tree} (sound : SoundTree t) (active : ℕ) (within : Within t active) (fits : active < 2 ^ nodes_most)
    {nodes : ℕ} (all : nodes ≡ set_of (is_active t active)) where
  pub leaves_back : leaves_in t nodes ≡ active
  leaves_back =
      set_cong (λ n. is_leaf t n && has nodes n) (has active) nodes_most (λ n l.
      let h : has nodes n ≡ is_active t active n = rw all (has_set_of (is_active t active) n l) in
      same_test (is_leaf t n && has nodes n) (has active n)
      (λ e.
      let leaf : is_leaf t n ≡ true = and_left (is_leaf t n) (has nodes n) e in
      sym (leaf_active sound active n leaf) ∙ sym h ∙ and_right (is_leaf t n) (has nodes n) e)
      (λ e. and_both (is_leaf t n) (has nodes n) (within n e) (h ∙ leaf_active sound active n (within n e) ∙ e)))
      ∙ set_back active nodes_most fits

  pub lit_here : Lit t nodes
  lit_here = record { sound = sound; all = rw leaves_back all }

module _ {t : Tree} {nodes : ℕ} (lit : Lit t nodes) where
  lit_has : (n : ℕ) → n < nodes_most → has nodes n ≡ is_active t (leaves_in t nodes) n
  lit_has n l = ap (λ (s : ℕ). has s n) lit.all ∙ has_set_of (is_active t (leaves_in t nodes)) n l

  pub lit_small : (n : ℕ) → has nodes n ≡ true → n < nodes_most
  lit_small n e = has_node nodes n (rw lit.all (set_of_fits (is_active t (leaves_in t nodes)))) e

  pub lit_active : (n : ℕ) → has nodes n ≡ true → is_active t (leaves_in t nodes) n ≡ true
  lit_active n e = sym (lit_has n (lit_small n e)) ∙ e

  pub lit_last : (n : ℕ) → has nodes n ≡ true → n ≤ last t
  lit_last n e = active_last lit.sound (leaves_in t nodes) n (lit_active n e)

  pub lit_up : (n : ℕ) → 0 < n → has nodes n ≡ true → has nodes (parent t n) ≡ true
  lit_up n p e =
      let l : n ≤ last t = lit_last n e in
      let u : parent t n < n = lit.sound.up n p l in
      lit_has (parent t n) (omega (arith, lit_small n e)) ∙ active_up lit.sound (leaves_in t nodes) n p l (lit_active n e)

-- ---- the sum of the weights of p's active children
abbrev part : Tree → ℕ → ℕ → ℕ → ℕ
part t nodes p k = cond (eqb (parent t k) p && is_active t (leaves_in t nodes) k) (weight t k) 0

-- of the nodes 1 to n
unfoldable pub sum_up_to : Tree → ℕ → ℕ → ℕ → ℕ
sum_up_to t nodes p n = sum_to (part t nodes p) n

pub sum_starts : (t : Tree) (nodes p : ℕ) → 0 ≡ sum_up_to t nodes p 0
unfolding sum_up_to sum_to
sum_starts t nodes p = refl

pub sum_ends : (t : Tree) (nodes p n : ℕ) → n ≡ t.count - 1 → {sum : ℕ} → sum ≡ sum_up_to t nodes p n
    → sum ≡ child_sum t (leaves_in t nodes) p
unfolding sum_up_to child_sum
sum_ends t nodes p n e s = rw (last_at t, ← e) s

module _ (t : Tree) {nodes : ℕ} (lit : Lit t nodes) (p n : ℕ) (pos : 0 < n) (node : n < t.count)
    {sum : ℕ} (s : sum ≡ sum_up_to t nodes p (n - 1)) where
  -- whether n counts, by its parent and the set
  counts : {q w : ℕ} → q ≡ get_or t.parents n 0 → w ≡ get_or t.weights n 0 → part t nodes p n ≡ cond (eqb q p && has nodes n) w 0
  counts {q} {w} e f =
      rw (e, f, lit_has lit n (omega (arith, lit.sound.most)), parent_at t n pos, weight_at t n)

  stepped : {q w : ℕ} → q ≡ get_or t.parents n 0 → w ≡ get_or t.weights n 0 → sum_up_to t nodes p n ≡ sum + cond (eqb q p && has nodes n) w 0
  unfolding sum_up_to
  stepped e f = sum_step (part t nodes p) n pos ∙ rw (s, counts e f)

  pub sum_adds : {q w : ℕ} → q ≡ get_or t.parents n 0 → w ≡ get_or t.weights n 0 → q ≡ p → has nodes n ≡ true → sum + w ≡ sum_up_to t nodes p n
  sum_adds e f i h = sym (stepped e f ∙ rw (eq-eqb _ p i, h))

  pub sum_strange : {q : ℕ} → q ≡ get_or t.parents n 0 → (q ≡ p → ⊥) → sum ≡ sum_up_to t nodes p n
  sum_strange e i = sym (stepped e refl ∙ rw (ne_eqb _ p i, add-zero))

  pub sum_idle : has nodes n ≡ false → sum ≡ sum_up_to t nodes p n
  sum_idle h = sym (stepped refl refl ∙ rw (h, and-false, add-zero))

-- ---- the share of an active node
pub root_share : (t : Tree) (nodes n : ℕ) → n ≡ 0 → whole ≡ share_among t nodes n
root_share t nodes n e = sym (ap (share_among t nodes) e ∙ share_root t (leaves_in t nodes))

-- an active node n below the root, with its parent q
pub record Child (t : Tree) (nodes n q : ℕ) : Type 0 where
  pub lit : Lit t nodes
  pub on : has nodes n ≡ true
  pub below : n ≡ 0 → ⊥
  pub is : q ≡ get_or t.parents n 0

pub child_below : (t : Tree) {nodes : ℕ} → Lit t nodes → (n : ℕ) → has nodes n ≡ true → (n ≡ 0 → ⊥)
    → {q : ℕ} → q ≡ get_or t.parents n 0 → Child t nodes n q
child_below t lit n on below is = record { lit = lit; on = on; below = below; is = is }

module _ {t : Tree} {nodes n q : ℕ} (c : Child t nodes n q) where
  pos : 0 < n
  pos = let b : n ≡ 0 → ⊥ = c.below in omega arith

  is_parent : parent t n ≡ q
  is_parent = parent_at t n pos ∙ sym c.is

  in_tree : n ≤ last t
  in_tree = lit_last c.lit n c.on

  parent_on : has nodes q ≡ true
  parent_on = rw is_parent at (lit_up c.lit n pos c.on)

  pub parent_asks : {f : ℕ} → n ≡ f → (q < f) × (Lit t nodes × (has nodes q ≡ true))
  parent_asks m =
      let u : q < n = rw is_parent at (c.lit.sound.up n pos in_tree) in
      (omega arith, (c.lit, parent_on))

  pub parent_inside : q < nodes_most
  parent_inside = omega (arith, (parent_asks refl).0, lit_small c.lit n c.on)

  pub share_fits : {above w : ℕ} → above ≡ share_among t nodes q → w < 65536 → above * w < 2 ^ 64
  share_fits {above} {w} s l =
      let le : above ≤ whole = rw s (share_le c.lit.sound (leaves_in t nodes) q (lit_last c.lit q parent_on) (lit_active c.lit q parent_on)) in
      let small : w ≤ 65535 = omega arith in
      omega (arith, mul-le-mul le small)

  pub some_weight : {s : ℕ} → s ≡ child_sum_in t nodes q → 0 < s
  some_weight f =
      let w : weight t n ≤ child_sum_in t nodes q = rw is_parent at (child_in t (leaves_in t nodes) n pos in_tree (lit_active c.lit n c.on)) in
      omega (arith, c.lit.sound.light n pos in_tree)

  pub share_stepped : {above w s r : ℕ} → above ≡ share_among t nodes q → w ≡ get_or t.weights n 0 → s ≡ child_sum_in t nodes q
      → r ≡ floor_of (above * w) s → r ≡ share_among t nodes n
  share_stepped h i j k =
      k ∙ rw (h, i, j, ← is_parent, ← weight_at t n) (sym (share_step c.lit.sound (leaves_in t nodes) n pos in_tree))

  pub share_most : {r : ℕ} → r ≡ share_among t nodes n → r ≤ whole
  share_most e = rw e (share_le c.lit.sound (leaves_in t nodes) n in_tree (lit_active c.lit n c.on))
