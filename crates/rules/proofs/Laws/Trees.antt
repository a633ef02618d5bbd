-- What a sound tree keeps: its nodes, its leaves, the ways to the root, the active nodes, and a share by the parent's share.
-- Assumes nothing.
use Rattle.std.specs.Prelude.{◌≡◌, Bool, true, false, cond, not, ◌&&◌, ◌||◌, ◌⊎◌, leb, ltb, get_or, Ok, Err}
use Rattle.std.proofs.Math.Path.{refl, sym, ap}
use Rattle.std.proofs.Common.{◌∙◌, le_trans, mul-le-mul_left, mul_comm, eq-zero-or-pos, le_refl, eq-or-lt_of_le, lt_of_not-le, le_of_suc-le-suc}
use Rattle.std.proofs.Math.Logic.{inl, inr, ⊎_elim, dite}
use Prim.Native.Nat.{ℕ, zero, suc, ◌*◌, ◌≤◌, ◌<◌}
use Rattle.std.proofs.Math.Nat.{div-le_of_le-mul}
use Rattle.std.proofs.Math.Decide.{dec_lt}
use native.Mathlib.Omega.{arith}
use Rattle.std.proofs.Math.Dec.{eqb}
use borrow.Author.Tests.{ltb-true, ltb-false, leb-true, leb-false, eqb-true, eqb-false, not-true, not-false, lt-ltb, le-ltb, le-leb, lt-leb}
use borrow.Author.Tests.{eq-eqb, ne_eqb}
use Rattle.rules.specs.Numbers.{whole, nodes_least, nodes_most, weight_least, weight_most, level_most}
use Rattle.rules.specs.Words.{any_to, has}
use Rattle.rules.specs.Units.{floor_of}
use Rattle.rules.specs.Tree.{parent, weight, last, level_in, level, count_in_range, weight_in_range, node_fault, earlier_fault, fault_to, tree_fault}
use Rattle.rules.specs.Tree.{is_leaf, leaves_of, on_way_in, on_way, is_active, child_sum, share_in, share_of}
use Rattle.rules.specs.Invariant.{SoundTree, Within}
use Rattle.rules.specs.declared.tree.Tree.{Tree}
use Rattle.rules.specs.declared.tree.Fault.{Fault}
use Rattle.rules.specs.declared.tree.Fault.TheVariants.{Count, Parent, Weight, Level}
use Rattle.rules.proofs.Laws.Bools.{never, true_not_false, is_false, same_test, and_left, and_right, and_both, or_left, or_right, or_cases, between}
use Rattle.rules.proofs.Laws.Sums.{sum_in, any_in, any_out, any_none, none_any}
use Rattle.rules.proofs.Laws.Sets.{has_set_of, set_of_past}
use Rattle.rules.specs.Results.{Finding}

-- what the test of one node says
pub record SoundNode (t : Tree) (n : ℕ) : Type 0 where
  pub up : parent t n < n
  pub light : weight_least ≤ weight t n
  pub heavy : weight t n ≤ weight_most
  pub shallow : level t n ≤ level_most

pub weight_range : (w : ℕ) → weight_in_range w ≡ true → (weight_least ≤ w) × (w ≤ weight_most)
unfolding weight_in_range
weight_range w e = (between weight_least w weight_most).0 e

pub count_range : (c : ℕ) → count_in_range c ≡ true → (nodes_least ≤ c) × (c ≤ nodes_most)
unfolding count_in_range
count_range c e = (between nodes_least c nodes_most).0 e

-- the parent of any node but the root
pub parent_is : (t : Tree) (n : ℕ) → 0 < n → parent t n ≡ get_or t.parents n 0
unfolding parent
parent_is t zero a = absurd (omega arith)
parent_is t (suc n) a = refl

-- a test that would have found the fault f has failed
passed : (b : Bool) (f : Fault) (g : Finding) → cond b (Err f) g ≡ Ok tt → (b ≡ false) × (g ≡ Ok tt)
passed true f g e = never (cc)
passed false f g e = (refl, e)

earlier_left : (f g : Finding) → earlier_fault f g ≡ Ok tt → f ≡ Ok tt
earlier_left (Ok tt) g e = refl
earlier_left (Err f) g e = e

earlier_right : (f g : Finding) → earlier_fault f g ≡ Ok tt → g ≡ Ok tt
earlier_right f g e = rw (earlier_left f g e) at e

pub node_sound : (t : Tree) (n : ℕ) → node_fault t n ≡ Ok tt → SoundNode t n
unfolding node_fault
node_sound t n e =
    let a = passed (leb n (parent t n)) (Parent n) _ e in
    let b = passed (not (weight_in_range (weight t n))) (Weight n) _ a.1 in
    let c = passed (ltb level_most (level t n)) (Level n) _ b.1 in
    let w = weight_range (weight t n) (not-false (weight_in_range (weight t n)) b.0) in
    record {
      up = leb-false n (parent t n) a.0;
      light = w.0;
      heavy = w.1;
      shallow = ltb-false level_most (level t n) c.0;
    }

pub sound_node : (t : Tree) (n : ℕ) → SoundNode t n → node_fault t n ≡ Ok tt
unfolding node_fault weight_in_range
sound_node t n s =
    rw (
      lt-leb n (parent t n) s.up,
      le-leb weight_least (weight t n) s.light,
      le-leb (weight t n) weight_most s.heavy,
      le-ltb level_most (level t n) s.shallow,
    )

pub nodes_sound : (t : Tree) (m : ℕ) → fault_to t m ≡ Ok tt → (n : ℕ) → 0 < n → n ≤ m → SoundNode t n
unfolding fault_to
nodes_sound t zero e n p q = absurd (omega arith)
nodes_sound t (suc m) e n p q =
    ⊎_elim
    (λ (i : n ≡ suc m). rw i (node_sound t (suc m) (earlier_right (fault_to t m) (node_fault t (suc m)) e)))
    (λ (l : n < suc m). nodes_sound t m (earlier_left (fault_to t m) (node_fault t (suc m)) e) n p (omega arith))
    (eq-or-lt_of_le q)

pub sound_nodes : (t : Tree) (m : ℕ) → ((n : ℕ) → 0 < n → n ≤ m → SoundNode t n) → fault_to t m ≡ Ok tt
unfolding fault_to
sound_nodes t zero h = refl
sound_nodes t (suc m) h =
    rw (sound_nodes t m (λ n p q. h n p (omega arith)), sound_node t (suc m) (h (suc m) (omega arith) (omega arith)))

pub sound_from_nodes : (t : Tree) → t.count ≤ nodes_most → ((n : ℕ) → 0 < n → n ≤ last t → SoundNode t n) → SoundTree t
sound_from_nodes t most node = record {
  most = most;
  up = λ n p q. (node n p q).up;
  light = λ n p q. (node n p q).light;
  heavy = λ n p q. (node n p q).heavy;
  shallow = λ n p q. (node n p q).shallow;
}

pub sound_tree : (t : Tree) → tree_fault t ≡ Ok tt → SoundTree t
unfolding tree_fault
sound_tree t e = go (count_in_range t.count) refl e
  where
    go : (b : Bool) → count_in_range t.count ≡ b → cond b (fault_to t (last t)) (Err Count) ≡ Ok tt → SoundTree t
    go true c f = sound_from_nodes t (count_range t.count c).1 (nodes_sound t (last t) f)
    go false c f = never (cc)

pub tree_sound : (t : Tree) → nodes_least ≤ t.count → SoundTree t → tree_fault t ≡ Ok tt
unfolding tree_fault count_in_range
tree_sound t least s =
    rw (le-leb nodes_least t.count least, le-leb t.count nodes_most s.most)
    (sound_nodes t (last t) (λ n p q. record {
      up = s.up n p q;
      light = s.light n p q;
      heavy = s.heavy n p q;
      shallow = s.shallow n p q;
    }))

-- ---- levels: of the nodes 1 to m, where these have a parent with a smaller number
pub level_root : (t : Tree) → level t 0 ≡ 0
unfolding level level_in
level_root t = refl

module _ (t : Tree) (m : ℕ) (up : (k : ℕ) → 0 < k → k ≤ m → parent t k < k) where
  -- more steps than levels change nothing
  level_enough : (f g n : ℕ) → n ≤ f → n ≤ g → n ≤ m → level_in f t n ≡ level_in g t n
  unfolding level_in
  level_enough zero zero n p q l = refl
  level_enough zero (suc g) zero p q l = refl
  level_enough zero (suc g) (suc n) p q l = absurd (omega arith)
  level_enough (suc f) zero zero p q l = refl
  level_enough (suc f) zero (suc n) p q l = absurd (omega arith)
  level_enough (suc f) (suc g) zero p q l = refl
  level_enough (suc f) (suc g) (suc n) p q l =
      let u : parent t (suc n) < suc n = up (suc n) (omega arith) l in
      ap suc (level_enough f g (parent t (suc n)) (omega arith) (omega arith) (omega arith))

  pub level_step : (n : ℕ) → 0 < n → n ≤ m → level t n ≡ suc (level t (parent t n))
  unfolding level level_in
  level_step zero p l = absurd (omega arith)
  level_step (suc n) p l =
      let u : parent t (suc n) < suc n = up (suc n) p l in
      ap suc (level_enough n (parent t (suc n)) (parent t (suc n)) (omega arith) (omega arith) (omega arith))

-- ---- leaves
leaf_test : (t : Tree) (n : ℕ) → is_leaf t n ≡ true → (0 < n) × (n ≤ last t) × (any_to (λ k. eqb (parent t k) n) (last t) ≡ false)
unfolding is_leaf
leaf_test t n e =
    let node = and_left (ltb 0 n && leb n (last t)) (not (any_to (λ k. eqb (parent t k) n) (last t))) e in
    let alone = and_right (ltb 0 n && leb n (last t)) (not (any_to (λ k. eqb (parent t k) n) (last t))) e in
    (ltb-true 0 n (and_left (ltb 0 n) (leb n (last t)) node), leb-true n (last t) (and_right (ltb 0 n) (leb n (last t)) node), not-true _ alone)

module _ (t : Tree) (n : ℕ) (leaf : is_leaf t n ≡ true) where
  pub leaf_pos : 0 < n
  leaf_pos = (leaf_test t n leaf).0

  pub leaf_last : n ≤ last t
  leaf_last = (leaf_test t n leaf).1

  pub leaf_childless : (k : ℕ) → 0 < k → k ≤ last t → parent t k ≡ n → ⊥
  leaf_childless k p q = eqb-false (parent t k) n (any_none (λ j. eqb (parent t j) n) k (last t) (leaf_test t n leaf).2 p q)

pub root_no_leaf : (t : Tree) → is_leaf t 0 ≡ false
root_no_leaf t = is_false (is_leaf t 0) (λ e. let z : 0 < 0 = leaf_pos t 0 e in omega arith)

pub childless_leaf : (t : Tree) (n : ℕ) → 0 < n → n ≤ last t → ((k : ℕ) → 0 < k → k ≤ last t → parent t k ≡ n → ⊥) → is_leaf t n ≡ true
unfolding is_leaf
childless_leaf t n p q h =
    rw (lt-ltb 0 n p, le-leb n (last t) q, none_any (λ k. eqb (parent t k) n) (last t) (λ k a b. ne_eqb (parent t k) n (h k a b)))

pub no_root_within : (t : Tree) (active : ℕ) → Within t active → has active 0 ≡ false
no_root_within t active within = is_false (has active 0) (λ e. true_not_false (within 0 e) (root_no_leaf t))

pub has_leaves : (t : Tree) (n : ℕ) → n < nodes_most → has (leaves_of t) n ≡ is_leaf t n
unfolding leaves_of
has_leaves t n l = has_set_of (is_leaf t) n l

pub leaves_within : (t : Tree) → Within t (leaves_of t)
unfolding leaves_of
leaves_within t n e =
    dite (dec_lt n nodes_most) (λ (l : n < nodes_most). sym (has_leaves t n l) ∙ e)
    (λ g. absurd (true_not_false e (set_of_past (is_leaf t) n (le_of_suc-le-suc (lt_of_not-le g)))))

-- ---- the way to the root
pub parent_root : (t : Tree) → parent t 0 ≡ 0
unfolding parent
parent_root t = refl

way_self_in : (f : ℕ) (t : Tree) (k : ℕ) → on_way_in f t k k ≡ true
unfolding on_way_in
way_self_in zero t k = eq-eqb k k refl
way_self_in (suc f) t k = or_left (eqb k k) (on_way_in f t (parent t k) k) (eq-eqb k k refl)

pub way_self : (t : Tree) (k : ℕ) → on_way t k k ≡ true
unfolding on_way
way_self t k = way_self_in k t k

-- an active node is on the way of a leaf in the set
pub active_out : (t : Tree) (active n : ℕ) → is_active t active n ≡ true
    → (k : ℕ) × (0 < k) × (k ≤ last t) × (has active k ≡ true) × (on_way t k n ≡ true)
unfolding is_active
active_out t active n e =
    let w = any_out (λ k. has active k && on_way t k n) (last t) e in
    let k = w.0 in
    (k, w.1, w.2, and_left (has active k) (on_way t k n) w.3, and_right (has active k) (on_way t k n) w.3)

pub active_in : (t : Tree) (active n k : ℕ) → 0 < k → k ≤ last t → has active k ≡ true → on_way t k n ≡ true → is_active t active n ≡ true
unfolding is_active
active_in t active n k p q a b = any_in (λ j. has active j && on_way t j n) k (last t) p q (and_both (has active k) (on_way t k n) a b)

pub active_leaf : (t : Tree) (active n : ℕ) → has active n ≡ true → 0 < n → n ≤ last t → is_active t active n ≡ true
active_leaf t active n e p q = active_in t active n n p q e (way_self t n)

-- what is active with fewer leaves is active with more
pub active_more : (t : Tree) (a b n : ℕ) → ((k : ℕ) → has a k ≡ true → has b k ≡ true) → is_active t a n ≡ true → is_active t b n ≡ true
active_more t a b n sub e = let w = active_out t a n e in active_in t b n w.0 w.1 w.2 (sub w.0 w.3) w.4

-- an active child's weight is in its parent's sum
pub child_in : (t : Tree) (active n : ℕ) → 0 < n → n ≤ last t → is_active t active n ≡ true → weight t n ≤ child_sum t active (parent t n)
unfolding child_sum
child_in t active n p q e =
    rw (eq-eqb (parent t n) (parent t n) refl, e) at
    (sum_in (λ k. cond (eqb (parent t k) (parent t n) && is_active t active k) (weight t k) 0) n (last t) p q)

pub share_root : (t : Tree) (active : ℕ) → share_of t active 0 ≡ whole
unfolding share_of share_in
share_root t active = refl

module _ {t : Tree} (sound : SoundTree t) where
  pub last_most : last t < nodes_most
  unfolding last
  last_most = omega arith

  -- for a sound tree the leaves are the set's members, whatever the number
  pub leaves_are : (n : ℕ) → has (leaves_of t) n ≡ is_leaf t n
  leaves_are n =
      same_test (has (leaves_of t) n) (is_leaf t n) (leaves_within t n)
      (λ e. has_leaves t n (omega (arith, leaf_last t n e, last_most)) ∙ e)

  -- one step up takes one of what bounds the steps
  up_in : (f k : ℕ) → k ≤ suc f → k ≤ last t → parent t k ≤ f
  up_in f zero p q = rw (parent_root t) (omega arith)
  up_in f (suc k) p q = omega (arith, sound.up (suc k) (omega arith) q)

  up_last : (k : ℕ) → k ≤ last t → parent t k ≤ last t
  up_last zero q = rw (parent_root t) q
  up_last (suc k) q = omega (arith, sound.up (suc k) (omega arith) q)

  -- every way ends at the root
  way_root_in : (f k : ℕ) → k ≤ f → k ≤ last t → on_way_in f t k 0 ≡ true
  unfolding on_way_in
  way_root_in zero k p q = eq-eqb k 0 (omega arith)
  way_root_in (suc f) k p q = or_right (eqb k 0) (on_way_in f t (parent t k) 0) (way_root_in f (parent t k) (up_in f k p q) (up_last k q))

  pub way_root : (k : ℕ) → k ≤ last t → on_way t k 0 ≡ true
  unfolding on_way
  way_root k q = way_root_in k k (le_refl k) q

  -- a way that passes a node passes its parent
  way_up_in : (f k n : ℕ) → k ≤ f → k ≤ last t → 0 < n → on_way_in f t k n ≡ true → on_way_in f t k (parent t n) ≡ true
  unfolding on_way_in
  way_up_in zero k n p q l e = let i : k ≡ n = eqb-true k n e in absurd (omega arith)
  way_up_in (suc f) k n p q l e =
      ⊎_elim
      (λ (i : eqb k n ≡ true).
      let j : k ≡ n = eqb-true k n i in
      or_right (eqb k (parent t n)) (on_way_in f t (parent t k) (parent t n)) (rw j (way_self_in f t (parent t n))))
      (λ (i : on_way_in f t (parent t k) n ≡ true).
      or_right (eqb k (parent t n)) (on_way_in f t (parent t k) (parent t n)) (way_up_in f (parent t k) n (up_in f k p q) (up_last k q) l i))
      (or_cases (eqb k n) (on_way_in f t (parent t k) n) e)

  pub way_up : (k n : ℕ) → k ≤ last t → 0 < n → on_way t k n ≡ true → on_way t k (parent t n) ≡ true
  unfolding on_way
  way_up k n q l e = way_up_in k k n (le_refl k) q l e

  -- a way that passes a node begins there, or passes a child of it
  way_child_in : (f k n : ℕ) → k ≤ last t → on_way_in f t k n ≡ true
      → (k ≡ n) ⊎ ((j : ℕ) × (0 < j) × (j ≤ last t) × (parent t j ≡ n) × (on_way_in f t k j ≡ true))
  unfolding on_way_in
  way_child_in zero k n q e = inl (eqb-true k n e)
  way_child_in (suc f) k n q e =
      ⊎_elim
      (λ (i : eqb k n ≡ true). inl (eqb-true k n i))
      (λ (i : on_way_in f t (parent t k) n ≡ true).
      ⊎_elim
      (λ (j : parent t k ≡ n).
      ⊎_elim
      (λ (z : k ≡ 0). inl (z ∙ sym (parent_root t) ∙ ap (parent t) (sym z) ∙ j))
      (λ (l : 0 < k). inr (k, l, q, j, or_left (eqb k k) (on_way_in f t (parent t k) k) (eq-eqb k k refl)))
      (eq-zero-or-pos k))
      (λ w. inr (w.0, w.1, w.2, w.3, or_right (eqb k w.0) (on_way_in f t (parent t k) w.0) w.4))
      (way_child_in f (parent t k) n (up_last k q) i))
      (or_cases (eqb k n) (on_way_in f t (parent t k) n) e)

  pub way_child : (k n : ℕ) → k ≤ last t → on_way t k n ≡ true
      → (k ≡ n) ⊎ ((j : ℕ) × (0 < j) × (j ≤ last t) × (parent t j ≡ n) × (on_way t k j ≡ true))
  unfolding on_way
  way_child k n q e = way_child_in k k n q e

  -- ---- active nodes
  module _ (active : ℕ) where
    pub active_up : (n : ℕ) → 0 < n → n ≤ last t → is_active t active n ≡ true → is_active t active (parent t n) ≡ true
    active_up n p q e =
        let w = active_out t active n e in
        active_in t active (parent t n) w.0 w.1 w.2 w.3 (way_up w.0 n w.2 p w.4)

    -- only nodes are active
    pub active_last : (n : ℕ) → is_active t active n ≡ true → n ≤ last t
    active_last n e =
        let w = active_out t active n e in
        ⊎_elim
        (λ (i : w.0 ≡ n). let q : w.0 ≤ last t = w.2 in omega arith)
        (λ c. let u : parent t c.0 < c.0 = sound.up c.0 c.1 c.2 in omega (arith, c.2, c.3))
        (way_child w.0 n w.2 w.4)

    -- a leaf is active when it is in the set, and only then
    pub leaf_active : (n : ℕ) → is_leaf t n ≡ true → is_active t active n ≡ has active n
    leaf_active n l =
        same_test (is_active t active n) (has active n)
        (λ e.
        let w = active_out t active n e in
        ⊎_elim
        (λ (i : w.0 ≡ n). rw i at w.3)
        (λ c. absurd (leaf_childless t n l c.0 c.1 c.2 c.3))
        (way_child w.0 n w.2 w.4))
        (λ e. active_leaf t active n e (leaf_pos t n l) (leaf_last t n l))

    -- the root is active when anybody is
    pub root_active : (n : ℕ) → Within t active → has active n ≡ true → is_active t active 0 ≡ true
    root_active n w e =
        let q : n ≤ last t = leaf_last t n (w n e) in
        active_in t active 0 n (leaf_pos t n (w n e)) q e (way_root n q)

    -- an active node that is no leaf has an active child
    pub active_child : (n : ℕ) → Within t active → is_leaf t n ≡ false → is_active t active n ≡ true
        → (k : ℕ) × (0 < k) × (k ≤ last t) × (parent t k ≡ n) × (is_active t active k ≡ true)
    active_child n w l e =
        let a = active_out t active n e in
        ⊎_elim
        (λ (i : a.0 ≡ n). absurd (true_not_false (rw i at (w a.0 a.3)) l))
        (λ c. (c.0, c.1, c.2, c.3, active_in t active c.0 a.0 a.1 a.2 a.3 c.4))
        (way_child a.0 n a.2 a.4)

    -- a node is active that is in the set or has an active child
    pub active_step : (n : ℕ) → Within t active
        → is_active t active n ≡ (has active n || any_to (λ k. eqb (parent t k) n && is_active t active k) (last t))
    active_step n within =
        same_test (is_active t active n) (has active n || kid)
        (λ e.
        let w = active_out t active n e in
        ⊎_elim
        (λ (i : w.0 ≡ n). or_left (has active n) kid (rw i at w.3))
        (λ c.
        or_right (has active n) kid
        (any_in (λ k. eqb (parent t k) n && is_active t active k) c.0 (last t) c.1 c.2
        (and_both (eqb (parent t c.0) n) (is_active t active c.0) (eq-eqb (parent t c.0) n c.3)
        (active_in t active c.0 w.0 w.1 w.2 w.3 c.4))))
        (way_child w.0 n w.2 w.4))
        (λ e.
        ⊎_elim
        (λ (i : has active n ≡ true). active_leaf t active n i (leaf_pos t n (within n i)) (leaf_last t n (within n i)))
        (λ (i : kid ≡ true).
        let c = any_out (λ k. eqb (parent t k) n && is_active t active k) (last t) i in
        let k = c.0 in
        let p : parent t k ≡ n = eqb-true (parent t k) n (and_left (eqb (parent t k) n) (is_active t active k) c.3) in
        rw p at (active_up k c.1 c.2 (and_right (eqb (parent t k) n) (is_active t active k) c.3)))
        (or_cases (has active n) kid e))
      where
        kid : Bool
        kid = any_to (λ k. eqb (parent t k) n && is_active t active k) (last t)

    -- ---- shares
    -- more steps than levels change nothing
    share_enough : (f g n : ℕ) → n ≤ f → n ≤ g → n ≤ last t → share_in f t active n ≡ share_in g t active n
    unfolding share_in
    share_enough zero zero n p q l = refl
    share_enough zero (suc g) zero p q l = refl
    share_enough zero (suc g) (suc n) p q l = absurd (omega arith)
    share_enough (suc f) zero zero p q l = refl
    share_enough (suc f) zero (suc n) p q l = absurd (omega arith)
    share_enough (suc f) (suc g) zero p q l = refl
    share_enough (suc f) (suc g) (suc n) p q l =
        ap (λ (x : ℕ). floor_of (x * weight t (suc n)) (child_sum t active (parent t (suc n))))
        (share_enough f g (parent t (suc n)) (up_in f (suc n) p l) (up_in g (suc n) q l) (up_last (suc n) l))

    pub share_step : (n : ℕ) → 0 < n → n ≤ last t
        → share_of t active n ≡ floor_of (share_of t active (parent t n) * weight t n) (child_sum t active (parent t n))
    unfolding share_of share_in
    share_step zero p l = absurd (omega arith)
    share_step (suc n) p l =
        ap (λ (x : ℕ). floor_of (x * weight t (suc n)) (child_sum t active (parent t (suc n))))
        (share_enough n (parent t (suc n)) (parent t (suc n)) (up_in n (suc n) (le_refl _) l) (le_refl _) (up_last (suc n) l))

    -- no child has more than its parent
    pub share_le_parent : (n : ℕ) → 0 < n → n ≤ last t → is_active t active n ≡ true → share_of t active n ≤ share_of t active (parent t n)
    share_le_parent n p l e =
        rw (share_step n p l)
        (div-le_of_le-mul (child_sum t active (parent t n))
        (rw (mul_comm (child_sum t active (parent t n))) (mul-le-mul_left (share_of t active (parent t n)) (child_in t active n p l e))))

    share_le_in : (f n : ℕ) → n ≤ f → n ≤ last t → is_active t active n ≡ true → share_of t active n ≤ whole
    share_le_in zero n p l e = let z : n ≡ 0 = omega arith in rw (z, share_root t active) (le_refl whole)
    share_le_in (suc f) zero p l e = rw (share_root t active) (le_refl whole)
    share_le_in (suc f) (suc n) p l e =
        le_trans (share_le_parent (suc n) (omega arith) l e)
        (share_le_in f (parent t (suc n)) (up_in f (suc n) p l) (up_last (suc n) l) (active_up (suc n) (omega arith) l e))

    pub share_le : (n : ℕ) → n ≤ last t → is_active t active n ≡ true → share_of t active n ≤ whole
    share_le n l e = share_le_in n n (le_refl n) l e
