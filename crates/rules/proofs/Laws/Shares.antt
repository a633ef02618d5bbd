-- The base shares of the active leaves: what they sum to, that fewer active leaves make none smaller, and the floor of a tree that is not thin.
-- Assumes nothing.
use Rattle.std.specs.Prelude.{◌≡◌, Bool, ◌&&◌, eqb, ltb, length, get_or}
use Rattle.std.proofs.Math.Path.{refl}
use Rattle.std.proofs.Common.{◌∙◌, div-mul-le_self, le-div_iff_mul-le, mul-le-mul_left, mul-le-mul_right, add-mul, eq-zero-or-pos, le_trans, le_refl, eq-eqb, eqb-true, ltb-false}
use Rattle.std.proofs.Math.Bool.{true, false, cond}
use Rattle.std.proofs.Math.Logic.{⊎_elim}
use Prim.Native.Nat.{ℕ, zero, suc, ◌+◌, ◌*◌, ◌/◌, ◌≤◌, ◌<◌}
use Rattle.std.proofs.Math.Nat.{le_of_mul-le-mul_right, lt_of_mul-lt-mul_right, lt-div-mul-add}
use native.Mathlib.Omega.{arith}
use Rattle.rules.specs.Numbers.{whole, nodes_most, share_floor}
use Rattle.rules.specs.Words.{sum_to, has}
use Rattle.rules.specs.Units.{floor_of}
use Rattle.rules.specs.Tree.{parent, weight, last, is_leaf, leaves_of, is_active, child_sum, share_of, base_share, base_shares, is_thin}
use Rattle.rules.specs.declared.tree.Tree.{Tree}
use Rattle.rules.proofs.Laws.Bools.{true_not_false, is_false}
use Rattle.rules.proofs.Laws.Sums.{sum_le, sum_add, sum_none, sum_past, sum_in, sum_floors, sum_losses, by_parent, any_none}
use Rattle.rules.proofs.Laws.Tables.{table_length, table_at}
use Rattle.rules.proofs.Laws.Trees.{root_no_leaf, leaf_pos, leaf_last, leaf_childless, leaves_are, last_most}
use Rattle.rules.proofs.Laws.Trees.{active_leaf, active_up, active_more, active_child, root_active, leaf_active, child_in, share_root}
use Rattle.rules.proofs.Laws.Trees.{share_step}
use Rattle.rules.specs.Invariant.{SoundTree, Within}

-- the share of an active node, and 1 for an active node
abbrev held : Tree → ℕ → ℕ → ℕ
held t active n = cond (is_active t active n) (share_of t active n) 0

abbrev counted : Tree → ℕ → ℕ → ℕ
counted t active n = cond (is_active t active n) 1 0

-- of what each node has, what a child of p has, and what all of p's children have
abbrev below : Tree → (ℕ → ℕ) → ℕ → ℕ → ℕ
below t f p n = cond (eqb (parent t n) p) (f n) 0

abbrev kids : Tree → (ℕ → ℕ) → ℕ → ℕ
kids t f p = sum_to (below t f p) (last t)

-- what a node adds to the sum of the weights of p's active children
abbrev part : Tree → ℕ → ℕ → ℕ → ℕ
part t active p n = cond (eqb (parent t n) p && is_active t active n) (weight t n) 0

module _ {t : Tree} (sound : SoundTree t) (active : ℕ) where
  -- a child's share, times the sum of the weights
  kid_le : (p n : ℕ) → 0 < n → n ≤ last t
      → below t (held t active) p n * child_sum t active p ≤ share_of t active p * part t active p n
  kid_le p n l m = go (eqb (parent t n) p) (is_active t active n) refl
    where
      go : (b c : Bool) → eqb (parent t n) p ≡ b
          → cond b (cond c (share_of t active n) 0) 0 * child_sum t active p ≤ share_of t active p * cond (b && c) (weight t n) 0
      go true true e =
          rw (share_step sound active n l m, eqb-true (parent t n) p e)
          (div-mul-le_self (share_of t active p * weight t n) (child_sum t active p))
      go true false e = omega arith
      go false c e = omega arith

  -- a node that has no active child hands nothing down
  no_kids : (p : ℕ) → ((n : ℕ) → 0 < n → n ≤ last t → parent t n ≡ p → is_active t active n ≡ true → ⊥) → kids t (held t active) p ≡ 0
  no_kids p none =
      sum_none (below t (held t active) p) (last t) (λ n l m. go n l m (eqb (parent t n) p) (is_active t active n) refl refl)
    where
      go : (n : ℕ) → 0 < n → n ≤ last t → (b c : Bool) → eqb (parent t n) p ≡ b → is_active t active n ≡ c
          → cond b (cond c (share_of t active n) 0) 0 ≡ 0
      go n l m true true i j = absurd (none n l m (eqb-true (parent t n) p i) j)
      go n l m true false i j = refl
      go n l m false c i j = refl

  leaf_none : (p : ℕ) → is_leaf t p ≡ true → kids t (held t active) p ≡ 0
  leaf_none p e = no_kids p (λ n l m i j. leaf_childless t p e n l m i)

  idle_none : (p : ℕ) → is_active t active p ≡ false → kids t (held t active) p ≡ 0
  idle_none p e = no_kids p (λ n l m i j. true_not_false (rw i at (active_up sound active n l m j)) e)

  sumless_none : (p : ℕ) → child_sum t active p ≡ 0 → kids t (held t active) p ≡ 0
  sumless_none p z =
      no_kids p (λ n l m i j.
      let w : weight t n ≤ child_sum t active p = rw i at (child_in t active n l m j) in
      omega (arith, sound.light n l m))

  -- the children of a node share at most what it has
  kids_le : (p : ℕ) → kids t (held t active) p ≤ share_of t active p
  unfolding child_sum
  kids_le p =
      ⊎_elim
      (λ (z : child_sum t active p ≡ 0). omega (arith, sumless_none p z))
      (λ (l : 0 < child_sum t active p).
      le_of_mul-le-mul_right
      (sum_floors (below t (held t active) p) (part t active p) (share_of t active p) (child_sum t active p) (last t) (kid_le p)) l)
      (eq-zero-or-pos (child_sum t active p))

  -- an active leaf holds what it has as a leaf, and another node what its children have
  node_le : Within t active → (p : ℕ) → base_share t active p + kids t (held t active) p ≤ held t active p
  unfolding base_share
  node_le within p = go (has active p) (is_active t active p) refl refl
    where
      go : (b c : Bool) → has active p ≡ b → is_active t active p ≡ c
          → cond b (share_of t active p) 0 + kids t (held t active) p ≤ cond c (share_of t active p) 0
      go true true i j = omega (arith, leaf_none p (within p i))
      go true false i j =
          absurd (true_not_false (active_leaf t active p i (leaf_pos t p (within p i)) (leaf_last t p (within p i))) j)
      go false true i j = omega (arith, kids_le p)
      go false false i j = omega (arith, idle_none p j)

  -- a child's share and 1 more for it, times the sum of the weights: the floor loses less than 1
  kid_ge : (p n : ℕ) → 0 < child_sum t active p → 0 < n → n ≤ last t
      → share_of t active p * part t active p n + below t (counted t active) p n
      ≤ (below t (held t active) p n + below t (counted t active) p n) * child_sum t active p
  kid_ge p n pos l m = go (eqb (parent t n) p) (is_active t active n) refl
    where
      go : (b c : Bool) → eqb (parent t n) p ≡ b
          → share_of t active p * cond (b && c) (weight t n) 0 + cond b (cond c 1 0) 0
          ≤ (cond b (cond c (share_of t active n) 0) 0 + cond b (cond c 1 0) 0) * child_sum t active p
      go true true e =
          rw (share_step sound active n l m, eqb-true (parent t n) p e)
          (omega (
            arith,
            lt-div-mul-add {a = share_of t active p * weight t n} pos,
            add-mul (floor_of (share_of t active p * weight t n) (child_sum t active p)) 1 (child_sum t active p),
          ))
      go true false e = omega arith
      go false c e = omega arith

  -- an active child is counted
  kid_counted : (k : ℕ) → 0 < k → k ≤ last t → is_active t active k ≡ true → 1 ≤ kids t (counted t active) (parent t k)
  kid_counted k l m e =
      rw (eq-eqb (parent t k) (parent t k) refl, e) at (sum_in (below t (counted t active) (parent t k)) k (last t) l m)

  -- the children of an active node that is no leaf share all that it has but less than their number
  kids_ge : Within t active → (p : ℕ) → is_leaf t p ≡ false → is_active t active p ≡ true
      → share_of t active p + 1 ≤ kids t (held t active) p + kids t (counted t active) p
  unfolding child_sum
  kids_ge within p inner e =
      let c = active_child sound active p within inner e in
      let one : 1 ≤ kids t (counted t active) p = rw c.3 at (kid_counted c.0 c.1 c.2 c.4) in
      let w : weight t c.0 ≤ child_sum t active p = rw c.3 at (child_in t active c.0 c.1 c.2 c.4) in
      let pos : 0 < child_sum t active p = omega (arith, sound.light c.0 c.1 c.2) in
      let both : ℕ → ℕ = λ n. below t (held t active) p n + below t (counted t active) p n in
      let all : share_of t active p * child_sum t active p + kids t (counted t active) p ≤ sum_to both (last t) * child_sum t active p =
      sum_losses both (part t active p) (below t (counted t active) p) (share_of t active p) (child_sum t active p) (last t) (λ n. kid_ge p n pos) in
      let more : share_of t active p < sum_to both (last t) = lt_of_mul-lt-mul_right (child_sum t active p) (omega arith) in
      omega (arith, sum_add (below t (held t active) p) (below t (counted t active) p) (last t))

  node_ge : Within t active → (p : ℕ)
      → held t active p + counted t active p
      ≤ base_share t active p + cond (has active p) 1 0 + (kids t (held t active) p + kids t (counted t active) p)
  unfolding base_share
  node_ge within p = go (has active p) (is_active t active p) (is_leaf t p) refl refl refl
    where
      go : (b c d : Bool) → has active p ≡ b → is_active t active p ≡ c → is_leaf t p ≡ d
          → cond c (share_of t active p) 0 + cond c 1 0
          ≤ cond b (share_of t active p) 0 + cond b 1 0 + (kids t (held t active) p + kids t (counted t active) p)
      go b false d i j k = omega arith
      go true true d i j k = omega arith
      go false true true i j k = absurd (true_not_false j (leaf_active sound active p k ∙ i))
      go false true false i j k = omega (arith, kids_ge within p k j)

-- ---- fewer active leaves
-- a larger number by a smaller one
div_mono : (x y v w : ℕ) → x ≤ y → 0 < v → v ≤ w → x / w ≤ y / v
div_mono x y v w h p l = (le-div_iff_mul-le p).1 (le_trans (mul-le-mul_left (x / w) l) (le_trans (div-mul-le_self x w) h))

module _ {t : Tree} (sound : SoundTree t) (a b : ℕ) (sub : (k : ℕ) → has a k ≡ true → has b k ≡ true) where
  part_mono : (p n : ℕ) → part t a p n ≤ part t b p n
  part_mono p n = go (eqb (parent t n) p) (is_active t a n) refl
    where
      go : (x y : Bool) → is_active t a n ≡ y → cond (x && y) (weight t n) 0 ≤ cond (x && is_active t b n) (weight t n) 0
      go true true e = rw (active_more t a b n sub e) (le_refl (weight t n))
      go true false e = omega arith
      go false y e = omega arith

  child_sum_mono : (p : ℕ) → child_sum t a p ≤ child_sum t b p
  unfolding child_sum
  child_sum_mono p = sum_le (part t a p) (part t b p) (last t) (λ n l m. part_mono p n)

  share_mono : (f n : ℕ) → n ≤ f → n ≤ last t → is_active t a n ≡ true → share_of t b n ≤ share_of t a n
  share_mono zero n p l e = let z : n ≡ 0 = omega arith in rw (z, share_root t a, share_root t b) (le_refl whole)
  share_mono (suc f) zero p l e = rw (share_root t a, share_root t b) (le_refl whole)
  share_mono (suc f) (suc n) p l e =
      let q = parent t (suc n) in
      let up : q < suc n = sound.up (suc n) (omega arith) l in
      rw (share_step sound a (suc n) (omega arith) l, share_step sound b (suc n) (omega arith) l)
      (div_mono _ _ (child_sum t a q) (child_sum t b q)
      (mul-le-mul_right (weight t (suc n)) (share_mono f q (omega arith) (omega arith) (active_up sound a (suc n) (omega arith) l e)))
      (omega (arith, child_in t a (suc n) (omega arith) l e, sound.light (suc n) (omega arith) l))
      (child_sum_mono q))

-- ---- the theorems
-- a node that is no active leaf has no base share
pub no_base_share : (t : Tree) (active n : ℕ) → has active n ≡ false → base_share t active n ≡ 0
unfolding base_share
no_base_share t active n e = rw e

pub base_share_is : (t : Tree) (active n : ℕ) → has active n ≡ true → base_share t active n ≡ share_of t active n
unfolding base_share
base_share_is t active n e = rw e

-- a sum over the set goes no further than the last node
pub members_end : (t : Tree) (active m : ℕ) (f : ℕ → ℕ) → Within t active → last t ≤ m
    → sum_to (λ n. cond (has active n) (f n) 0) m ≡ sum_to (λ n. cond (has active n) (f n) 0) (last t)
members_end t active m f within l =
    sum_past (λ n. cond (has active n) (f n) 0) (last t) m l (λ n p q.
    rw (is_false (has active n) (λ e. let z : n ≤ last t = leaf_last t n (within n e) in omega arith)))

pub base_shares_end : {t : Tree} → SoundTree t → (active : ℕ) → Within t active
    → sum_to (base_share t active) 63 ≡ sum_to (base_share t active) (last t)
unfolding base_share
base_shares_end {t} sound active within = members_end t active 63 (share_of t active) within (omega (arith, last_most sound))

-- the table of the base shares
pub base_shares_length : (t : Tree) (active : ℕ) → length (base_shares t active) ≡ nodes_most
unfolding base_shares
base_shares_length t active = table_length (base_share t active)

pub base_shares_at : (t : Tree) (active n : ℕ) → n < nodes_most → get_or (base_shares t active) n 0 ≡ base_share t active n
unfolding base_shares
base_shares_at t active n l = table_at (base_share t active) n 0 l

-- "The active leaves' base shares sum to at most WHOLE"
pub leaves_share_at_most_whole : {t : Tree} → SoundTree t → (active : ℕ) → Within t active → sum_to (base_share t active) (last t) ≤ whole
leaves_share_at_most_whole {t} sound active within =
    omega (
      arith,
      sum_le (λ p. base_share t active p + kids t (held t active) p) (held t active) (last t) (λ p l m. node_le sound active within p),
      sum_add (base_share t active) (kids t (held t active)) (last t),
      by_parent (parent t) (held t active) (last t) (last t) (λ n l m. let u : parent t n < n = sound.up n l m in omega arith),
      kids_le sound active 0,
      share_root t active,
    )

-- "and to at least WHOLE less the number of active leaves, plus 1, if any is active"
pub leaves_share_all_but_their_number : {t : Tree} → SoundTree t → (active n : ℕ) → Within t active → has active n ≡ true
    → whole + 1 ≤ sum_to (base_share t active) (last t) + sum_to (λ k. cond (has active k) 1 0) (last t)
leaves_share_all_but_their_number {t} sound active n within e =
    let u : (k : ℕ) → 0 < k → k ≤ last t → parent t k ≤ last t = λ k l m. let v : parent t k < k = sound.up k l m in omega arith in
    omega (
      arith,
      sum_le (λ p. held t active p + counted t active p)
          (λ p. base_share t active p + cond (has active p) 1 0 + (kids t (held t active) p + kids t (counted t active) p)) (last t)
          (λ p l m. node_ge sound active within p),
      sum_add (held t active) (counted t active) (last t),
      sum_add (λ p. base_share t active p + cond (has active p) 1 0) (λ p. kids t (held t active) p + kids t (counted t active) p) (last t),
      sum_add (base_share t active) (λ p. cond (has active p) 1 0) (last t),
      sum_add (kids t (held t active)) (kids t (counted t active)) (last t),
      by_parent (parent t) (held t active) (last t) (last t) u,
      by_parent (parent t) (counted t active) (last t) (last t) u,
      kids_ge sound active within 0 (root_no_leaf t) (root_active sound active n within e),
      share_root t active,
    )

-- "With fewer active leaves no share is smaller"
pub fewer_active_no_share_smaller : {t : Tree} → SoundTree t → (a b n : ℕ) → ((k : ℕ) → has a k ≡ true → has b k ≡ true) → n ≤ last t
    → is_active t a n ≡ true → share_of t b n ≤ share_of t a n
fewer_active_no_share_smaller sound a b n sub l e = share_mono sound a b sub n n (le_refl n) l e

-- the shares of a tree that is not thin stay at 1,024 or more
pub not_thin_keeps_the_floor : {t : Tree} → SoundTree t → is_thin t ≡ false → (active n : ℕ) → Within t active → has active n ≡ true
    → share_floor ≤ base_share t active n
unfolding is_thin
not_thin_keeps_the_floor {t} sound thin active n within e =
    let leaf : is_leaf t n ≡ true = within n e in
    let l : n ≤ last t = leaf_last t n leaf in
    let all : share_floor ≤ share_of t (leaves_of t) n =
    ltb-false (share_of t (leaves_of t) n) share_floor
    (rw leaf at (any_none (λ k. is_leaf t k && ltb (share_of t (leaves_of t) k) share_floor) n (last t) thin (leaf_pos t n leaf) l)) in
    rw (base_share_is t active n e)
    (le_trans all
    (fewer_active_no_share_smaller sound active (leaves_of t) n (λ k i. leaves_are sound k ∙ within k i) l
    (active_leaf t active n e (leaf_pos t n leaf) l)))
