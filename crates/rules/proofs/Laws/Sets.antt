-- Laws of a set of nodes that is kept as bits of one number: its members, its size, and when two are equal.
-- Assumes nothing.
use Rattle.std.specs.Prelude.{◌≡◌, refl, Bool, true, false, cond, not, ◌&&◌, ◌||◌, eqb}
use Rattle.std.proofs.Common.{sym, ap, ◌∙◌, mod-lt, mod-eq_of_lt, lt_of_lt_of_le, eq-or-lt_of_le, le_of_suc-le-suc, pow-suc, one-mul, mul_assoc, div-lt_iff_lt-mul, add-zero, zero-add, lt_of_not-le, pow_mono, pow-add, eqb-true, eq-eqb, ne_eqb}
use Rattle.std.proofs.Math.Bool.{and-true, or-false}
use Rattle.std.proofs.Math.Logic.{⊎_elim, dite}
use Prim.Native.Nat.{ℕ, zero, suc, ◌+◌, ◌-◌, ◌*◌, ◌/◌, ◌%◌, ◌^◌, ◌≤◌, ◌<◌}
use Rattle.std.proofs.Math.Nat.{zero-div, div-eq_of_lt, add-mul-div_right, add-mul-mod_self_right, mod-add-div', two-pow-succ, add-div_right}
use Rattle.std.proofs.Math.Decide.{dec_lt}
use native.Mathlib.Omega.{arith}
use Rattle.std.specs.Int.Bits.{bit_or, bit_xor}
use Rattle.std.proofs.lemmas.Nat.{or_shr, or_mod, or_lt, xor_shr, xor_mod, xor_lt}
use Rattle.std.proofs.Math.Pow.{pow_pos, pow-lt}
use Rattle.std.proofs.lemmas.Bool.{eqb-false}
use Rattle.rules.specs.Numbers.{nodes_most, leaf_most}
use Rattle.rules.specs.Words.{any_to, has, set_to, set_of}
use Rattle.rules.proofs.Laws.Bools.{true_not_false, is_true, or_right, and_left, and_not_right}
use Rattle.rules.proofs.Laws.Sums.{any_none, none_any}

pub has_none : (n : ℕ) → has 0 n ≡ false
unfolding has
has_none n = rw zero-div

-- a number below 2 ^ m has no member from m on
pub has_small : (s m n : ℕ) → s < 2 ^ m → m ≤ n → has s n ≡ false
unfolding has
has_small s m n h l = rw (div-eq_of_lt (lt_of_lt_of_le h (pow_mono l)))

-- a multiple of 2 ^ m does not change the members below m
has_low : (s x m n : ℕ) → n < m → has (s + x * 2 ^ m) n ≡ has s n
unfolding has
has_low s x m n h =
    let e : m ≡ suc (m - suc n) + n = omega arith in
    let k : x * 2 ^ m ≡ x * 2 ^ (m - suc n) * 2 * 2 ^ n =
    ap (λ (y : ℕ). x * 2 ^ y) e ∙ rw (pow-add, pow-suc, ← mul_assoc, ← mul_assoc) in
    rw (k, add-mul-div_right s (x * 2 ^ (m - suc n) * 2) (pow_pos n), add-mul-mod_self_right)

-- above what lies below 2 ^ m, one more 2 ^ m or none is whether m is a member
top_here : (s m : ℕ) (b : Bool) → s < 2 ^ m → has (s + cond b (2 ^ m) 0) m ≡ b
unfolding has
top_here s m true h = rw (add-div_right s (pow_pos m), div-eq_of_lt h)
top_here s m false h = rw (add-zero, div-eq_of_lt h)

top_below : (s m n : ℕ) (b : Bool) → n < m → has (s + cond b (2 ^ m) 0) n ≡ has s n
top_below s m n true h = rw one-mul at (has_low s 1 m n h)
top_below s m n false h = rw add-zero

top_small : (s m : ℕ) (b : Bool) → s < 2 ^ m → s + cond b (2 ^ m) 0 < 2 ^ suc m
top_small s m true h = omega (arith, two-pow-succ m)
top_small s m false h = omega (arith, two-pow-succ m)

pub set_small : (p : ℕ → Bool) (m : ℕ) → set_to p m < 2 ^ m
unfolding set_to
set_small p zero = omega arith
set_small p (suc m) = top_small (set_to p m) m (p m) (set_small p m)

pub set_cong : (p q : ℕ → Bool) (m : ℕ) → ((n : ℕ) → n < m → p n ≡ q n) → set_to p m ≡ set_to q m
unfolding set_to
set_cong p q zero h = refl
set_cong p q (suc m) h = rw (set_cong p q m (λ n l. h n (omega arith)), h m (omega arith))

-- fewer members, a smaller number
digit_le : (a b : Bool) (x : ℕ) → (a ≡ true → b ≡ true) → cond a x 0 ≤ cond b x 0
digit_le true b x h = rw (h refl) (omega arith)
digit_le false b x h = omega arith

module _ (p q : ℕ → Bool) (sub : (n : ℕ) → p n ≡ true → q n ≡ true) where
  pub set_le : (m : ℕ) → set_to p m ≤ set_to q m
  unfolding set_to
  set_le zero = omega arith
  set_le (suc m) = omega (arith, set_le m, digit_le (p m) (q m) (2 ^ m) (sub m))

  pub set_less : (m n : ℕ) → n < m → p n ≡ false → q n ≡ true → set_to p m < set_to q m
  unfolding set_to
  set_less zero n h e f = absurd (omega arith)
  set_less (suc m) n h e f =
      ⊎_elim
      (λ (i : n ≡ m). rw (← i, e, f) (omega (arith, set_le n, pow_pos n)))
      (λ (l : n < m). omega (arith, set_less m n l e f, digit_le (p m) (q m) (2 ^ m) (sub m)))
      (eq-or-lt_of_le (le_of_suc-le-suc h))

-- a member is what the test holds of
pub has_set : (p : ℕ → Bool) (m n : ℕ) → n < m → has (set_to p m) n ≡ p n
unfolding set_to
has_set p zero n h = absurd (omega arith)
has_set p (suc m) n h =
    ⊎_elim
    (λ (e : n ≡ m). rw e (top_here (set_to p m) m (p m) (set_small p m)))
    (λ (l : n < m). top_below (set_to p m) m n (p m) l ∙ has_set p m n l)
    (eq-or-lt_of_le (le_of_suc-le-suc h))

pub has_past : (p : ℕ → Bool) (m n : ℕ) → m ≤ n → has (set_to p m) n ≡ false
has_past p m n l = has_small (set_to p m) m n (set_small p m) l

-- the digit at the top, as a number
top_digit : (c w : ℕ) → c < 2 → cond (eqb (c % 2) 1) w 0 ≡ c * w
top_digit zero w h = omega arith
top_digit (suc zero) w h = omega arith
top_digit (suc (suc c)) w h = absurd (omega arith)

-- a number is the set of its members
pub set_back : (s m : ℕ) → s < 2 ^ m → set_to (has s) m ≡ s
unfolding set_to has
set_back s zero h = omega arith
set_back s (suc m) h =
    let l : s % 2 ^ m < 2 ^ m = mod-lt s (pow_pos m) in
    let e : s % 2 ^ m + s / 2 ^ m * 2 ^ m ≡ s = mod-add-div' s (2 ^ m) in
    let lows : set_to (has s) m ≡ set_to (has (s % 2 ^ m)) m =
    set_cong (has s) (has (s % 2 ^ m)) m (λ n q. rw e at (has_low (s % 2 ^ m) (s / 2 ^ m) m n q)) in
    let top : s / 2 ^ m < 2 = (div-lt_iff_lt-mul (pow_pos m)).1 (omega (arith, two-pow-succ m)) in
    omega (arith, lows, set_back (s % 2 ^ m) m l, top_digit (s / 2 ^ m) (2 ^ m) top)

-- two sets are equal that have the same members
pub set_ext : (s t m : ℕ) → s < 2 ^ m → t < 2 ^ m → ((n : ℕ) → n < m → has s n ≡ has t n) → s ≡ t
set_ext s t m a b h = sym (set_back s m a) ∙ set_cong (has s) (has t) m h ∙ set_back t m b

-- ---- at the nodes
pub has_set_of : (p : ℕ → Bool) (n : ℕ) → n < nodes_most → has (set_of p) n ≡ p n
has_set_of p n h = has_set p nodes_most n h

pub set_of_fits : (p : ℕ → Bool) → set_of p < 2 ^ nodes_most
set_of_fits p = set_small p nodes_most

-- a member is a node
pub has_node : (s n : ℕ) → s < 2 ^ nodes_most → has s n ≡ true → n < nodes_most
has_node s n fits e =
    dite (dec_lt n nodes_most) (λ (l : n < nodes_most). l)
    (λ g. absurd (true_not_false e (has_small s nodes_most n fits (omega (arith, lt_of_not-le g)))))

pub set_of_in : (p : ℕ → Bool) (n : ℕ) → has (set_of p) n ≡ true → p n ≡ true
set_of_in p n e = sym (has_set_of p n (has_node (set_of p) n (set_of_fits p) e)) ∙ e

pub set_of_past : (p : ℕ → Bool) (n : ℕ) → nodes_most ≤ n → has (set_of p) n ≡ false
set_of_past p n h = has_past p nodes_most n h

-- ---- bit by bit: a set with a member more, and one without
or_digit : (a b n : ℕ) → bit_or a b / 2 ^ n % 2 ≡ bit_or (a / 2 ^ n % 2) (b / 2 ^ n % 2)
or_digit a b n = ap (λ (x : ℕ). x % 2) (or_shr a b n) ∙ or_mod (a / 2 ^ n) (b / 2 ^ n) 1

xor_digit : (a b n : ℕ) → bit_xor a b / 2 ^ n % 2 ≡ bit_xor (a / 2 ^ n % 2) (b / 2 ^ n % 2)
xor_digit a b n = ap (λ (x : ℕ). x % 2) (xor_shr a b n) ∙ xor_mod (a / 2 ^ n) (b / 2 ^ n) 1

digit_small : (s n : ℕ) → s / 2 ^ n % 2 < 2
digit_small s n = mod-lt (s / 2 ^ n) (omega arith)

one_or : (x y : ℕ) → x < 2 → y < 2 → eqb (bit_or x y) 1 ≡ (eqb x 1 || eqb y 1)
one_or zero zero p q = refl
one_or zero (suc zero) p q = refl
one_or (suc zero) zero p q = refl
one_or (suc zero) (suc zero) p q = refl
one_or (suc (suc x)) y p q = absurd (omega arith)
one_or zero (suc (suc y)) p q = absurd (omega arith)
one_or (suc zero) (suc (suc y)) p q = absurd (omega arith)

one_less : (x y : ℕ) → x < 2 → y < 2 → eqb (bit_xor (bit_or x y) y) 1 ≡ (eqb x 1 && not (eqb y 1))
one_less zero zero p q = refl
one_less zero (suc zero) p q = refl
one_less (suc zero) zero p q = refl
one_less (suc zero) (suc zero) p q = refl
one_less (suc (suc x)) y p q = absurd (omega arith)
one_less zero (suc (suc y)) p q = absurd (omega arith)
one_less (suc zero) (suc (suc y)) p q = absurd (omega arith)

-- a member of either
pub has_or : (s t n : ℕ) → has (bit_or s t) n ≡ (has s n || has t n)
unfolding has
has_or s t n = rw (or_digit s t n) (one_or (s / 2 ^ n % 2) (t / 2 ^ n % 2) (digit_small s n) (digit_small t n))

-- a member of the first and not of the second
pub has_less : (s t n : ℕ) → has (bit_xor (bit_or s t) t) n ≡ (has s n && not (has t n))
unfolding has
has_less s t n =
    rw (xor_digit (bit_or s t) t n, or_digit s t n)
    (one_less (s / 2 ^ n % 2) (t / 2 ^ n % 2) (digit_small s n) (digit_small t n))

-- the set of n alone
pub has_one : (n k : ℕ) → has (2 ^ n) k ≡ eqb k n
has_one n k = go (eqb k n) refl
  where
    go : (b : Bool) → eqb k n ≡ b → has (2 ^ n) k ≡ b
    go true e = let i : k ≡ n = eqb-true k n e in rw i (rw zero-add at (top_here 0 n true (pow_pos n)))
    go false e =
        dite (dec_lt k n)
        (λ (l : k < n). rw (one-mul, zero-add) at (has_low 0 1 n k l) ∙ has_none k)
        (λ g. has_small (2 ^ n) k k (pow-lt (omega (arith, lt_of_not-le g, eqb-false k n e))) (omega arith))

-- a 1 that is shifted to place n of 64
pub one_shift : (n : ℕ) → n < nodes_most → (1 * 2 ^ n) % 2 ^ nodes_most ≡ 2 ^ n
one_shift n h = rw one-mul (mod-eq_of_lt (pow-lt h))

module _ (s n : ℕ) (fits : s < 2 ^ nodes_most) (node : n < nodes_most) where
  pub insert_bit : bit_or s (2 ^ n) ≡ set_of (λ k. has s k || eqb k n)
  insert_bit =
      set_ext (bit_or s (2 ^ n)) (set_of (λ k. has s k || eqb k n)) nodes_most (or_lt nodes_most s (2 ^ n) fits (pow-lt node))
      (set_small (λ k. has s k || eqb k n) nodes_most)
      (λ k l. rw (has_or s (2 ^ n) k, has_one n k) (sym (has_set_of (λ j. has s j || eqb j n) k l)))

  pub remove_bit : bit_xor (bit_or s (2 ^ n)) (2 ^ n) ≡ set_of (λ k. has s k && not (eqb k n))
  remove_bit =
      set_ext (bit_xor (bit_or s (2 ^ n)) (2 ^ n)) (set_of (λ k. has s k && not (eqb k n))) nodes_most
      (xor_lt nodes_most (bit_or s (2 ^ n)) (2 ^ n) (or_lt nodes_most s (2 ^ n) fits (pow-lt node)) (pow-lt node))
      (set_small (λ k. has s k && not (eqb k n)) nodes_most)
      (λ k l. rw (has_less s (2 ^ n) k, has_one n k) (sym (has_set_of (λ j. has s j && not (eqb j n)) k l)))

-- what is put in is in, what is taken out is out, and every other member is as it was
module _ (s n k : ℕ) (node : k < nodes_most) where
  pub insert_here : k ≡ n → has (set_of (λ j. has s j || eqb j n)) k ≡ true
  insert_here e = has_set_of (λ j. has s j || eqb j n) k node ∙ or_right (has s k) (eqb k n) (eq-eqb k n e)

  pub insert_others : (k ≡ n → ⊥) → has (set_of (λ j. has s j || eqb j n)) k ≡ has s k
  insert_others e = has_set_of (λ j. has s j || eqb j n) k node ∙ rw (ne_eqb k n e, or-false)

  pub remove_here : k ≡ n → has (set_of (λ j. has s j && not (eqb j n))) k ≡ false
  remove_here e = has_set_of (λ j. has s j && not (eqb j n)) k node ∙ and_not_right (has s k) (not (eqb k n)) (rw (eq-eqb k n e))

  pub remove_others : (k ≡ n → ⊥) → has (set_of (λ j. has s j && not (eqb j n))) k ≡ has s k
  remove_others e = has_set_of (λ j. has s j && not (eqb j n)) k node ∙ rw (ne_eqb k n e, and-true)

-- what is in the set without n was in the set, and is not n
pub remove_from : (s n k : ℕ) → has (set_of (λ j. has s j && not (eqb j n))) k ≡ true → has s k ≡ true
remove_from s n k e = and_left (has s k) (not (eqb k n)) (set_of_in (λ j. has s j && not (eqb j n)) k e)

-- a set is a smaller number without one of its members
pub remove_less : (s n : ℕ) → s < 2 ^ nodes_most → n < nodes_most → has s n ≡ true → set_of (λ k. has s k && not (eqb k n)) < s
remove_less s n fits node e =
    let less : set_of (λ k. has s k && not (eqb k n)) < set_of (has s) =
    set_less (λ k. has s k && not (eqb k n)) (has s) (λ k i. and_left (has s k) (not (eqb k n)) i) nodes_most n node
    (and_not_right (has s n) (not (eqb n n)) (rw (eq-eqb n n refl))) e in
    rw (set_back s nodes_most fits) at less

-- ---- the members of s that are none of t
pub less_bits : (s t : ℕ) → s < 2 ^ nodes_most → t < 2 ^ nodes_most → bit_xor (bit_or s t) t ≡ set_of (λ k. has s k && not (has t k))
less_bits s t l m =
    set_ext (bit_xor (bit_or s t) t) (set_of (λ k. has s k && not (has t k))) nodes_most
    (xor_lt nodes_most (bit_or s t) t (or_lt nodes_most s t l m) m)
    (set_small (λ k. has s k && not (has t k)) nodes_most)
    (λ k h. has_less s t k ∙ sym (has_set_of (λ j. has s j && not (has t j)) k h))

-- a set of leaves has a member if it is not 0
pub some_leaf : (s : ℕ) → s < 2 ^ nodes_most → has s 0 ≡ false → any_to (has s) leaf_most ≡ not (eqb s 0)
some_leaf s l root = go (eqb s 0) refl
  where
    go : (b : Bool) → eqb s 0 ≡ b → any_to (has s) leaf_most ≡ not b
    go true e = let z : s ≡ 0 = eqb-true s 0 e in none_any (has s) leaf_most (λ n p q. rw z (has_none n))
    go false e = is_true (any_to (has s) leaf_most) (λ i. eqb-false s 0 e (set_ext s 0 nodes_most l (omega arith) (λ n h. empty n h i)))
      where
        empty : (n : ℕ) → n < nodes_most → any_to (has s) leaf_most ≡ false → has s n ≡ has 0 n
        empty zero h i = root ∙ sym (has_none 0)
        empty (suc n) h i = any_none (has s) (suc n) leaf_most i (omega arith) (omega arith) ∙ sym (has_none (suc n))
