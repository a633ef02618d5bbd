-- The zeros below a number's lowest 1 are as many as the number of its lowest member.
-- Assumes nothing.
use mathlib.Core.Path.{◌≡◌, refl, sym, ap, ◌∙◌}
use mathlib.Core.Bool.{true, false}
use Prim.Native.Nat.{ℕ, zero, suc, ◌/◌, ◌%◌, ◌^◌, ◌<◌}
use native.Mathlib.Nat.{pow-succ', pow-suc, div-div-eq-div-mul, div-one, div-lt_iff_lt-mul}
use native.Mathlib.Omega.{arith}
use lib.Count.{count_trailing_zeros, under}
use lib.Dec.{eqb}
use Rattle.rules.specs.Words.{has}
use Rattle.rules.proofs.Laws.Sets.{has_node}
use Rattle.sets.specs.Lowest.{Lowest}

-- a member of the half is the next one of the whole
has_half : (s k : ℕ) → has s (suc k) ≡ has (s / 2) k
unfolding has
has_half s k = ap (λ (x : ℕ). eqb (x % 2) 1) (ap (λ (x : ℕ). s / x) (pow-succ' 2 k) ∙ sym (div-div-eq-div-mul s 2 (2 ^ k)))

has_zero : (s : ℕ) → has s 0 ≡ eqb (s % 2) 1
unfolding has
has_zero s = rw (div-one s)

record First (s n : ℕ) : Type 0 where
  here : has s n ≡ true
  below : (k : ℕ) → k < n → has s k ≡ false

first : (d s : ℕ) → 0 < s → s < 2 ^ d → First s (count_trailing_zeros d s)
unfolding count_trailing_zeros
first zero s p l = absurd (omega arith)
first (suc d) s p l =
    go (s % 2) refl (λ (e : s % 2 ≡ 0). first d (s / 2) (omega arith) ((div-lt_iff_lt-mul (omega arith)).1 (rw (pow-suc 2 d) at l)))
  where
    go : (r : ℕ) → s % 2 ≡ r → (s % 2 ≡ 0 → First (s / 2) (count_trailing_zeros d (s / 2))) → First s (under r (count_trailing_zeros d (s / 2)))
    go zero e ih = record {
      here = has_half s (count_trailing_zeros d (s / 2)) ∙ (ih e).here;
      below = λ k l. less k l;
    }
      where
        less : (k : ℕ) → k < suc (count_trailing_zeros d (s / 2)) → has s k ≡ false
        less zero l = has_zero s ∙ rw e
        less (suc k) l = has_half s k ∙ (ih e).below k (omega arith)
    go (suc r) e ih = record { here = has_zero s ∙ ap (λ (x : ℕ). eqb x 1) one; below = λ k l. absurd (omega arith) }
      where
        one : s % 2 ≡ 1
        one = omega arith

pub zeros_lowest : (s : ℕ) → 0 < s → s < 2 ^ 64 → Lowest s (count_trailing_zeros 64 s)
zeros_lowest s p l =
    let f : First s (count_trailing_zeros 64 s) = first 64 s p l in
    record {
      node = has_node s (count_trailing_zeros 64 s) l f.here;
      here = f.here;
      below = f.below;
    }
