-- Laws of a number in decimals: what a digit behind it changes, and where there is none.
-- Assumes nothing.
use mathlib.Core.Path.{◌≡◌, refl}
use mathlib.Core.Bool.{Bool, true, false, ◌&&◌}
use mathlib.Core.List.{List, [], ◌∷◌}
use Prim.Native.Nat.{ℕ, ◌+◌, ◌^◌, ◌≤◌, ◌<◌}
use native.Mathlib.Numerals.{add-one}
use native.Mathlib.Omega.{arith}
use lib.Dec.{ltb}
use lib.ListN.{length, get_or, drop, drop_of_length-le}
use lib.Seq.{drop-cons}
use borrow.Author.Tests.{ltb-false, le-ltb, lt-ltb, le-leb}
use Rattle.std.specs.Prelude.{Option, Some, None, ◌==◌}
use Rattle.std.specs.Option.{SomeIff}
use Rattle.std.specs.Char.{IsAsciiDigit, IsNotAsciiDigit}
use Rattle.std.proofs.Common.{sym, ap, ◌∙◌, ◌*◌, ◌-◌}
use Rattle.rules.proofs.Laws.Bools.{never, and_left, and_not_right}
use Rattle.rests.specs.Decimal.{is_digit, grown, all_digits, value_behind, number_if, behind, decimal_of, with_digit}

-- digits behind a number make it no smaller
grows : (n : ℕ) (bs : List ℕ) → n ≤ value_behind n bs
unfolding value_behind
grows n [] = omega arith
grows n (b ∷ bs) = omega (arith, grows (grown n b) bs)

number_only : (fits : Bool) (n m : ℕ) → number_if fits n ≡ Some m → (fits ≡ true) × (n ≡ m)
number_only true n m e = (refl, cc)
number_only false n m e = never (cc)

bad_only : (fits : Bool) (n : ℕ) → number_if fits n ≡ None → fits ≡ false
bad_only true n e = never (cc)
bad_only false n e = refl

-- ---- one byte behind a number
pub no_digit_is_bad : (n b : ℕ) → IsNotAsciiDigit b → with_digit n b ≡ None
unfolding with_digit
no_digit_is_bad n b h = rw (none b h)
  where
    none : (b : ℕ) → IsNotAsciiDigit b → is_digit b ≡ false
    none b h = grind arith

pub too_large_is_bad : (n b : ℕ) → 2 ^ 64 ≤ grown n b → with_digit n b ≡ None
unfolding with_digit
too_large_is_bad n b h = rw (le-ltb (grown n b) (2 ^ 64) h, and_not_right (is_digit b) false refl)

pub one_digit_more : (n b : ℕ) → 48 ≤ b → b ≤ 57 → grown n b < 2 ^ 64 → with_digit n b ≡ Some (grown n b)
unfolding with_digit
one_digit_more n b low high h = rw (le-leb 48 b low, le-leb b 57 high, lt-ltb (grown n b) (2 ^ 64) h)

pub digit_if_small : (r : Option ℕ) (n b ten digit : ℕ) → IsAsciiDigit b → ten ≡ n * 10 → digit ≡ b - 48
    → SomeIff r (ten + digit < 2 ^ 64) (ten + digit) → r ≡ with_digit n b
digit_if_small None n b ten digit h e f v = sym (too_large_is_bad n b (omega (arith, e, f, v)))
digit_if_small (Some x) n b ten digit h e f v =
    let low : 48 ≤ b = omega (arith, h) in
    let high : b ≤ 57 = omega (arith, h) in
    let sum : x ≡ grown n b = omega (arith, e, f, v.1) in
    ap Some sum ∙ sym (one_digit_more n b low high (omega (arith, e, f, v.0)))

-- ---- one byte behind a number, and more behind it
goes_on_front : (n b : ℕ) (bs : List ℕ) {m : ℕ} → with_digit n b ≡ Some m → behind n (b ∷ bs) ≡ behind m bs
unfolding with_digit behind all_digits value_behind
goes_on_front n b bs {m} e =
    let h = number_only (is_digit b && ltb (grown n b) (2 ^ 64)) (grown n b) m e in
    rw (and_left (is_digit b) _ h.0, ← h.1)

-- what is too large stays so, whatever digits follow
stops_front : (n b : ℕ) (bs : List ℕ) → with_digit n b ≡ None → behind n (b ∷ bs) ≡ None
unfolding with_digit behind all_digits value_behind
stops_front n b bs e = by (is_digit b) refl (bad_only (is_digit b && ltb (grown n b) (2 ^ 64)) (grown n b) e)
  where
    by : (d : Bool) → is_digit b ≡ d → (is_digit b && ltb (grown n b) (2 ^ 64)) ≡ false → behind n (b ∷ bs) ≡ None
    by false h f = rw h
    by true h f =
        let big : 2 ^ 64 ≤ grown n b = ltb-false _ _ (rw h at f) in
        let large : ltb (value_behind (grown n b) bs) (2 ^ 64) ≡ false = le-ltb (value_behind (grown n b) bs) (2 ^ 64) (omega (arith, big, grows (grown n b) bs)) in
        rw (large, and_not_right (is_digit b && all_digits bs) false refl)

-- ---- the same at a place of a word
module _ (word : List ℕ) (i n : ℕ) (inside : i < length word) where
  pub goes_on : {m : ℕ} → with_digit n (get_or word i 0) ≡ Some m → behind n (drop i word) ≡ behind m (drop (i + 1) word)
  goes_on e = rw (add-one, drop-cons word i 0) (goes_on_front n (get_or word i 0) _ e)

  pub stops : with_digit n (get_or word i 0) ≡ None → behind n (drop i word) ≡ None
  stops e = rw (drop-cons word i 0) (stops_front n (get_or word i 0) _ e)

pub ends : (word : List ℕ) (i n : ℕ) → length word ≤ i → n < 2 ^ 64 → behind n (drop i word) ≡ Some n
unfolding behind all_digits value_behind
ends word i n h l = rw (drop_of_length-le word {i = i} h, lt-ltb n (2 ^ 64) l)

pub no_digits : (word : List ℕ) → true ≡ (length word == 0) → decimal_of word ≡ None
unfolding decimal_of
no_digits [] h = refl
no_digits (b ∷ bs) h = grind arith

pub some_digits : (word : List ℕ) → false ≡ (length word == 0) → decimal_of word ≡ behind 0 word
unfolding decimal_of
some_digits [] h = grind arith
some_digits (b ∷ bs) h = refl
