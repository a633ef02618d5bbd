-- A number in decimals: the value of its digits, of which there is one at least and which fits in 64 bits.
-- Assumes nothing.
use Rattle.std.specs.Prelude.{Bool, true, cond, ◌&&◌, List, [], ◌∷◌, ℕ, ◌+◌, ◌*◌, ◌-◌, ◌^◌, leb, ltb, Option, Some, None}

abbrev pub is_digit : ℕ → Bool
is_digit byte = leb 48 byte && leb byte 57

-- a digit behind a number
abbrev pub grown : ℕ → ℕ → ℕ
grown n byte = n * 10 + (byte - 48)

unfoldable pub all_digits : List ℕ → Bool
all_digits [] = true
all_digits (b ∷ bs) = is_digit b && all_digits bs

-- the digits behind a number, the one that counts most first
unfoldable pub value_behind : ℕ → List ℕ → ℕ
value_behind n [] = n
value_behind n (b ∷ bs) = value_behind (grown n b) bs

abbrev pub number_if : Bool → ℕ → Option ℕ
number_if fits n = cond fits (Some n) None

unfoldable pub behind : ℕ → List ℕ → Option ℕ
behind n bs = number_if (all_digits bs && ltb (value_behind n bs) (2 ^ 64)) (value_behind n bs)

unfoldable pub decimal_of : List ℕ → Option ℕ
decimal_of [] = None
decimal_of (b ∷ bs) = behind 0 (b ∷ bs)

unfoldable pub with_digit : ℕ → ℕ → Option ℕ
with_digit n byte = number_if (is_digit byte && ltb (grown n byte) (2 ^ 64)) (grown n byte)
