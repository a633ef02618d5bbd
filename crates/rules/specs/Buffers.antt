-- A lent buffer: what a callee wrote at its front, and the rest of it that is lent on.
-- Assumes nothing.
use Rattle.std.specs.Prelude.{◌≡◌, List, ◌++◌, ℕ, ◌-◌, ◌≤◌, length, take, drop}

-- r bytes, which are x, were written at the front of a buffer that held o₀ and holds o
abbrev pub Written : List ℕ → ℕ → List ℕ → List ℕ → Type 0
Written x r o₀ o = (r ≡ length x) × (o ≡ x ++ drop (length x) o₀)

-- what is lent from `at` on, and the buffer once the callee left ys there
abbrev pub rest_of : List ℕ → ℕ → List ℕ
rest_of o at = take (length o - at) (drop at o)

abbrev pub put_back : List ℕ → ℕ → List ℕ → List ℕ
put_back o at ys = take at o ++ (ys ++ drop (length o - at) (drop at o))

-- on the way: x stands at the front of o, up to `at`, and o₀ had room for it
pub record Stands (x o₀ o : List ℕ) (at : ℕ) : Type 0 where
  pub front : Written x at o₀ o
  pub within : at ≤ length o₀
