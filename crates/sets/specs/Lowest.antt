-- The member of a set with the smallest number. No other number is it: of two, the smaller is no member by the larger.
-- Assumes nothing.
use Rattle.std.specs.Prelude.{◌≡◌, true, false, ℕ, ◌<◌}
use Rattle.rules.specs.Numbers.{nodes_most}
use Rattle.rules.specs.Words.{has}

pub record Lowest (s n : ℕ) : Type 0 where
  pub node : n < nodes_most
  pub here : has s n ≡ true
  pub below : (k : ℕ) → k < n → has s k ≡ false
