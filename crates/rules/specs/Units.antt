-- Units that must not be mixed.
-- Assumes nothing.
use Rattle.std.specs.Prelude.{ℕ, ◌+◌, ◌-◌, ◌*◌, ◌/◌}
use Rattle.rules.specs.Numbers.{whole}
use Rattle.rules.specs.declared.units.Abs.{Abs}
use Rattle.rules.specs.declared.units.Virt.{Virt}

-- "Absolute cost is .."
abbrev pub abs : ℕ → Abs
abs n = record { 0 = n }

-- "Relative cost and budget are .."
abbrev pub virt : ℕ → Virt
virt n = record { 0 = n }

-- "CEIL rounds .."
abbrev pub ceil_of : ℕ → ℕ → ℕ
ceil_of a b = (a + (b - 1)) / b

abbrev pub floor_of : ℕ → ℕ → ℕ
floor_of a b = a / b

-- ---- the three places where the kinds meet
-- "Relative cost = .."
unfoldable pub relative : Abs → ℕ → Virt
relative cost share = virt (ceil_of (cost.0 * whole) share)

-- what a budget can repay at a share
abbrev pub repayable : Virt → ℕ → Abs
repayable budget share = abs (floor_of (budget.0 * share) whole)

-- plan holds usage against E: at the whole share an absolute nanosecond is one of virtual time
abbrev pub at_whole : Abs → Virt
at_whole cost = virt cost.0
