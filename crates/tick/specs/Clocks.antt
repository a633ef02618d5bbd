-- What the clock alone checks of a new time, and what its growth may assume.
-- Assumes nothing.
use Rattle.std.specs.Prelude.{List, [], ◌∷◌, ℕ, ◌+◌, ◌≤◌, ltb}
use Rattle.rules.specs.Numbers.{elapsed_most, vtime_most, since_most}
use Rattle.rules.specs.Tick.{growth}
use Rattle.rules.specs.Refusals.{Check, ◌⇒◌}
use Rattle.rules.specs.Invariant.{SoundClock}
use Rattle.rules.specs.declared.budget.Clock.{Clock}
use Rattle.rules.specs.declared.refusals.Refusal.TheVariants.{TimeBack, TimeFar, ClockFull, PlanDue}

-- the checks of a tick that look at the clock alone: 9 to 12, in the table's order
abbrev pub clock_checks : ℕ → Clock → List Check
clock_checks time k =
    (ltb time k.time ⇒ TimeBack)
    ∷ (ltb (k.time + elapsed_most) time ⇒ TimeFar)
    ∷ (ltb vtime_most (k.vtime.0 + (growth k time).0) ⇒ ClockFull)
    ∷ (ltb since_most (k.since.0 + (growth k time).0) ⇒ PlanDue)
    ∷ []

-- a time that a clock can grow to
pub record Near (time : ℕ) (k : Clock) : Type 0 where
  pub sound : SoundClock k
  pub forward : k.time ≤ time
  pub near : time ≤ k.time + elapsed_most
