-- The clock on plain values: what fits.
-- Assumes nothing.
use mathlib.Core.Path.{◌≡◌}
use Prim.Native.Nat.{ℕ, ◌+◌, ◌*◌, ◌^◌, ◌≤◌, ◌<◌}
use native.Mathlib.Omega.{arith}
use Rattle.rules.specs.Numbers.{elapsed_most}
use Rattle.rules.specs.Tick.{growth}
use Rattle.rules.proofs.Laws.Clocks.{growth_small}
use Rattle.rules.specs.declared.units.Virt.{Virt}
use Rattle.rules.specs.declared.budget.Clock.{Clock}
use Rattle.tick.specs.Clocks.{Near}

-- ---- a time that the clock can grow to
module _ {time : ℕ} {k : Clock} (near : Near time k) where
  module _ {grown : Virt} (e : grown ≡ growth k time) where
    pub grown_small : grown.0 ≤ 4 * elapsed_most
    grown_small = rw e (growth_small near.sound time near.near)

    pub vtime_fits : k.vtime.0 + grown.0 < 2 ^ 64
    vtime_fits = omega (arith, grown_small, near.sound.vtime_at_most)

    pub since_fits : k.since.0 + grown.0 < 2 ^ 64
    since_fits = omega (arith, grown_small, near.sound.since_at_most)
