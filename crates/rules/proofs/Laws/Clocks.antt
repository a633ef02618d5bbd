-- The clock: nothing that passes is lost, and a tick more on the way makes no difference.
-- Assumes nothing.
use Rattle.std.specs.Prelude.{◌≡◌, refl, ℕ, ◌+◌, ◌-◌, ◌*◌, ◌≤◌, ◌<◌}
use Rattle.std.proofs.Common.{sym, add-zero, add-mul, mul-le-mul}
use Rattle.std.proofs.Math.Nat.{add_assoc}
use native.Mathlib.Omega.{arith}
use Rattle.rules.specs.Numbers.{elapsed_most}
use Rattle.rules.specs.Tick.{hundredths, growth, left_over, advanced}
use Rattle.rules.specs.Invariant.{SoundClock}
use Rattle.rules.specs.declared.budget.Clock.{Clock}

-- what stands between two times, at a rate, is what stands up to one between and from there on
pub by_way_of : (v a b d : ℕ) → a ≤ b → b ≤ d → (d - a) * v ≡ (b - a) * v + (d - b) * v
by_way_of v a b d l m = let e : d - a ≡ b - a + (d - b) = omega arith in rw e (add-mul (b - a) (d - b) v)

pub none_elapses : (v a : ℕ) → (a - a) * v ≡ 0
none_elapses v a = let e : a - a ≡ 0 = omega arith in rw e (omega arith)

-- ---- one tick
module _ (k : Clock) (time : ℕ) where
  pub left_over_is_below_100 : left_over k time < 100
  unfolding left_over
  left_over_is_below_100 = omega arith

  -- what virtual time grows by and what is left over are all that there was: these two laws leave no other growth
  pub all_is_shared_out : 100 * (growth k time).0 + left_over k time ≡ (time - k.time) * k.vrate + k.remainder
  unfolding growth left_over hundredths
  all_is_shared_out = omega arith

  -- E grows by the same amount
  pub both_grow_alike : ((advanced time k).vtime.0 ≡ k.vtime.0 + (growth k time).0) × ((advanced time k).since.0 ≡ k.since.0 + (growth k time).0)
  unfolding advanced
  both_grow_alike = (refl, refl)

-- "virtual time grows by": at most four seconds a tick
pub growth_small : {k : Clock} → SoundClock k → (time : ℕ) → time ≤ k.time + elapsed_most → (growth k time).0 ≤ 4 * elapsed_most
growth_small {k} sound time near =
    let l : time - k.time ≤ elapsed_most = omega arith in
    omega (arith, mul-le-mul l sound.vrate_at_most, all_is_shared_out k time, sound.remainder_below)

-- ---- 100 x virtual time + remainder
abbrev pub in_hundredths : Clock → ℕ
in_hundredths k = 100 * k.vtime.0 + k.remainder

-- where remainders are below 100, it tells both
tells_both : (a b r s : ℕ) → r < 100 → s < 100 → 100 * a + r ≡ 100 * b + s → (a ≡ b) × (r ≡ s)
tells_both a b r s p q e = (omega arith, omega arith)

pub same_hundredths : (k l : Clock) → k.remainder < 100 → l.remainder < 100 → in_hundredths k ≡ in_hundredths l
    → (k.vtime.0 ≡ l.vtime.0) × (k.remainder ≡ l.remainder)
same_hundredths k l p q e = tells_both k.vtime.0 l.vtime.0 k.remainder l.remainder p q e

-- ---- a tick on the way changes nothing: not the growth in all, not what is left over
module _ (k : Clock) (way time : ℕ) (from : k.time ≤ way) (upto : way ≤ time) where
  both_at_once : ((growth k time).0 ≡ (growth k way).0 + (growth (advanced way k) time).0) × (left_over k time ≡ left_over (advanced way k) time)
  unfolding advanced
  both_at_once =
      tells_both _ _ _ _ (left_over_is_below_100 k time) (left_over_is_below_100 (advanced way k) time)
      (omega (
        arith,
        all_is_shared_out k time,
        all_is_shared_out k way,
        all_is_shared_out (advanced way k) time,
        by_way_of k.vrate k.time way time from upto,
      ))

  pub a_tick_on_the_way_changes_nothing : advanced time (advanced way k) ≡ advanced time k
  unfolding advanced
  a_tick_on_the_way_changes_nothing = rw (both_at_once.0, both_at_once.1, add_assoc k.vtime.0, add_assoc k.since.0)

-- nor does a tick without elapsed time
pub no_time_passes : (k : Clock) → k.remainder < 100 → advanced k.time k ≡ k
unfolding advanced
no_time_passes k below =
    let all = all_is_shared_out k k.time in
    let none = none_elapses k.vrate k.time in
    let grown : (growth k k.time).0 ≡ 0 = omega (arith, all, none, left_over_is_below_100 k k.time) in
    let left : left_over k k.time ≡ k.remainder = omega (arith, all, none, grown) in
    rw (grown, left, add-zero k.vtime.0, add-zero k.since.0)

-- ---- time, virtual time and remainder: what no call but a tick moves
pub record SameTimes (k l : Clock) : Type 0 where
  pub time : l.time ≡ k.time
  pub vtime : l.vtime ≡ k.vtime
  pub remainder : l.remainder ≡ k.remainder

pub same_times : {k l : Clock} → l ≡ k → SameTimes k l
same_times e = rw e (record { time = refl; vtime = refl; remainder = refl })

-- from one clock to a later one, while so much is generated, and so much in hundredths with nothing rounded
pub record Passing (generated exact : ℕ) (k l : Clock) : Type 0 where
  pub forward : k.time ≤ l.time
  pub vtime : l.vtime.0 ≡ k.vtime.0 + generated
  pub all : in_hundredths l ≡ in_hundredths k + exact
  pub elapsed : exact ≡ (l.time - k.time) * k.vrate

pub nothing_passes : (k l : Clock) → SameTimes k l → Passing 0 0 k l
nothing_passes k l same =
    rw (same.time, same.vtime, same.remainder) (record { forward = omega arith; vtime = omega arith; all = omega arith; elapsed = sym (none_elapses k.vrate k.time) })

pub a_tick_passes : (k : Clock) (time : ℕ) → k.time ≤ time → Passing (growth k time).0 ((time - k.time) * k.vrate) k (advanced time k)
unfolding advanced
a_tick_passes k time forward = record {
  forward = forward;
  vtime = refl;
  all = omega (arith, all_is_shared_out k time);
  elapsed = refl;
}
