-- What every call that sets one thing keeps, refused or not. A setting more has its case here, and of demand 3 where it is asked
-- which tree is in force and which calls a trace holds.
-- Assumes nothing.
use Rattle.std.specs.Prelude.{◌≡◌, refl, ℕ, ◌+◌, ◌*◌, ◌≤◌, Err, Ok}
use Rattle.std.proofs.Common.{arith}
use Rattle.rules.specs.Numbers.{whole, leaf_most}
use Rattle.rules.specs.Budget.{reshared, rebased, reweighted}
use Rattle.rules.specs.Refusals.{first_of, vrate_checks, weight_checks}
use Rattle.rules.specs.Entries.{vrated, vrated_by, weighted, weighted_by, set_by}
use Rattle.rules.specs.Ledger.{Call, after, waiting, owed, issued, released, repaid, generated, charged, saved}
use Rattle.rules.specs.Invariant.{Sound}
use Rattle.rules.proofs.Laws.Sums.{sum_none}
use Rattle.rules.proofs.Laws.Clocks.{SameTimes, same_times}
use Rattle.rules.proofs.Laws.Starts.{vrate_keeps}
use Rattle.rules.proofs.Laws.Weights.{weighted_keeps, weight_saves_nothing, weight_keeps_waiting, weight_keeps_owed}
use Rattle.rules.proofs.Laws.Refused.{a_refused_vrate_changes_nothing, a_refused_weight_changes_nothing}
use Rattle.rules.specs.declared.budget.Controller.{Controller}
use Rattle.rules.specs.declared.replay.Setting.{Setting}
use Rattle.rules.specs.declared.replay.Setting.TheVariants.{Vrate, Weight}
use Rattle.rules.specs.declared.refusals.Refusal.{Refusal}
use Rattle.rules.specs.Results.{Verdict}

-- nothing more is saved, and what waits and what is owed stay
pub record SetsAlone (c d : Controller) : Type 0 where
  pub saves : saved d ≤ saved c
  pub waits : (n : ℕ) → waiting d n ≡ waiting c n
  pub owes : (n : ℕ) → owed d n ≡ owed c n

pub set_keeps : (x : Setting) {c : Controller} → Sound c → Sound (set_by x c).state
set_keeps (Vrate v) sound = vrate_keeps sound v
set_keeps (Weight n w) sound = weighted_keeps sound n w

pub sets_alone : (x : Setting) {c : Controller} → Sound c → SetsAlone c (set_by x c).state
unfolding vrated vrated_by weighted weighted_by saved
sets_alone (Vrate v) {c} sound = go (first_of (vrate_checks v))
  where
    go : (t : Verdict) → SetsAlone c (vrated_by t v c).state
    go (Ok tt) = record { saves = omega arith; waits = λ n. refl; owes = λ n. refl }
    go (Err y) = record { saves = omega arith; waits = λ n. refl; owes = λ n. refl }
sets_alone (Weight n w) {c} sound = go (first_of (weight_checks n w c.tree))
  where
    go : (t : Verdict) → SetsAlone c (weighted_by t n w c).state
    go (Ok tt) =
        record { saves = weight_saves_nothing sound n w; waits = weight_keeps_waiting sound n w; owes = weight_keeps_owed sound n w }
    go (Err y) = record { saves = omega arith; waits = λ k. refl; owes = λ k. refl }

-- a weight leaves the whole clock
pub setting_a_weight_keeps_the_clock : (n w : ℕ) (c : Controller) → (set_by (Weight n w) c).state.clock ≡ c.clock
unfolding weighted weighted_by reweighted rebased reshared
setting_a_weight_keeps_the_clock n w c = go (first_of (weight_checks n w c.tree))
  where
    go : (t : Verdict) → (weighted_by t n w c).state.clock ≡ c.clock
    go (Ok tt) = refl
    go (Err y) = refl

-- time, virtual time and its remainder stay, in any state
pub set_keeps_times : (x : Setting) (c : Controller) → SameTimes c.clock (set_by x c).state.clock
unfolding vrated vrated_by
set_keeps_times (Vrate v) c = go (first_of (vrate_checks v))
  where
    go : (t : Verdict) → SameTimes c.clock (vrated_by t v c).state.clock
    go (Ok tt) = record { time = refl; vtime = refl; remainder = refl }
    go (Err y) = record { time = refl; vtime = refl; remainder = refl }
set_keeps_times (Weight n w) c = same_times (setting_a_weight_keeps_the_clock n w c)

pub a_refused_setting_changes_nothing : (x : Setting) (c : Controller) (y : Refusal) → (set_by x c).answer ≡ Err y → (set_by x c).state ≡ c
a_refused_setting_changes_nothing (Vrate v) c y e = a_refused_vrate_changes_nothing v c y e
a_refused_setting_changes_nothing (Weight n w) c y e = a_refused_weight_changes_nothing n w c y e

-- ---- so such a call charges and generates nothing, and the books stay
module _ (x : Setting) {c : Controller} (sound : Sound c) where
  pub set_flow : charged (Call.set x) c * whole + saved (after (Call.set x) c) ≤ saved c + generated (Call.set x) c * whole
  unfolding charged issued released repaid generated
  set_flow = omega (arith, sum_none (λ n. 0 + 0 + 0) leaf_most (λ n p l. refl), (sets_alone x sound).saves)

  pub set_books : (n : ℕ) → waiting (after (Call.set x) c) n + owed (after (Call.set x) c) n ≡ waiting c n + owed c n
  set_books n = omega (arith, (sets_alone x sound).waits n, (sets_alone x sound).owes n)
