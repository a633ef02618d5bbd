-- A setting of vrate, by what its check has answered.
-- Assumes nothing.
use mathlib.Core.Path.{◌≡◌, refl}
use Prim.Native.Nat.{ℕ}
use Rattle.rules.specs.Budget.{with_clock, with_rate}
use Rattle.rules.specs.Refusals.{first_of, vrate_checks}
use Rattle.rules.specs.Entries.{vrated, vrated_by}
use Rattle.rules.specs.declared.budget.Clock.{Clock}
use Rattle.rules.specs.declared.budget.Controller.{Controller}
use Rattle.rules.specs.declared.refusals.Refusal.{Refusal}
use Rattle.std.specs.Prelude.{Err, Ok}
use Rattle.rules.specs.Results.{Verdict}

module _ (v : ℕ) (c : Controller) {answer : Verdict} (e : answer ≡ first_of (vrate_checks v)) where
  pub rate_set : {k : Clock} → answer ≡ Ok tt → k ≡ with_rate v c.clock
      → (Ok tt ≡ (vrated v c).answer) × (with_clock k c ≡ (vrated v c).state)
  unfolding vrated vrated_by
  rate_set i r = rw (← e, i, r) (refl, refl)

  pub rate_kept : {x : Refusal} → answer ≡ Err x → (Err x ≡ (vrated v c).answer) × (c ≡ (vrated v c).state)
  unfolding vrated vrated_by
  rate_kept i = rw (← e, i) (refl, refl)
