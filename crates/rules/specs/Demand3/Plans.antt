-- Up to the next plan: a leaf with an accepted bio, a flush too, stays active over any calls, and that plan leaves it active.
-- Assumes nothing.
use Rattle.std.specs.Prelude.{◌≡◌, Bool, true, false, List, [], ◌∷◌, ℕ}
use Rattle.rules.specs.Words.{has}
use Rattle.rules.specs.Budget.{row_at}
use Rattle.rules.specs.Ledger.{Call}
use Rattle.rules.specs.declared.budget.Controller.{Controller}

-- an active leaf of which a bio was accepted since the last plan
pub record Counted (c : Controller) (n : ℕ) : Type 0 where
  pub active : has c.active n ≡ true
  pub accepted : (row_at c n).accepted ≡ true

abbrev pub is_plan : Call → Bool
is_plan (Call.submit b) = false
is_plan (Call.ask b) = false
is_plan (Call.tick time lent) = false
is_plan Call.plan = true
is_plan (Call.set x) = false

abbrev pub NoPlan : List Call → Type 0
NoPlan [] = Unit {0}
NoPlan (k ∷ ks) = (is_plan k ≡ false) × NoPlan ks
