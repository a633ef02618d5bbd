-- Virtual time over any list of calls: ticks round nothing away between them, however often they come.
-- Assumes nothing.
use Rattle.std.specs.Prelude.{◌≡◌, Bool, true, false, List, [], ◌∷◌, ℕ, length, Err, Ok}
use Rattle.rules.specs.Refusals.{first_of, tick_checks}
use Rattle.rules.specs.Ledger.{Call, after}
use Rattle.rules.specs.declared.budget.Controller.{Controller}
use Rattle.rules.specs.declared.replay.Setting.TheVariants.{Vrate, Weight}
use Rattle.rules.specs.Results.{Verdict}

-- ---- with vrate unchanged
-- vrate is v at every moment (DECISIONS 68)
abbrev pub Steady : ℕ → List Call → Controller → Type 0
Steady v [] c = c.clock.vrate ≡ v
Steady v (k ∷ ks) c = (c.clock.vrate ≡ v) × Steady v ks (after k c)

-- as where no call sets it: bios, ticks, plans and weights alone
abbrev pub sets_vrate : Call → Bool
sets_vrate (Call.submit b) = false
sets_vrate (Call.ask b) = false
sets_vrate (Call.tick time lent) = false
sets_vrate Call.plan = false
sets_vrate (Call.set (Vrate v)) = true
sets_vrate (Call.set (Weight n w)) = false

abbrev pub NoVrate : List Call → Type 0
NoVrate [] = Unit {0}
NoVrate (k ∷ ks) = (sets_vrate k ≡ false) × NoVrate ks

-- the clock's time is that of the last accepted tick
abbrev pub if_ticked : Verdict → ℕ → ℕ → ℕ
if_ticked (Ok tt) time before = time
if_ticked (Err x) time before = before

abbrev pub time_after : Call → Controller → ℕ
time_after (Call.submit b) c = c.clock.time
time_after (Call.ask b) c = c.clock.time
time_after (Call.tick time lent) c = if_ticked (first_of (tick_checks time (length lent) c)) time c.clock.time
time_after Call.plan c = c.clock.time
time_after (Call.set x) c = c.clock.time
