-- The tick's answer on plain values: the clock's checks stand before that of the places, and what waits is a sum.
-- Assumes nothing.
use mathlib.Core.Path.{◌≡◌, refl, sym, ap, ◌∙◌}
use mathlib.Core.List.{List, [], ◌∷◌, ◌++◌}
use Prim.Native.Nat.{ℕ, ◌≤◌, ◌<◌}
use native.Mathlib.Omega.{arith}
use lib.Dec.{ltb}
use lib.ListN.{length}
use borrow.Author.Tests.{lt-ltb, le-ltb}
use Rattle.rules.specs.Budget.{empty_queue}
use Rattle.rules.specs.Tick.{waiting_all}
use Rattle.rules.specs.Refusals.{Check, ◌⇒◌, first_of, tick_checks}
use Rattle.rules.specs.Entries.{ticked, ticked_by, lent_of, lent_by}
use Rattle.rules.specs.Results.{Count}
use Rattle.tick.specs.Passing.{Passes, Released}
use Rattle.rules.specs.Invariant.{Sound}
use Rattle.rules.proofs.Laws.Verdicts.{first_passed, first_refused}
use Rattle.rules.proofs.Laws.States.{waiting_small}
use Rattle.rules.specs.declared.budget.Controller.{Controller}
use Rattle.rules.specs.declared.refusals.Refusal.{Refusal}
use Rattle.rules.specs.declared.refusals.Refusal.TheVariants.{FewPlaces}
use Rattle.tick.specs.Clocks.{clock_checks}
use Rattle.std.specs.Prelude.{Err, Ok}
use Rattle.rules.specs.Results.{Verdict}
use lib.ListN.{take, drop}
use Prim.Native.Nat.{◌^◌}
use Rattle.std.specs.Prelude.{sum_by}
use Rattle.leaf.proofs.Sums.{sum_rest}
use Rattle.tick.specs.Passing.{waiting}

-- ---- what waits in all queues but the root's is what waits in all
module _ {c : Controller} (sound : Sound c) where
  pub all_wait : sum_by waiting (take 63 (drop 1 c.queues)) ≡ waiting_all c
  unfolding waiting_all
  all_wait = sum_rest waiting c.queues empty_queue 63 (omega (arith, sound.queues_all))

  pub few_wait : sum_by waiting (take 63 (drop 1 c.queues)) < 2 ^ 64
  few_wait = omega (arith, all_wait, waiting_small sound)

-- ---- the checks in the table's order
module _ (time places : ℕ) (c : Controller) where
  abbrev last : List Check
  last = (ltb places (waiting_all c) ⇒ FewPlaces) ∷ []

  clock-first : tick_checks time places c ≡ clock_checks time c.clock ++ last
  unfolding tick_checks
  clock-first = refl

  pub clock-refuses : {v : Verdict} {x : Refusal} → v ≡ first_of (clock_checks time c.clock) → v ≡ Err x → first_of (tick_checks time places c) ≡ Err x
  clock-refuses {v} {x} e f = ap first_of clock-first ∙ first_refused (clock_checks time c.clock) last x (sym e ∙ f)

  module _ {v : Verdict} (e : v ≡ first_of (clock_checks time c.clock)) (f : v ≡ Ok tt) {waiting : ℕ} (w : waiting ≡ waiting_all c) where
    places-decide : first_of (tick_checks time places c) ≡ first_of last
    places-decide = ap first_of clock-first ∙ first_passed (clock_checks time c.clock) last (sym e ∙ f)

    pub too-few-places : places < waiting → first_of (tick_checks time places c) ≡ Err FewPlaces
    too-few-places h = places-decide ∙ rw (lt-ltb places (waiting_all c) (rw w at h))

    pub enough-places : waiting ≤ places → first_of (tick_checks time places c) ≡ Ok tt
    enough-places h = places-decide ∙ rw (le-ltb places (waiting_all c) (rw w at h))

-- ---- what the call answers and leaves
module _ (time : ℕ) (lent : List ℕ) (c : Controller) where
  pub refuses : {r : Count} {x : Refusal} → r ≡ Err x → first_of (tick_checks time (length lent) c) ≡ Err x → Passes r c lent time lent c
  unfolding ticked ticked_by lent_of lent_by
  refuses p e = rw (p, e) (refl, refl, refl)

  pub accepts : first_of (tick_checks time (length lent) c) ≡ Ok tt → {n : ℕ} {s : Controller} {out : List ℕ}
      → Released n s out time lent c → Passes (Ok n) s out time lent c
  unfolding ticked ticked_by lent_of lent_by
  accepts e w = rw e (ap (λ (n : ℕ). Ok n) w.0, w.1, w.2)
