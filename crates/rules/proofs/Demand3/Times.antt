-- Virtual time over any list of calls: ticks round nothing away between them, however often they come.
-- Assumes nothing.
use Rattle.std.specs.Prelude.{◌≡◌, refl, false, List, [], ◌∷◌, ℕ, ◌+◌, ◌-◌, ◌*◌, ◌≤◌, ◌<◌, length, Err, Ok}
use Rattle.std.proofs.Common.{sym, ap, ◌∙◌, arith}
use Rattle.rules.specs.Units.{floor_of}
use Rattle.rules.specs.Tick.{advanced, tick as ticking}
use Rattle.rules.specs.Entries.{submitted, ticked, ticked_by, planned, planned_by, started, started_by}
use Rattle.rules.specs.Refusals.{first_of, submit_checks, tick_checks, plan_checks, start_checks}
use Rattle.rules.specs.Invariant.{Sound}
use Rattle.rules.specs.Ledger.{Call, after, generated, exact}
use Rattle.rules.proofs.Demand3.Heads.{submitting_keeps_both, planning_restarts_the_clock, planning_keeps_times, call_passes}
use Rattle.rules.specs.Demand3.Sentences.{run, sum_of}
use Rattle.rules.proofs.Demand3.Sentences.{reached_is_sound, generated_is_virtual_time}
use Rattle.rules.proofs.Laws.Clocks.{in_hundredths, by_way_of, none_elapses, same_hundredths}
use Rattle.rules.proofs.Laws.Bools.{true_not_false}
use Rattle.rules.proofs.Laws.Settings.{set_keeps_times, setting_a_weight_keeps_the_clock}
use Rattle.rules.proofs.Laws.Starts.{start_gives}
use Rattle.rules.specs.declared.cost.Rates.{Rates}
use Rattle.rules.specs.declared.tree.Tree.{Tree}
use Rattle.rules.specs.declared.budget.Clock.{Clock}
use Rattle.rules.specs.declared.budget.Controller.{Controller}
use Rattle.rules.specs.declared.replay.Setting.TheVariants.{Vrate, Weight}
use Rattle.rules.specs.Demand3.Times.{NoVrate, Steady, if_ticked, sets_vrate, time_after}
use Rattle.rules.specs.Results.{Verdict}

-- ---- with vrate changing: 100 x virtual time + remainder grows by the exact sum of elapsed x vrate
pub nothing_is_rounded_away : (ks : List Call) (c : Controller) → in_hundredths (run ks c).clock ≡ in_hundredths c.clock + sum_of exact ks c
nothing_is_rounded_away [] c = omega arith
nothing_is_rounded_away (k ∷ ks) c = omega (arith, (call_passes k c).all, nothing_is_rounded_away ks (after k c))

-- so what is generated differs from that sum by less than one, whatever remainder there was
pub generated_is_exact_within_one : (ks : List Call) {c : Controller} → Sound c
    → (100 * sum_of generated ks c < sum_of exact ks c + 100) × (sum_of exact ks c < 100 * sum_of generated ks c + 100)
generated_is_exact_within_one ks {c} sound =
    let sum = nothing_is_rounded_away ks c in
    let vtime = generated_is_virtual_time ks c in
    let before = sound.clock.remainder_below in
    let below = (reached_is_sound ks sound).clock.remainder_below in
    (omega (arith, sum, vtime, before, below), omega (arith, sum, vtime, before, below))

vrate_stays : (k : Call) (c : Controller) → sets_vrate k ≡ false → (after k c).clock.vrate ≡ c.clock.vrate
unfolding submitted ticked ticked_by ticking advanced planned planned_by
vrate_stays (Call.submit b) c e = ap (λ (k : Clock). k.vrate) (submitting_keeps_both b c (first_of (submit_checks b c))).clock
vrate_stays (Call.ask b) c e = refl
vrate_stays (Call.tick time lent) c e = go (first_of (tick_checks time (length lent) c))
  where
    go : (v : Verdict) → (ticked_by v time c).state.clock.vrate ≡ c.clock.vrate
    go (Ok tt) = refl
    go (Err x) = refl
vrate_stays Call.plan c e = go (first_of (plan_checks c))
  where
    go : (v : Verdict) → (planned_by v c).state.clock.vrate ≡ c.clock.vrate
    go (Ok tt) = ap (λ (k : Clock). k.vrate) (planning_restarts_the_clock c)
    go (Err x) = refl
vrate_stays (Call.set (Vrate v)) c e = absurd (true_not_false refl e)
vrate_stays (Call.set (Weight n w)) c e = ap (λ (k : Clock). k.vrate) (setting_a_weight_keeps_the_clock n w c)

stays_steady : (v : ℕ) (ks : List Call) (c : Controller) → NoVrate ks → c.clock.vrate ≡ v → Steady v ks c
stays_steady v [] c none e = e
stays_steady v (k ∷ ks) c (here, there) e = (e, stays_steady v ks (after k c) there (vrate_stays k c here ∙ e))

pub steady_without_a_vrate : (ks : List Call) (c : Controller) → NoVrate ks → Steady c.clock.vrate ks c
steady_without_a_vrate ks c none = stays_steady c.clock.vrate ks c none refl

pub the_time_is_the_last_accepted : (k : Call) (c : Controller) → (after k c).clock.time ≡ time_after k c
unfolding submitted ticked ticked_by ticking advanced planned
the_time_is_the_last_accepted (Call.submit b) c = ap (λ (k : Clock). k.time) (submitting_keeps_both b c (first_of (submit_checks b c))).clock
the_time_is_the_last_accepted (Call.ask b) c = refl
the_time_is_the_last_accepted (Call.tick time lent) c = go (first_of (tick_checks time (length lent) c))
  where
    go : (v : Verdict) → (ticked_by v time c).state.clock.time ≡ if_ticked v time c.clock.time
    go (Ok tt) = refl
    go (Err x) = refl
the_time_is_the_last_accepted Call.plan c = (planning_keeps_times c (first_of (plan_checks c))).time
the_time_is_the_last_accepted (Call.set x) c = (set_keeps_times x c).time

pub time_goes_forward : (ks : List Call) (c : Controller) → c.clock.time ≤ (run ks c).clock.time
time_goes_forward [] c = omega arith
time_goes_forward (k ∷ ks) c = omega (arith, (call_passes k c).forward, time_goes_forward ks (after k c))

module _ (v : ℕ) where
  exact_is_one_product : (ks : List Call) (c : Controller) → Steady v ks c → sum_of exact ks c ≡ ((run ks c).clock.time - c.clock.time) * v
  exact_is_one_product [] c steady = sym (none_elapses v c.clock.time)
  exact_is_one_product (k ∷ ks) c (here, there) =
      let first : exact k c ≡ ((after k c).clock.time - c.clock.time) * v = (call_passes k c).elapsed ∙ ap (λ r. ((after k c).clock.time - c.clock.time) * r) here in
      omega (
        arith,
        first,
        exact_is_one_product ks (after k c) there,
        by_way_of v c.clock.time (after k c).clock.time (run ks (after k c)).clock.time (call_passes k c).forward (time_goes_forward ks (after k c)),
      )

  -- 100 x virtual time + remainder grows by vrate x (last time - first time), whatever comes between
  pub growth_at_a_steady_vrate : (ks : List Call) (c : Controller) → Steady v ks c
      → in_hundredths (run ks c).clock ≡ in_hundredths c.clock + v * ((run ks c).clock.time - c.clock.time)
  growth_at_a_steady_vrate ks c steady = omega (arith, nothing_is_rounded_away ks c, exact_is_one_product ks c steady)

  -- so virtual time depends only on the last time
  pub virtual_time_depends_on_the_last_time_alone : (ks js : List Call) {c : Controller} → Sound c → Steady v ks c → Steady v js c
      → (run ks c).clock.time ≡ (run js c).clock.time
      → ((run ks c).clock.vtime.0 ≡ (run js c).clock.vtime.0) × ((run ks c).clock.remainder ≡ (run js c).clock.remainder)
  virtual_time_depends_on_the_last_time_alone ks js {c} sound one other e =
      same_hundredths (run ks c).clock (run js c).clock (reached_is_sound ks sound).clock.remainder_below (reached_is_sound js sound).clock.remainder_below
      (growth_at_a_steady_vrate ks c one ∙ ap (λ t. in_hundredths c.clock + v * (t - c.clock.time)) e ∙ sym (growth_at_a_steady_vrate js c other))

-- ---- from a fresh start
start_begins_at_nothing : (tree : Tree) (rates : Rates) (time : ℕ) → in_hundredths (started tree rates time).state.clock ≡ 0
unfolding started started_by
start_begins_at_nothing tree rates time = go (first_of (start_checks tree rates))
  where
    go : (v : Verdict) → in_hundredths (started_by v tree rates time).state.clock ≡ 0
    go (Ok tt) = refl
    go (Err x) = refl

module _ (tree : Tree) (rates : Rates) (time : ℕ) (ks : List Call) where
  pub the_remainder_is_below_100 : (run ks (started tree rates time).state).clock.remainder < 100
  the_remainder_is_below_100 = (reached_is_sound ks (start_gives tree rates time)).clock.remainder_below

  -- the exact sum is rounded down, once
  pub generated_is_the_exact_sum_rounded_down : sum_of generated ks (started tree rates time).state ≡ floor_of (sum_of exact ks (started tree rates time).state) 100
  generated_is_the_exact_sum_rounded_down =
      omega (
        arith,
        nothing_is_rounded_away ks (started tree rates time).state,
        generated_is_virtual_time ks (started tree rates time).state,
        start_begins_at_nothing tree rates time,
        the_remainder_is_below_100,
      )
