-- What an accepted call has passed: each of its checks, as a fact on numbers.
-- Assumes nothing.
use Rattle.std.specs.Prelude.{◌≡◌, refl, Bool, true, false, cond, ℕ, ◌≤◌, Err, Ok}
use Rattle.std.proofs.Common.{ltb-false}
use Rattle.std.proofs.lemmas.Bool.{not-false}
use Rattle.rules.specs.Numbers.{vrate_least, vrate_most}
use Rattle.rules.specs.Cost.{rates_in_range}
use Rattle.rules.specs.Tree.{weight_in_range, tree_fault, is_thin, is_below_root, with_weight}
use Rattle.rules.specs.Refusals.{first_of, tree_checks, rate_checks, start_checks, tick_checks, plan_checks, vrate_checks, weight_checks}
use Rattle.rules.specs.Entries.{started, started_by, planned, planned_by, vrated, vrated_by, weighted, weighted_by}
use Rattle.rules.specs.Invariant.{TickPasses}
use Rattle.rules.proofs.Laws.TreeVerdicts.{sound_when}
use Rattle.rules.proofs.Laws.Bools.{never, between}
use Rattle.rules.specs.declared.cost.Rates.{Rates}
use Rattle.rules.specs.declared.tree.Tree.{Tree}
use Rattle.rules.specs.declared.budget.Controller.{Controller}
use Rattle.rules.specs.declared.refusals.Refusal.{Refusal}
use Rattle.rules.specs.Results.{Judged, Verdict}

-- a check that would have refused did not hold
pub check_passed : (b : Bool) (x : Refusal) (v : Verdict) → cond b (Err x) v ≡ Ok tt → (b ≡ false) × (v ≡ Ok tt)
check_passed true x v e = never (cc)
check_passed false x v e = (refl, e)

-- ---- a tick
pub tick_passes : (time places : ℕ) (c : Controller) → first_of (tick_checks time places c) ≡ Ok tt → TickPasses time places c
unfolding tick_checks
tick_passes time places c e =
    let a = check_passed _ _ _ e in
    let b = check_passed _ _ _ a.1 in
    let d = check_passed _ _ _ b.1 in
    let f = check_passed _ _ _ d.1 in
    let h = check_passed _ _ _ f.1 in
    record {
      forward = ltb-false _ _ a.0;
      near = ltb-false _ _ b.0;
      vtime = ltb-false _ _ d.0;
      since = ltb-false _ _ f.0;
      room = ltb-false _ _ h.0;
    }

-- ---- vrate
pub vrate_passes : (v : ℕ) → first_of (vrate_checks v) ≡ Ok tt → (vrate_least ≤ v) × (v ≤ vrate_most)
unfolding vrate_checks
vrate_passes v e = (between vrate_least v vrate_most).0 (not-false _ (check_passed _ _ _ e).0)

-- ---- a weight
pub record WeightPasses (n w : ℕ) (t : Tree) : Type 0 where
  pub node : is_below_root t n ≡ true
  pub range : weight_in_range w ≡ true
  pub thick : is_thin (with_weight n w t) ≡ false

pub weight_passes : (n w : ℕ) (t : Tree) → first_of (weight_checks n w t) ≡ Ok tt → WeightPasses n w t
unfolding weight_checks
weight_passes n w t e =
    let a = check_passed _ _ _ e in
    let b = check_passed _ _ _ a.1 in
    record { node = not-false _ a.0; range = not-false _ b.0; thick = (check_passed _ _ _ b.1).0 }

-- ---- start
pub record StartPasses (t : Tree) (r : Rates) : Type 0 where
  pub tree : tree_fault t ≡ Ok tt
  pub thick : is_thin t ≡ false
  pub rates : rates_in_range r ≡ true

pub start_passes : (t : Tree) (r : Rates) → first_of (start_checks t r) ≡ Ok tt → StartPasses t r
unfolding start_checks tree_checks rate_checks
start_passes t r e =
    let a = check_passed _ _ _ e in
    let b = check_passed _ _ _ a.1 in
    let d = check_passed _ _ _ b.1 in
    record { tree = sound_when (tree_fault t) a.0; thick = b.0; rates = not-false _ d.0 }

-- ---- of a call that answers a verdict, the answer is what its checks give
by_verdict : (by : Verdict → Judged) → (by (Ok tt)).answer ≡ Ok tt → ((x : Refusal) → (by (Err x)).answer ≡ Err x)
    → (v : Verdict) → (by v).answer ≡ v
by_verdict by a r (Ok tt) = a
by_verdict by a r (Err x) = r x

pub start_answers : (t : Tree) (r : Rates) (time : ℕ) → (started t r time).answer ≡ first_of (start_checks t r)
unfolding started started_by
start_answers t r time = by_verdict (λ v. started_by v t r time) refl (λ x. refl) (first_of (start_checks t r))

pub plan_answers : (c : Controller) → (planned c).answer ≡ first_of (plan_checks c)
unfolding planned planned_by
plan_answers c = by_verdict (λ v. planned_by v c) refl (λ x. refl) (first_of (plan_checks c))

pub vrate_answers : (v : ℕ) (c : Controller) → (vrated v c).answer ≡ first_of (vrate_checks v)
unfolding vrated vrated_by
vrate_answers v c = by_verdict (λ t. vrated_by t v c) refl (λ x. refl) (first_of (vrate_checks v))

pub weighted_answers : (n w : ℕ) (c : Controller) → (weighted n w c).answer ≡ first_of (weight_checks n w c.tree)
unfolding weighted weighted_by
weighted_answers n w c = by_verdict (λ t. weighted_by t n w c) refl (λ x. refl) (first_of (weight_checks n w c.tree))
