-- Up to the next plan: a leaf with an accepted bio, a flush too, stays active over any calls, and that plan leaves it active.
-- Assumes nothing.
use Rattle.std.specs.Prelude.{◌≡◌, refl, ◌≢◌, true, false, List, [], ◌∷◌, ℕ, length, Err, Ok}
use Rattle.std.proofs.Common.{ap, ◌∙◌}
use Rattle.std.proofs.Math.Logic.{dite}
use Rattle.std.proofs.Math.Decide.{ℕ_discrete}
use Rattle.rules.specs.Words.{has}
use Rattle.rules.specs.Budget.{row_at, queue_at, share_at, submission}
use Rattle.rules.specs.Tick.{Turn, growth, tick}
use Rattle.rules.specs.Plan.{plan}
use Rattle.rules.specs.Refusals.{first_of, submit_checks, tick_checks, vrate_checks, weight_checks}
use Rattle.rules.specs.Entries.{submitted, ticked, ticked_by, vrated, vrated_by, weighted, weighted_by}
use Rattle.rules.specs.Invariant.{Sound}
use Rattle.rules.specs.Ledger.{Call, after}
use Rattle.rules.proofs.Demand3.Steps.{call_keeps}
use Rattle.rules.specs.Demand3.Sentences.{run}
use Rattle.rules.proofs.Demand3.Sentences.{reached_is_sound}
use Rattle.rules.proofs.Laws.Bools.{is_true, true_not_false}
use Rattle.rules.proofs.Laws.States.{share_pos, share_most}
use Rattle.rules.proofs.Laws.Rows.{turn_keeps}
use Rattle.rules.proofs.Laws.Ticks.{active_turn, tick_row}
use Rattle.rules.proofs.Laws.Plans.{a_leaf_goes_inactive_exactly_when}
use Rattle.rules.proofs.Laws.Submits.{Admitted, by_verdict, submission_notes, submission_leaves_all_active, submit_keeps}
use Rattle.rules.proofs.Laws.Weights.{weight_changes_budgets_alone, weight_keeps_active}
use Rattle.rules.proofs.Laws.Flushes.{an_accepted_bio_counts, an_accepted_bio_activates}
use Rattle.rules.specs.declared.cost.Bio.{Bio}
use Rattle.rules.specs.declared.budget.Row.{Row}
use Rattle.rules.specs.declared.budget.Controller.{Controller}
use Rattle.rules.specs.declared.replay.Setting.TheVariants.{Vrate, Weight}
use Rattle.rules.specs.Demand3.Plans.{Counted, NoPlan, is_plan}
use Rattle.rules.specs.Results.{Verdict}

-- ---- one call
submit_counts : {c : Controller} → Sound c → (b : Bio) (n : ℕ) → Counted c n → Counted (submitted b c).state n
submit_counts {c} s b n w = by_verdict s b (λ a d. Counted d n) (λ x. w) taken
  where
    taken : Admitted b c → Counted (submission b c).state n
    taken ok = record {
      active = submission_leaves_all_active s b ok n w.active;
      accepted =
          dite (ℕ_discrete n b.node)
          (λ (e : n ≡ b.node). ((submission_notes s b ok n).here e).accepted)
          (λ (e : n ≢ b.node). ((submission_notes s b ok n).elsewhere e).accepted ∙ w.accepted);
    }

tick_counts : {c : Controller} → Sound c → (time n : ℕ) → Counted c n → Counted (tick time c) n
unfolding tick
tick_counts {c} s time n w =
    let g = growth c.clock time in
    let kept = turn_keeps g (share_at c n) (row_at c n) (queue_at c n) (share_pos s n w.active) (share_most s n) (s.queue n) in
    record {
      active = w.active;
      accepted =
          ap (λ (r : Row). r.accepted) (tick_row s time n)
          ∙ ap (λ (t : Turn). t.row.accepted) (active_turn g c n w.active)
          ∙ kept.pays.accepted
          ∙ w.accepted;
    }

call_counts : (k : Call) {c : Controller} → Sound c → is_plan k ≡ false → (n : ℕ) → Counted c n → Counted (after k c) n
unfolding ticked ticked_by vrated vrated_by weighted weighted_by
call_counts (Call.submit b) s e n w = submit_counts s b n w
call_counts (Call.ask b) s e n w = w
call_counts (Call.tick time lent) {c} s e n w = go (first_of (tick_checks time (length lent) c))
  where
    go : (v : Verdict) → Counted (ticked_by v time c).state n
    go (Ok tt) = tick_counts s time n w
    go (Err x) = w
call_counts Call.plan s e n w = absurd (true_not_false refl e)
call_counts (Call.set (Vrate r)) {c} s e n w = go (first_of (vrate_checks r))
  where
    go : (v : Verdict) → Counted (vrated_by v r c).state n
    go (Ok tt) = record { active = w.active; accepted = w.accepted }
    go (Err x) = w
call_counts (Call.set (Weight m x)) {c} s e n w = go (first_of (weight_checks m x c.tree))
  where
    go : (v : Verdict) → Counted (weighted_by v m x c).state n
    go (Ok tt) = record {
      active = rw (weight_keeps_active s m x) w.active;
      accepted = ap (λ (r : Row). r.accepted) (weight_changes_budgets_alone s m x n) ∙ w.accepted;
    }
    go (Err y) = w

-- ---- any calls but a plan
counts : (ks : List Call) {c : Controller} → Sound c → NoPlan ks → (n : ℕ) → Counted c n → Counted (run ks c) n
counts [] s none n w = w
counts (k ∷ ks) s (here, there) n w = counts ks (call_keeps k s) there n (call_counts k s here n w)

-- "accepted since the last plan": the plan leaves its leaf active, whatever bios, ticks and settings came between, and whatever
-- became of the bio meanwhile
pub an_accepted_bio_counts_up_to_the_plan : {c : Controller} → Sound c → (b : Bio) → first_of (submit_checks b c) ≡ Ok tt
    → (ks : List Call) → NoPlan ks → has (plan (run ks (submitted b c).state)).active b.node ≡ true
an_accepted_bio_counts_up_to_the_plan {c} s b taken ks none =
    let there : Sound (submitted b c).state = submit_keeps s b in
    let w = counts ks there none b.node (record { active = an_accepted_bio_activates s b taken; accepted = an_accepted_bio_counts s b taken }) in
    is_true (has (plan (run ks (submitted b c).state)).active b.node)
    (λ out. true_not_false w.accepted ((a_leaf_goes_inactive_exactly_when (reached_is_sound ks there) b.node w.active).0 out).0)
