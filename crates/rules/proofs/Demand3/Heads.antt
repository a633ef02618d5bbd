-- Each head of the ledger is what the answers and the states say, of one call upon any sound state: whose bios are released,
-- which ids are written where, what counts as issued, what is repaid, forgiven and generated, and that a refusal counts nothing.
-- Assumes nothing.
use Rattle.std.specs.Prelude.{◌≡◌, Bool, cond, ◌&&◌, ◌⊎◌, ◌≢◌, length, drop, Err, Ok}
use Rattle.std.proofs.Math.Path.{refl, ap}
use Rattle.std.proofs.Common.{sym, ◌∙◌, inl, inr, zero-add, length-append, length-drop, get_or-append-add, get_or-drop}
use Rattle.std.proofs.Math.Bool.{true, false}
use mathlib.Core.List.{List, ◌++◌}
use Prim.Native.Nat.{ℕ, suc, ◌+◌, ◌-◌, ◌*◌, ◌≤◌, ◌<◌, min}
use Rattle.std.proofs.Math.Nat.{min-le_left}
use native.Mathlib.Omega.{arith}
use Rattle.std.proofs.Math.Dec.{eqb}
use borrow.Author.Tests.{eqb-true, eqb-false}
use Rattle.std.proofs.Math.ListN.{get_or, get_or-append}
use Rattle.rules.specs.Numbers.{leaf_most}
use Rattle.rules.specs.Words.{sum_to, has, no_node}
use Rattle.rules.specs.Units.{virt, floor_of, relative, repayable}
use Rattle.rules.specs.Tree.{is_leaf}
use Rattle.rules.specs.Budget.{row_at, queue_at, share_at, popped, oldest_cost, reshared, rebased, activated, entered, ends_donation, applied, settled, submission, would_be}
use Rattle.rules.specs.Tick.{no_turn, growth, gained, repayment, repaid as repaying, turn, turn_of, releases, lent_after, tick as ticking}
use Rattle.rules.specs.Plan.{usage_all, is_donation, donated, restarted_clock, closed, shared, plan as planning}
use Rattle.rules.specs.Refusals.{first_of, submit_checks, tick_checks, plan_checks}
use Rattle.rules.specs.Entries.{submitted, submitted_by, ticked, ticked_by, lent_of, lent_by, planned, planned_by}
use Rattle.rules.specs.Invariant.{Sound}
use Rattle.rules.specs.Ledger.{Call, after, cost_waiting, cost_of_first, id_waiting, ids_of_first, waiting, owed, if_taken, if_issued, if_waits, if_on_debt, cost_on, if_accepted, released_at, repaid_at, accepted, issued, released, repaid, forgiven, generated, exact}
use Rattle.rules.proofs.Laws.Bools.{is_false, true_not_false}
use Rattle.rules.proofs.Laws.Trees.{root_no_leaf, leaf_last, last_most}
use Rattle.rules.proofs.Laws.Sums.{length_join, join_within, join_at}
use Rattle.rules.proofs.Laws.Tables.{get_D_table}
use Rattle.rules.proofs.Laws.Queues.{popped_cost, popped_id}
use Rattle.rules.proofs.Laws.Rows.{released_moves_up, turn_releases_all}
use Rattle.rules.proofs.Laws.Passes.{tick_passes}
use Rattle.rules.proofs.Laws.States.{share_pos}
use Rattle.rules.proofs.Laws.Clocks.{SameTimes, same_times, Passing, nothing_passes, a_tick_passes}
use Rattle.rules.proofs.Laws.Ticks.{active_turn, active_repays, idle_repays, idle_releases, leaf_tick, tick_row, tick_queue, tick_releases_fit}
use Rattle.rules.proofs.Laws.Plans.{half_of_a_debt_is_forgiven_when_quiet, nothing_is_forgiven_when_busy}
use Rattle.rules.proofs.Laws.Submits.{cost_in, cost_here, cost_elsewhere, none_issued as issues_none, submit_waiting, submit_owed}
use Rattle.rules.proofs.Laws.Refused.{refusal_4_exactly_when, submit_refuses_exactly_when, tick_refuses_exactly_when, plan_refuses, a_refused_bio_changes_nothing, a_refused_tick_changes_nothing, a_refused_plan_changes_nothing}
use Rattle.rules.proofs.Laws.Settings.{set_keeps_times, a_refused_setting_changes_nothing}
use Rattle.rules.specs.declared.units.Virt.{Virt}
use Rattle.rules.specs.declared.cost.Bio.{Bio}
use Rattle.rules.specs.declared.budget.Row.{Row}
use Rattle.rules.specs.declared.budget.Queue.{Queue}
use Rattle.rules.specs.declared.budget.Controller.{Controller}
use Rattle.rules.specs.declared.refusals.Refusal.{Refusal}
use Rattle.rules.specs.declared.refusals.Refusal.TheVariants.{NoLeaf}
use Rattle.rules.specs.declared.refusals.Answer.{Answer}
use Rattle.rules.specs.declared.refusals.Answer.TheVariants.{Issued, Waits, OnDebt}
use Rattle.rules.specs.Demand3.Heads.{CountsNothing, Refuses, SameClockAndTree, how_many}
use Rattle.rules.specs.Results.{Verdict, Answered}

turn_moves_up : (at : Queue → ℕ → ℕ) → ((q : Queue) (i : ℕ) → at (popped q) i ≡ at q (suc i)) → (g : Virt) (c : Controller) (n i : ℕ)
    → at (turn_of g c n).queue i ≡ at (queue_at c n) (how_many g c n + i)
unfolding turn_of turn
turn_moves_up at up g c n i = go (has c.active n)
  where
    go : (t : Bool)
        → at (cond t (turn g (share_at c n) (row_at c n) (queue_at c n)) (no_turn (row_at c n) (queue_at c n))).queue i
        ≡ at (queue_at c n) (length (cond t (turn g (share_at c n) (row_at c n) (queue_at c n)) (no_turn (row_at c n) (queue_at c n))).ids + i)
    go true = released_moves_up at up (share_at c n) (repaying (share_at c n) (gained g (row_at c n))) (queue_at c n) i
    go false = ap (at (queue_at c n)) (omega arith)

module _ {c : Controller} (sound : Sound c) (g : Virt) (n : ℕ) where
  pub released_ids_are_the_first_of_the_queue : (turn_of g c n).ids ≡ ids_of_first (queue_at c n) (how_many g c n)
  released_ids_are_the_first_of_the_queue = (leaf_tick sound g n).ids

  pub as_many_leave_the_queue : (turn_of g c n).queue.len + how_many g c n ≡ (queue_at c n).len
  as_many_leave_the_queue = (leaf_tick sound g n).left

  -- place by place, ids and costs
  pub those_behind_them_still_wait : (i : ℕ)
      → (id_waiting (turn_of g c n).queue i ≡ id_waiting (queue_at c n) (how_many g c n + i))
      × (cost_waiting (turn_of g c n).queue i ≡ cost_waiting (queue_at c n) (how_many g c n + i))
  those_behind_them_still_wait i = (turn_moves_up id_waiting popped_id g c n i, turn_moves_up cost_waiting popped_cost g c n i)

  -- and no more could be: nothing waits, or the oldest does not fit
  pub no_bio_that_fits_still_waits : has c.active n ≡ true → (turn_of g c n).row.debt.0 ≡ 0
      → ((turn_of g c n).queue.len ≡ 0) ⊎ ((turn_of g c n).row.budget.0 < (relative (oldest_cost (turn_of g c n).queue) (share_at c n)).0)
  no_bio_that_fits_still_waits e =
      rw (active_turn g c n e) (turn_releases_all g (share_at c n) (row_at c n) (queue_at c n) (share_pos sound n e) (sound.queue n))

-- ---- the ids that an accepted tick writes
module _ {c : Controller} (sound : Sound c) (time : ℕ) (lent : List ℕ) (taken : first_of (tick_checks time (length lent) c) ≡ Ok tt) where
  written : lent_of time lent c ≡ releases (growth c.clock time) c ++ drop (length (releases (growth c.clock time) c)) lent
  unfolding lent_of lent_by lent_after
  written = rw taken

  count : length (releases (growth c.clock time) c) ≡ sum_to (how_many (growth c.clock time) c) leaf_most
  unfolding releases
  count = length_join (λ n. (turn_of (growth c.clock time) c n).ids) leaf_most

  pub tick_answers_how_many_are_released : (ticked time lent c).answer ≡ Ok (sum_to (how_many (growth c.clock time) c) leaf_most)
  unfolding ticked ticked_by
  tick_answers_how_many_are_released = rw taken (ap Ok count)

  -- those of leaf m + 1 stand behind those of the leaves 1 to m, oldest first
  pub buffer_has_the_released_ids_by_rising_leaf : (m j : ℕ) → m < leaf_most → j < how_many (growth c.clock time) c (suc m)
      → get_or (lent_of time lent c) (sum_to (how_many (growth c.clock time) c) m + j) 0 ≡ id_waiting (queue_at c (suc m)) j
  unfolding releases ids_of_first
  buffer_has_the_released_ids_by_rising_leaf m j l h =
      let ids : ℕ → List ℕ = λ n. (turn_of (growth c.clock time) c n).ids in
      let at : ℕ = sum_to (how_many (growth c.clock time) c) m + j in
      ap (λ (b : List ℕ). get_or b at 0) written
      ∙ get_or-append (releases (growth c.clock time) c) _ 0 at (omega (arith, join_within ids m leaf_most l))
      ∙ join_at ids m leaf_most j 0 l h
      ∙ ap (λ (b : List ℕ). get_or b j 0) (released_ids_are_the_first_of_the_queue sound (growth c.clock time) (suc m))
      ∙ get_D_table (id_waiting (queue_at c (suc m))) 0 (how_many (growth c.clock time) c (suc m)) j 0 h
      ∙ ap (id_waiting (queue_at c (suc m))) (zero-add j)

  pub places_behind_the_last_stay : (i : ℕ)
      → get_or (lent_of time lent c) (sum_to (how_many (growth c.clock time) c) leaf_most + i) 0
      ≡ get_or lent (sum_to (how_many (growth c.clock time) c) leaf_most + i) 0
  places_behind_the_last_stay i =
      rw (written, ← count)
      (get_or-append-add (releases (growth c.clock time) c) _ i 0 ∙ get_or-drop (length (releases (growth c.clock time) c)) lent i 0)

  pub buffer_keeps_its_length : length (lent_of time lent c) ≡ length lent
  buffer_keeps_its_length =
      rw (written, length-append, length-drop) (omega (arith, tick_releases_fit sound time (length lent) taken))

  -- the head of the ledger, and the queue that the call leaves
  pub released_is_the_cost_of_the_first : (n : ℕ)
      → released (Call.tick time lent) c n ≡ cost_of_first (queue_at c n) (how_many (growth c.clock time) c n)
  unfolding released released_at
  released_is_the_cost_of_the_first n = rw taken

  pub queue_after_is_that_of_the_turn : (n : ℕ) → queue_at (after (Call.tick time lent) c) n ≡ (turn_of (growth c.clock time) c n).queue
  unfolding ticked ticked_by
  queue_after_is_that_of_the_turn n = ap (λ (v : Verdict). queue_at (ticked_by v time c).state n) taken ∙ tick_queue sound time n

-- ---- accepted and issued: by the answer, and of the bio's leaf alone
takes_none : (a : Answered) → if_taken a 0 ≡ 0
takes_none (Ok Issued) = refl
takes_none (Ok Waits) = refl
takes_none (Ok OnDebt) = refl
takes_none (Err x) = refl

module _ (b : Bio) (c : Controller) where
  pub an_issued_bio_counts_its_cost : (submitted b c).answer ≡ Ok Issued → issued (Call.submit b) c b.node ≡ (cost_in c b).0
  unfolding issued
  an_issued_bio_counts_its_cost e = rw (e, cost_here b c)

  pub no_other_answer_counts_as_issued : ((submitted b c).answer ≡ Ok Issued → ⊥) → (n : ℕ) → issued (Call.submit b) c n ≡ 0
  unfolding issued
  no_other_answer_counts_as_issued h n = go (submitted b c).answer h
    where
      go : (a : Answered) → (a ≡ Ok Issued → ⊥) → if_issued a (cost_on n b c) ≡ 0
      go (Ok Issued) k = absurd (k refl)
      go (Ok Waits) k = refl
      go (Ok OnDebt) k = refl
      go (Err x) k = refl

  pub a_bio_not_refused_counts_as_accepted : ((x : Refusal) → (submitted b c).answer ≡ Err x → ⊥)
      → accepted (Call.submit b) c b.node ≡ (cost_in c b).0
  unfolding accepted
  a_bio_not_refused_counts_as_accepted h = go (submitted b c).answer h ∙ cost_here b c
    where
      go : (a : Answered) → ((x : Refusal) → a ≡ Err x → ⊥) → if_taken a (cost_on b.node b c) ≡ cost_on b.node b c
      go (Ok Issued) k = refl
      go (Ok Waits) k = refl
      go (Ok OnDebt) k = refl
      go (Err x) k = absurd (k x refl)

  pub no_other_leaf_counts : (n : ℕ) → n ≢ b.node → (accepted (Call.submit b) c n ≡ 0) × (issued (Call.submit b) c n ≡ 0)
  unfolding accepted issued
  no_other_leaf_counts n e =
      rw (cost_elsewhere b c n e) (takes_none (submitted b c).answer, issues_none (submitted b c).answer)

-- ---- waiting and owed: by the answer
module _ {c : Controller} (sound : Sound c) (b : Bio) (n : ℕ) where
  pub what_waits_grows_by_a_bio_that_waits : waiting (after (Call.submit b) c) n ≡ waiting c n + if_waits (submitted b c).answer (cost_on n b c)
  what_waits_grows_by_a_bio_that_waits = submit_waiting sound b n

  pub what_is_owed_grows_by_a_bio_on_debt : owed (after (Call.submit b) c) n ≡ owed c n + if_on_debt (submitted b c).answer (cost_on n b c)
  what_is_owed_grows_by_a_bio_on_debt = submit_owed sound b n

-- ---- repaid: the smaller of the debt and what the budget, with the tick's gain, can repay; the debt falls by just that
module _ {c : Controller} (sound : Sound c) (time : ℕ) (lent : List ℕ) (n : ℕ) where
  pub repaid_is_the_smaller_of_debt_and_budget : first_of (tick_checks time (length lent) c) ≡ Ok tt
      → repaid (Call.tick time lent) c n ≡ min (owed c n) (repayable (virt ((row_at c n).budget.0 + (growth c.clock time).0)) (share_at c n)).0
  unfolding repaid repayment
  repaid_is_the_smaller_of_debt_and_budget taken = rw taken (go (has c.active n) refl)
    where
      go : (t : Bool) → has c.active n ≡ t
          → repaid_at (growth c.clock time) c n
          ≡ min (owed c n) (repayable (virt ((row_at c n).budget.0 + (growth c.clock time).0)) (share_at c n)).0
      go true e = active_repays (growth c.clock time) c n e
      go false e =
          omega (
            arith,
            idle_repays (growth c.clock time) c n e,
            (sound.idle n e).no_debt,
            min-le_left (owed c n) (repayable (virt ((row_at c n).budget.0 + (growth c.clock time).0)) (share_at c n)).0,
          )

  pub debt_falls_by_just_what_is_repaid : owed (after (Call.tick time lent) c) n + repaid (Call.tick time lent) c n ≡ owed c n
  unfolding repaid ticked ticked_by
  debt_falls_by_just_what_is_repaid = go (first_of (tick_checks time (length lent) c))
    where
      go : (v : Verdict) → owed (ticked_by v time c).state n + if_accepted v (repaid_at (growth c.clock time) c n) ≡ owed c n
      go (Ok tt) = omega (arith, (leaf_tick sound (growth c.clock time) n).debt, ap (λ (r : Row). r.debt.0) (tick_row sound time n))
      go (Err x) = omega arith

-- ---- forgiven: half of each debt, rounded down, exactly when twice the usage is below E
module _ {c : Controller} (sound : Sound c) (n : ℕ) where
  pub half_of_the_debt_is_forgiven_when_quiet : 2 * (usage_all c).0 < c.clock.since.0 → forgiven Call.plan c n ≡ floor_of (owed c n) 2
  half_of_the_debt_is_forgiven_when_quiet quiet = (half_of_a_debt_is_forgiven_when_quiet sound quiet n).0

  pub nothing_is_forgiven_else : c.clock.since.0 ≤ 2 * (usage_all c).0 → forgiven Call.plan c n ≡ 0
  nothing_is_forgiven_else busy = (nothing_is_forgiven_when_busy sound busy n).0

-- ---- charged: a node that is no leaf is never charged, so the sum over the nodes 1 to 63 leaves nothing out
module _ {c : Controller} (sound : Sound c) (n : ℕ) (other : is_leaf c.tree n ≡ false) where
  none_issued_there : (b : Bio) → issued (Call.submit b) c n ≡ 0
  unfolding issued
  none_issued_there b = go (eqb b.node n) refl
    where
      go : (t : Bool) → eqb b.node n ≡ t → if_issued (submitted b c).answer (cost_on n b c) ≡ 0
      go true h =
          let refused : (submitted b c).answer ≡ Err NoLeaf = (refusal_4_exactly_when b c).1 (rw (eqb-true b.node n h) other) in
          rw refused
      go false h = rw (cost_elsewhere b c n (λ e. eqb-false b.node n h (sym e))) (issues_none (submitted b c).answer)

  idle_there : has c.active n ≡ false
  idle_there = is_false (has c.active n) (λ e. true_not_false (sound.active n e) other)

  nothing_if_accepted : (v : Verdict) (x : ℕ) → x ≡ 0 → if_accepted v x ≡ 0
  nothing_if_accepted (Ok tt) x e = e
  nothing_if_accepted (Err r) x e = refl

  pub only_leaves_are_charged : (k : Call) → issued k c n + released k c n + repaid k c n ≡ 0
  unfolding released repaid issued
  only_leaves_are_charged (Call.submit b) = omega (arith, none_issued_there b)
  only_leaves_are_charged (Call.ask b) = omega arith
  only_leaves_are_charged (Call.tick time lent) =
      omega (
        arith,
        nothing_if_accepted (first_of (tick_checks time (length lent) c)) _ (idle_releases (growth c.clock time) c n idle_there),
        nothing_if_accepted (first_of (tick_checks time (length lent) c)) _ (idle_repays (growth c.clock time) c n idle_there),
      )
  only_leaves_are_charged Call.plan = omega arith
  only_leaves_are_charged (Call.set x) = omega arith

pub no_node_outside_the_sum_is_charged : (k : Call) {c : Controller} → Sound c → (n : ℕ) → (n ≡ 0) ⊎ (leaf_most < n)
    → issued k c n + released k c n + repaid k c n ≡ 0
no_node_outside_the_sum_is_charged k {c} sound n (inl e) = only_leaves_are_charged sound n (rw e (root_no_leaf c.tree)) k
no_node_outside_the_sum_is_charged k {c} sound n (inr l) =
    only_leaves_are_charged sound n
    (is_false (is_leaf c.tree n) (λ e. omega (arith, leaf_last c.tree n e, last_most sound.tree))) k

entering_keeps_both : (n : ℕ) (c : Controller) → SameClockAndTree c (entered n c)
unfolding entered activated rebased reshared
entering_keeps_both n c = go (has c.active n)
  where
    go : (t : Bool) → SameClockAndTree c (cond t c (activated n c))
    go true = record { clock = refl; tree = refl }
    go false = record { clock = refl; tree = refl }

settling_keeps_both : (a : Answer) (b : Bio) (c : Controller) → SameClockAndTree c (settled a b c)
unfolding settled applied rebased reshared
settling_keeps_both a b c = go (ends_donation a && has c.donors b.node)
  where
    go : (t : Bool) → SameClockAndTree c (cond t (rebased c.active (applied a b c)) (applied a b c))
    go true = record { clock = refl; tree = refl }
    go false = record { clock = refl; tree = refl }

pub submitting_keeps_both : (b : Bio) (c : Controller) (v : Verdict) → SameClockAndTree c (submitted_by v b c).state
unfolding submitted_by submission
submitting_keeps_both b c (Ok tt) =
    let s = settling_keeps_both (would_be c b) b (entered b.node c) in
    let e = entering_keeps_both b.node c in
    record { clock = s.clock ∙ e.clock; tree = s.tree ∙ e.tree }
submitting_keeps_both b c (Err x) = record { clock = refl; tree = refl }

sharing_keeps_both : (active donors : ℕ) (bases targets : List ℕ) (c : Controller) → SameClockAndTree c (shared active donors bases targets c)
unfolding shared reshared
sharing_keeps_both active donors bases targets c = go (is_donation active donors)
  where
    go : (t : Bool) → SameClockAndTree c (cond t (reshared active donors (donated active donors bases targets) c) (reshared active no_node bases c))
    go true = record { clock = refl; tree = refl }
    go false = record { clock = refl; tree = refl }

-- of a plan E starts at 0
pub planning_restarts_the_clock : (c : Controller) → (planned_by (Ok tt) c).state.clock ≡ restarted_clock c.clock
unfolding planned_by planning closed
planning_restarts_the_clock c = (sharing_keeps_both _ _ _ _ (closed _ _ c)).clock

pub planning_keeps_times : (c : Controller) (v : Verdict) → SameTimes c.clock (planned_by v c).state.clock
unfolding planned_by
planning_keeps_times c (Ok tt) = rw (planning_restarts_the_clock c) (record { time = refl; vtime = refl; remainder = refl })
planning_keeps_times c (Err x) = same_times refl

pub planning_keeps_the_tree : (c : Controller) (v : Verdict) → (planned_by v c).state.tree ≡ c.tree
unfolding planned_by planning closed
planning_keeps_the_tree c (Ok tt) = (sharing_keeps_both _ _ _ _ (closed _ _ c)).tree
planning_keeps_the_tree c (Err x) = refl

-- what a call does to the clock: an accepted tick moves it, and nothing else moves time, virtual time or remainder
pub call_passes : (k : Call) (c : Controller) → Passing (generated k c) (exact k c) c.clock (after k c).clock
unfolding generated exact submitted ticked ticked_by ticking planned
call_passes (Call.submit b) c = nothing_passes _ _ (same_times (submitting_keeps_both b c (first_of (submit_checks b c))).clock)
call_passes (Call.ask b) c = nothing_passes _ _ (same_times refl)
call_passes (Call.tick time lent) c = go (first_of (tick_checks time (length lent) c)) refl
  where
    go : (v : Verdict) → first_of (tick_checks time (length lent) c) ≡ v
        → Passing (if_accepted v (growth c.clock time).0) (if_accepted v ((time - c.clock.time) * c.clock.vrate)) c.clock (ticked_by v time c).state.clock
    go (Ok tt) e = a_tick_passes c.clock time (tick_passes time (length lent) c e).forward
    go (Err x) e = nothing_passes _ _ (same_times refl)
call_passes Call.plan c = nothing_passes _ _ (planning_keeps_times c (first_of (plan_checks c)))
call_passes (Call.set x) c = nothing_passes _ _ (set_keeps_times x c)

pub generated_is_the_growth_of_virtual_time : (k : Call) (c : Controller) → generated k c + c.clock.vtime.0 ≡ (after k c).clock.vtime.0
generated_is_the_growth_of_virtual_time k c = omega (arith, (call_passes k c).vtime)

-- a question counts nothing, whatever it is answered
pub a_question_counts_nothing : (b : Bio) (c : Controller) → CountsNothing (Call.ask b) c
unfolding accepted issued released repaid forgiven generated exact
a_question_counts_nothing b c = record {
  state_stays = refl;
  none_accepted = λ n. refl;
  none_issued = λ n. refl;
  none_released = λ n. refl;
  none_repaid = λ n. refl;
  none_forgiven = λ n. refl;
  none_generated = refl;
  none_exact = refl;
}

pub a_refused_call_counts_nothing : (k : Call) (c : Controller) (x : Refusal) → Refuses k c x → CountsNothing k c
unfolding accepted issued released repaid forgiven generated exact submitted submitted_by
a_refused_call_counts_nothing (Call.submit b) c x e =
    let v : first_of (submit_checks b c) ≡ Err x = (submit_refuses_exactly_when b c x).0 e in
    record {
      state_stays = a_refused_bio_changes_nothing b c x e;
      none_accepted = λ n. ap (λ (t : Verdict). if_taken (submitted_by t b c).answer (cost_on n b c)) v;
      none_issued = λ n. ap (λ (t : Verdict). if_issued (submitted_by t b c).answer (cost_on n b c)) v;
      none_released = λ n. refl;
      none_repaid = λ n. refl;
      none_forgiven = λ n. refl;
      none_generated = refl;
      none_exact = refl;
    }
a_refused_call_counts_nothing (Call.ask b) c x e = a_question_counts_nothing b c
a_refused_call_counts_nothing (Call.tick time lent) c x e =
    let v : first_of (tick_checks time (length lent) c) ≡ Err x = (tick_refuses_exactly_when time lent c x).0 e in
    record {
      state_stays = (a_refused_tick_changes_nothing time lent c x e).0;
      none_accepted = λ n. refl;
      none_issued = λ n. refl;
      none_released = λ n. rw v;
      none_repaid = λ n. rw v;
      none_forgiven = λ n. refl;
      none_generated = rw v;
      none_exact = rw v;
    }
a_refused_call_counts_nothing Call.plan c x e =
    let v : first_of (plan_checks c) ≡ Err x = (plan_refuses c x).0 e in
    record {
      state_stays = a_refused_plan_changes_nothing c x e;
      none_accepted = λ n. refl;
      none_issued = λ n. refl;
      none_released = λ n. refl;
      none_repaid = λ n. refl;
      none_forgiven = λ n. rw v;
      none_generated = refl;
      none_exact = refl;
    }
a_refused_call_counts_nothing (Call.set s) c x e =
    record {
      state_stays = a_refused_setting_changes_nothing s c x e;
      none_accepted = λ n. refl;
      none_issued = λ n. refl;
      none_released = λ n. refl;
      none_repaid = λ n. refl;
      none_forgiven = λ n. refl;
      none_generated = refl;
      none_exact = refl;
    }
