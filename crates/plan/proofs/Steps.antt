-- The steps of a plan put together: what sharing asks of them, and that they are the plan of the rules.
-- Assumes nothing.
use mathlib.Core.Path.{◌≡◌, refl, sym, ap, ◌∙◌}
use mathlib.Core.Bool.{Bool, true, false, cond, ◌&&◌}
use mathlib.Core.List.{List}
use Prim.Native.Nat.{ℕ, ◌<◌}
use native.Mathlib.Omega.{arith}
use lib.Dec.{ltb}
use lib.ListN.{get_or}
use borrow.Author.Tests.{ltb-true, ltb-false, eq-eqb, ne_eqb}
use Rattle.std.specs.Prelude.{Err, Ok}
use Rattle.rules.specs.Numbers.{nodes_most}
use Rattle.rules.specs.Words.{has, no_node}
use Rattle.rules.specs.Tree.{base_shares}
use Rattle.rules.specs.Budget.{empty_row, empty_queue, row_at, queue_at, share_at, with_clock, with_sharing, with_books, with_budget, rebudget, reshared}
use Rattle.rules.specs.Plan.{usage_all, is_quiet, forgiven, is_donor, is_donation, donated, quiet_in, active_after, targets_in, donors_in, restarted_clock, closed, shared, plan}
use Rattle.rules.specs.Refusals.{plan_checks}
use Rattle.rules.specs.Entries.{planned_by, planned}
use Rattle.rules.specs.Results.{Verdict}
use Rattle.rules.specs.Invariant.{Sound, SoundTree, Within}
use Rattle.rules.proofs.Laws.Bools.{true_not_false, is_false}
use Rattle.rules.proofs.Laws.Sets.{set_cong}
use Rattle.rules.proofs.Laws.Tables.{table_at, table_cong}
use Rattle.rules.proofs.Laws.Trees.{no_root_within}
use Rattle.rules.proofs.Laws.Plans.{after_within, donor_active, donor_is}
use Rattle.donation.specs.Donation as donation
use Rattle.leaf.specs.Alone.{stays_with, is_donor_with, donor_by_count}
use Rattle.plan.specs.Sharing.{CanShare, sharing_of, Shown, put_plan}
use Rattle.plan.specs.Steps.{closed_row, usage_of, staying_of, targets_of, donors_of, planned_rows, bare_queues}
use Rattle.plan.proofs.Turns.{bare_len}
use Rattle.plan.specs.declared.Sharing.{Sharing}
use Rattle.rules.specs.declared.units.Abs.{Abs}
use Rattle.rules.specs.declared.units.Virt.{Virt}
use Rattle.rules.specs.declared.tree.Tree.{Tree}
use Rattle.rules.specs.declared.budget.Row.{Row}
use Rattle.rules.specs.declared.budget.Queue.{Queue}
use Rattle.rules.specs.declared.budget.Clock.{Clock}
use Rattle.rules.specs.declared.budget.Controller.{Controller}
use Rattle.rules.specs.declared.refusals.Refusal.TheVariants.{NothingPassed}

-- ---- a row of the closed books
closed_at : (c : Controller) (quiet : Bool) (active n : ℕ) → n < nodes_most
    → row_at (closed quiet active c) n ≡ closed_row quiet (has active n) (row_at c n)
unfolding closed
closed_at c quiet active n h = table_at (λ k. closed_row quiet (has active k) (row_at c k)) n empty_row h

-- ---- each step, over the rows and the queues, is the rule's over the state
module _ (c : Controller) where
  pub quiet_is : {quiet : Bool} {usage : Abs} → usage ≡ usage_of c.rows → quiet ≡ is_quiet usage c.clock.since → quiet ≡ quiet_in c
  unfolding quiet_in usage_all
  quiet_is u e = e ∙ ap (λ (x : Abs). is_quiet x c.clock.since) u

  pub active_is : (quiet : Bool) {active : ℕ} → active ≡ staying_of c.active quiet c.rows c.queues → active ≡ active_after quiet c
  unfolding active_after
  active_is quiet e = e

  pub targets_are : {targets : List ℕ} → targets ≡ targets_of c.clock.since c.rows → targets ≡ targets_in c
  unfolding targets_in
  targets_are e = e

  pub donors_are : (quiet : Bool) (active : ℕ) (bases targets : List ℕ) {donors : ℕ}
      → donors ≡ donors_of active quiet bases targets c.rows c.queues → donors ≡ donors_in quiet active bases targets c
  unfolding donors_in
  donors_are quiet active bases targets e = e

-- ---- what base shares and sharing ask
module _ {c : Controller} (s : Sound c) (quiet : Bool) {active : ℕ} (ea : active ≡ staying_of c.active quiet c.rows c.queues) where
  within : Within c.tree active
  within = rw (active_is c quiet ea) (after_within s quiet)

  -- who is active once the plan is over has a place in the tree
  pub still_within : SoundTree c.tree × Within c.tree active
  still_within = (s.tree, within)

  module _ {donors : ℕ} {bases : List ℕ} (targets : List ℕ) (eb : bases ≡ base_shares c.tree active)
      (ed : donors ≡ donors_of active quiet bases targets c.rows c.queues) where
    root_idle : has active 0 ≡ false
    root_idle = no_root_within c.tree active within

    is_candidate : (n : ℕ) → has donors n ≡ true → has (donors_in quiet (active_after quiet c) bases targets c) n ≡ true
    is_candidate n e = rw (donors_are c quiet active bases targets ed, active_is c quiet ea) at e

    gives_active : (n : ℕ) → has donors n ≡ true → has active n ≡ true
    gives_active n e = rw (active_is c quiet ea) (donor_active s quiet bases targets n (is_candidate n e))

    gives_less : (n : ℕ) → has donors n ≡ true → get_or targets n 0 < get_or (base_shares c.tree active) n 0
    gives_less n e = rw (← eb) (donor_is s quiet bases targets n (is_candidate n e)).2

    pub can_share : CanShare active donors bases targets
    can_share = record {
      no_root = root_idle;
      no_root_gives = is_false (has donors 0) (λ e. true_not_false (gives_active 0 e) root_idle);
      donation = λ d. rw eb (donation.planned s.tree s.thick active donors targets within gives_active gives_less d);
    }

-- ---- the steps are the plan of the rules
module _ (c : Controller) where
  pub refused : {t : Bool} → t ≡ ltb 0 c.clock.since.0 → t ≡ false → (◌≡◌ {A = Verdict} (Err NothingPassed) (planned c).answer) × (c ≡ (planned c).state)
  unfolding planned planned_by plan_checks
  refused e f =
      let none : c.clock.since.0 ≡ 0 = omega (arith, ltb-false 0 c.clock.since.0 (sym e ∙ f)) in
      rw (eq-eqb c.clock.since.0 0 none) (refl, refl)

  pub some_passed : {t : Bool} → t ≡ ltb 0 c.clock.since.0 → t ≡ true → 0 < c.clock.since.0
  some_passed e f = ltb-true 0 c.clock.since.0 (sym e ∙ f)

  pub accepted : {d : Controller} → 0 < c.clock.since.0 → d ≡ plan c → (◌≡◌ {A = Verdict} (Ok tt) (planned c).answer) × (d ≡ (planned c).state)
  unfolding planned planned_by plan_checks
  accepted some e = rw (ne_eqb c.clock.since.0 0 (λ z. omega arith)) (refl, e)

  -- each way reshares the same state
  one_sharing : (active donors : ℕ) (bases targets : List ℕ) (books : Controller) → let sh = sharing_of active donors bases targets in
      reshared active sh.donors sh.shares books ≡ shared active donors bases targets books
  unfolding shared
  one_sharing active donors bases targets books = go (is_donation active donors)
    where
      go : (b : Bool) →
          let sh : Sharing = cond b (record { donors = donors; shares = donated active donors bases targets }) (record { donors = no_node; shares = bases }) in
          reshared active sh.donors sh.shares books
          ≡ cond b (reshared active donors (donated active donors bases targets) books) (reshared active no_node bases books)
      go true = refl
      go false = refl

  module _ {quiet : Bool} {usage : Abs} {active donors : ℕ} {bases targets : List ℕ} {rows : List Row} {sh : Sharing} {clock : Clock}
      (eu : usage ≡ usage_of c.rows) (eq : quiet ≡ is_quiet usage c.clock.since) (ea : active ≡ staying_of c.active quiet c.rows c.queues)
      (eb : bases ≡ base_shares c.tree active) (et : targets ≡ targets_of c.clock.since c.rows)
      (ed : donors ≡ donors_of active quiet bases targets c.rows c.queues)
      (es : sh ≡ sharing_of active donors bases targets)
      (er : rows ≡ planned_rows quiet active c.shares sh.shares c.rows) (ek : clock ≡ restarted_clock c.clock) where
    abbrev stored : Controller
    stored = with_sharing active sh.donors sh.shares (with_books rows c.queues (with_clock clock c))

    reshares : stored ≡ reshared active sh.donors sh.shares (closed quiet active c)
    unfolding reshared closed
    reshares =
        rw ek
        (ap (λ (l : List Row). with_sharing active sh.donors sh.shares (with_books l c.queues (with_clock (restarted_clock c.clock) c)))
        (er ∙ table_cong _ _
        (λ n h. ap (λ (r : Row). with_budget (rebudget (share_at c n) (get_or sh.shares n 0) r.budget) r) (sym (closed_at c quiet active n h)))))

    pub is_plan_lem : stored ≡ plan c
    unfolding plan
    is_plan_lem =
        reshares ∙ ap (λ (x : Sharing). reshared active x.donors x.shares (closed quiet active c)) es
        ∙ one_sharing active donors bases targets (closed quiet active c)
        ∙ rw (donors_are c quiet active bases targets ed, targets_are c et, eb, active_is c quiet ea, quiet_is c eu eq)

-- ---- of the queues the steps ask no more than how many wait in each
module _ (active : ℕ) (quiet : Bool) (rows : List Row) (a b : List Queue)
    (same : (n : ℕ) → n < nodes_most → (get_or a n empty_queue).len ≡ (get_or b n empty_queue).len) where
  staying_by_lengths : staying_of active quiet rows a ≡ staying_of active quiet rows b
  staying_by_lengths =
      set_cong _ _ nodes_most
      (λ n h. ap (λ (w : ℕ). has active n && stays_with (forgiven quiet (get_or rows n empty_row)) w) (same n h))

  module _ (bases targets : List ℕ) where
    abbrev gives : ℕ → Queue → Bool
    gives n = is_donor (get_or targets n 0) (get_or bases n 0) (forgiven quiet (get_or rows n empty_row))

    abbrev gives_with : ℕ → ℕ → Bool
    gives_with n = is_donor_with (get_or targets n 0) (get_or bases n 0) (forgiven quiet (get_or rows n empty_row))

    by_count : (n : ℕ) (q : Queue) → gives n q ≡ gives_with n q.len
    by_count n q = donor_by_count (get_or targets n 0) (get_or bases n 0) (forgiven quiet (get_or rows n empty_row)) q

    each : (n : ℕ) → n < nodes_most → gives n (get_or a n empty_queue) ≡ gives n (get_or b n empty_queue)
    each n h = by_count n (get_or a n empty_queue) ∙ ap (gives_with n) (same n h) ∙ sym (by_count n (get_or b n empty_queue))

    donors_by_lengths : donors_of active quiet bases targets rows a ≡ donors_of active quiet bases targets rows b
    donors_by_lengths = set_cong _ _ nodes_most (λ n h. ap (λ (x : Bool). has active n && x) (each n h))

-- ---- what is worked out from the parts of a state can be shared out, and is the plan of that state
module _ {c : Controller} {tree : Tree} {since : Virt} {was : ℕ} {before : List ℕ} {rows : List Row} {waiting : List ℕ}
    (sh : Shown c tree since was before rows waiting) where
  waiting_at : (n : ℕ) → n < nodes_most → get_or waiting n 0 ≡ (queue_at c n).len
  waiting_at n h = rw sh.counts (table_at (λ (k : ℕ). (queue_at c k).len) n 0 h)

  same_lengths : (n : ℕ) → n < nodes_most → (get_or (bare_queues waiting) n empty_queue).len ≡ (queue_at c n).len
  same_lengths n h = sym (bare_len waiting n empty_queue h) ∙ waiting_at n h

  module _ (quiet : Bool) {active : ℕ} (ea : active ≡ staying_of was quiet rows (bare_queues waiting)) where
    active_shown : active ≡ staying_of c.active quiet c.rows c.queues
    active_shown = ea ∙ rw (sh.same_active, sh.same_rows) (staying_by_lengths c.active quiet c.rows (bare_queues waiting) c.queues same_lengths)

    pub parts_within : SoundTree tree × Within tree active
    parts_within = rw sh.same_tree (still_within sh.sound quiet active_shown)

    module _ {donors : ℕ} {bases : List ℕ} (targets : List ℕ) (eb : bases ≡ base_shares tree active)
        (ed : donors ≡ donors_of active quiet bases targets rows (bare_queues waiting)) where
      bases_shown : bases ≡ base_shares c.tree active
      bases_shown = rw (← sh.same_tree) eb

      donors_shown : donors ≡ donors_of active quiet bases targets c.rows c.queues
      donors_shown = ed ∙ rw sh.same_rows (donors_by_lengths active quiet c.rows (bare_queues waiting) c.queues same_lengths bases targets)

      pub parts_can_share : CanShare active donors bases targets
      parts_can_share = can_share sh.sound quiet active_shown targets bases_shown donors_shown

      pub parts_plan : {usage : Abs} {shares : Sharing} {next : List Row} → usage ≡ usage_of rows → quiet ≡ is_quiet usage since
          → targets ≡ targets_of since rows → shares ≡ sharing_of active donors bases targets
          → next ≡ planned_rows quiet active before shares.shares rows
          → put_plan (record { active = active; donors = shares.donors; shares = shares.shares; rows = next }) c ≡ plan c
      parts_plan {usage} {shares} {next} eu eq et es er =
          is_plan_lem c {usage = usage} {clock = restarted_clock c.clock} (rw (← sh.same_rows) eu) (rw (← sh.same_since) eq) active_shown
          bases_shown (rw (← sh.same_since, ← sh.same_rows) et) donors_shown es (rw (← sh.same_shares, ← sh.same_rows) er) refl
