-- A plan: it keeps the invariant, adds nothing to what is saved, and forgives exactly what the rules say.
-- Assumes nothing.
use Rattle.std.specs.Prelude.{◌≡◌, refl, Bool, ◌&&◌, ◌||◌, List, ◌↔◌, ℕ, ◌+◌, ◌-◌, ◌*◌, ◌≤◌, ◌<◌, length, get_or, Err, Ok}
use Rattle.std.proofs.Math.Path.{ap}
use Rattle.std.proofs.Common.{◌∙◌, ⊎_elim, mul-le-mul_right, eq-zero-or-pos}
use Rattle.std.proofs.Math.Bool.{true, false, cond, not}
use Rattle.std.proofs.Math.Nat.{le_trans}
use native.Mathlib.Omega.{arith}
use Rattle.std.proofs.Math.Dec.{ltb}
use Rattle.std.proofs.Math.ListN.{get_or-eq_default}
use borrow.Author.Tests.{ne_eqb, ltb-true, not-true, lt-ltb, le-ltb}
use Rattle.rules.specs.Numbers.{whole, nodes_most, leaf_most, share_floor}
use Rattle.rules.specs.Words.{sum_to, has, no_node}
use Rattle.rules.specs.Units.{abs, floor_of}
use Rattle.rules.specs.Tree.{base_shares}
use Rattle.rules.specs.Budget.{empty_row, row_at, queue_at, share_at, with_debt, owes, waits, reshared}
use Rattle.rules.specs.Plan.{usage_all, is_quiet, forgiveness, forgiven, stays, rested, target_of, is_donor, is_donation, donated, restarted, quiet_in, active_after, targets_in, donors_in, closed, shared, plan}
use Rattle.rules.specs.Refusals.{first_of, plan_checks}
use Rattle.rules.specs.Entries.{planned_by, planned}
use Rattle.rules.specs.Invariant.{worth_most, SoundRow, IdleLeaf, Sound, Within}
use Rattle.rules.specs.Ledger.{Call, after, waiting, owed, if_accepted, forgiven_at, issued, released, repaid, generated, charged, saved}
use Rattle.rules.specs.Ledger
use Rattle.rules.proofs.Laws.Bools.{true_not_false, is_false, and_left, and_right, and_not_right, or_neither, or_not_left, or_not_right}
use Rattle.rules.proofs.Laws.Sums.{sum_le, sum_none, sum_bound}
use Rattle.rules.proofs.Laws.Tables.{table_length, table_at, table_every}
use Rattle.rules.proofs.Laws.Sets.{has_none, has_set_of, set_small, set_of_in}
use Rattle.rules.proofs.Laws.Answers.{owes_nothing, waits_for_nothing}
use Rattle.rules.proofs.Laws.Resharing.{set_stranger, reshared_row, resharing_saves_nothing, followed, SoundShares, SoundRoles, SoundBooks, books_of, resharing_keeps, active_node, base_shares_are_sound, donated_shares_are_sound}
use Rattle.rules.specs.declared.budget.Row.{Row}
use Rattle.rules.specs.declared.budget.Queue.{Queue}
use Rattle.rules.specs.declared.budget.Controller.{Controller}
use Rattle.rules.specs.Results.{Verdict}

-- ---- steps 1, 2 and 5 on one row
abbrev closed_row : Bool → Bool → Row → Row
closed_row quiet stay r = restarted (rested stay (forgiven quiet r))

module _ (quiet : Bool) (r : Row) where
  pub forgiven_within_debt : (forgiveness quiet r.debt).0 ≤ r.debt.0
  unfolding forgiveness
  forgiven_within_debt = go quiet
    where
      go : (b : Bool) → cond b (floor_of r.debt.0 2) 0 ≤ r.debt.0
      go true = omega arith
      go false = omega arith

  -- FLOOR (d / 2) of a debt is less than it
  pub debt_never_cleared : 0 < r.debt.0 → (forgiveness quiet r.debt).0 < r.debt.0
  unfolding forgiveness
  debt_never_cleared p = go quiet
    where
      go : (b : Bool) → cond b (floor_of r.debt.0 2) 0 < r.debt.0
      go true = omega arith
      go false = omega arith

  closed_budget : (stay : Bool) → (closed_row quiet stay r).budget.0 ≤ r.budget.0
  closed_budget true = omega arith
  closed_budget false = omega arith

  closed_debt : (stay : Bool) → (closed_row quiet stay r).debt.0 ≡ r.debt.0 - (forgiveness quiet r.debt).0
  closed_debt true = refl
  closed_debt false = refl

  closed_end : (stay : Bool) → (closed_row quiet stay r).end ≡ r.end
  closed_end true = refl
  closed_end false = refl

  closed_usage : (stay : Bool) → (closed_row quiet stay r).usage.0 ≡ 0
  closed_usage true = refl
  closed_usage false = refl

  closed_sound : (stay : Bool) → SoundRow r → SoundRow (closed_row quiet stay r)
  closed_sound stay s = record {
    debt_at_most = omega (arith, closed_debt stay, s.debt_at_most);
    end_at_most = rw (closed_end stay) s.end_at_most;
  }

closed_empty : (quiet stay : Bool) → closed_row quiet stay empty_row ≡ empty_row
closed_empty quiet stay = go stay (let e : 0 - (forgiveness quiet (abs 0)).0 ≡ 0 = omega arith in e)
  where
    go : (b : Bool) → 0 - (forgiveness quiet (abs 0)).0 ≡ 0 → closed_row quiet b empty_row ≡ empty_row
    go true e = ap (λ (x : ℕ). with_debt (abs x) empty_row) e
    go false e = ap (λ (x : ℕ). with_debt (abs x) empty_row) e

-- ---- the books once they are closed
module _ (quiet : Bool) (active : ℕ) (c : Controller) where
  closed_row_lem : length c.rows ≡ nodes_most → (n : ℕ) → row_at (closed quiet active c) n ≡ closed_row quiet (has active n) (row_at c n)
  unfolding closed
  closed_row_lem all =
      table_every (λ n. closed_row quiet (has active n) (row_at c n)) empty_row
      (λ n l.
      let empty : row_at c n ≡ empty_row = get_or-eq_default c.rows empty_row (omega arith) in
      rw empty (closed_empty quiet (has active n)))

  closed_saves_nothing : length c.rows ≡ nodes_most → saved (closed quiet active c) ≤ saved c
  unfolding saved closed
  closed_saves_nothing all =
      sum_le _ _ leaf_most (λ n p q.
      rw (closed_row_lem all n) (mul-le-mul_right (share_at c n) (closed_budget quiet (row_at c n) (has active n))))

  pub closed_worth : length c.rows ≡ nodes_most → (n : ℕ)
      → (row_at (closed quiet active c) n).budget.0 * share_at c n ≤ (row_at c n).budget.0 * share_at c n
  closed_worth all n = rw (closed_row_lem all n) (mul-le-mul_right (share_at c n) (closed_budget quiet (row_at c n) (has active n)))

  closed_usage_none : length c.rows ≡ nodes_most → sum_to (λ n. (row_at (closed quiet active c) n).usage.0) leaf_most ≡ 0
  closed_usage_none all =
      sum_none _ leaf_most (λ n p q.
      ap (λ (r : Row). r.usage.0) (closed_row_lem all n) ∙ closed_usage quiet (row_at c n) (has active n))

  closed_saved_most : SoundBooks c → saved (closed quiet active c) ≤ leaf_most * worth_most
  unfolding saved closed
  closed_saved_most b = sum_bound _ worth_most leaf_most (λ n p q. le_trans (closed_worth b.rows_all n) (b.worth_at_most n))

  closed_books : SoundBooks c → SoundBooks (closed quiet active c)
  unfolding closed
  closed_books b = record {
    tree = b.tree;
    thick = b.thick;
    leaves = b.leaves;
    model = b.model;
    clock = record {
      vrate_at_least = b.clock.vrate_at_least;
      vrate_at_most = b.clock.vrate_at_most;
      vtime_at_most = b.clock.vtime_at_most;
      since_at_most = omega arith;
      remainder_below = b.clock.remainder_below;
    };
    rows_all = table_length (λ n. closed_row quiet (has active n) (row_at c n));
    queues_all = b.queues_all;
    row = λ n. rw (closed_row_lem b.rows_all n) (closed_sound quiet (row_at c n) (has active n) (b.row n));
    queue = b.queue;
    worth_at_most = λ n. le_trans (closed_worth b.rows_all n) (b.worth_at_most n);
    usage_at_most = omega (arith, closed_usage_none b.rows_all, closed_saved_most b);
  }

-- ---- who is active and who donates after the plan
module _ {c : Controller} (s : Sound c) (quiet : Bool) where
  stays_active : (n : ℕ) → has (active_after quiet c) n ≡ true → has c.active n ≡ true
  unfolding active_after
  stays_active n e =
      and_left (has c.active n) (stays (forgiven quiet (row_at c n)) (queue_at c n))
      (set_of_in (λ k. has c.active k && stays (forgiven quiet (row_at c k)) (queue_at c k)) n e)

  pub after_within : Within c.tree (active_after quiet c)
  after_within n e = s.active n (stays_active n e)

  was_node : (n : ℕ) → has c.active n ≡ true → n < nodes_most
  was_node n e = active_node s.tree c.active s.active n e

  leaves : (n : ℕ) → has c.active n ≡ true → has (active_after quiet c) n ≡ false → stays (forgiven quiet (row_at c n)) (queue_at c n) ≡ false
  unfolding active_after
  leaves n e f = rw e at (set_stranger (λ k. has c.active k && stays (forgiven quiet (row_at c k)) (queue_at c k)) n (was_node n e) f)

  -- a leaf that is not active once the plan is over
  idle_after : (n : ℕ) → has (active_after quiet c) n ≡ false → IdleLeaf (closed_row quiet false (row_at c n)) (queue_at c n)
  idle_after n e = go (has c.active n) refl
    where
      go : (b : Bool) → has c.active n ≡ b → IdleLeaf (closed_row quiet false (row_at c n)) (queue_at c n)
      go true f =
          let out : stays (forgiven quiet (row_at c n)) (queue_at c n) ≡ false = leaves n f e in
          let none_accepted : ((row_at c n).accepted || waits (queue_at c n)) ≡ false = or_not_left ((row_at c n).accepted || waits (queue_at c n)) (owes (forgiven quiet (row_at c n))) out in
          record {
            no_budget = refl;
            no_debt =
                (owes_nothing (forgiven quiet (row_at c n))).0
                (or_not_right ((row_at c n).accepted || waits (queue_at c n)) (owes (forgiven quiet (row_at c n))) out);
            no_waiter = (waits_for_nothing (queue_at c n)).0 (or_not_right (row_at c n).accepted (waits (queue_at c n)) none_accepted);
          }
      go false f = record {
        no_budget = refl;
        no_debt = omega (arith, (s.idle n f).no_debt);
        no_waiter = (s.idle n f).no_waiter;
      }

  after_idle : (n : ℕ) → has (active_after quiet c) n ≡ false
      → IdleLeaf (row_at (closed quiet (active_after quiet c) c) n) (queue_at (closed quiet (active_after quiet c) c) n)
  unfolding closed
  after_idle n e = rw (closed_row_lem quiet (active_after quiet c) c s.rows_all n, e) (idle_after n e)

  module _ (bases targets : List ℕ) where
    donor_test : (n : ℕ) → has (donors_in quiet (active_after quiet c) bases targets c) n ≡ true
        → (has (active_after quiet c) n && is_donor (get_or targets n 0) (get_or bases n 0) (forgiven quiet (row_at c n)) (queue_at c n)) ≡ true
    unfolding donors_in
    donor_test n e =
        set_of_in (λ k. has (active_after quiet c) k && is_donor (get_or targets k 0) (get_or bases k 0) (forgiven quiet (row_at c k)) (queue_at c k)) n e

    pub donor_active : (n : ℕ) → has (donors_in quiet (active_after quiet c) bases targets c) n ≡ true → has (active_after quiet c) n ≡ true
    donor_active n e =
        and_left (has (active_after quiet c) n) (is_donor (get_or targets n 0) (get_or bases n 0) (forgiven quiet (row_at c n)) (queue_at c n)) (donor_test n e)

    pub donor_is : (n : ℕ) → has (donors_in quiet (active_after quiet c) bases targets c) n ≡ true
        → (owes (forgiven quiet (row_at c n)) ≡ false) × (waits (queue_at c n) ≡ false) × (get_or targets n 0 < get_or bases n 0)
    unfolding is_donor
    donor_is n e =
        let r : Row = forgiven quiet (row_at c n) in
        let q : Queue = queue_at c n in
        let t : (not (owes r) && not (waits q) && ltb (get_or targets n 0) (get_or bases n 0)) ≡ true =
        and_right (has (active_after quiet c) n) (not (owes r) && not (waits q) && ltb (get_or targets n 0) (get_or bases n 0)) (donor_test n e) in
        let u : (not (owes r) && not (waits q)) ≡ true = and_left (not (owes r) && not (waits q)) (ltb (get_or targets n 0) (get_or bases n 0)) t in (
          not-true (owes r) (and_left (not (owes r)) (not (waits q)) u),
          not-true (waits q) (and_right (not (owes r)) (not (waits q)) u),
          ltb-true (get_or targets n 0) (get_or bases n 0) (and_right (not (owes r) && not (waits q)) (ltb (get_or targets n 0) (get_or bases n 0)) t),
        )

-- ---- a plan reshares the closed books
abbrev pub active_then : Controller → ℕ
active_then c = active_after (quiet_in c) c

abbrev bases_then : Controller → List ℕ
bases_then c = base_shares c.tree (active_then c)

abbrev candidates : Controller → ℕ
candidates c = donors_in (quiet_in c) (active_then c) (bases_then c) (targets_in c) c

abbrev donates : Controller → Bool
donates c = is_donation (active_then c) (candidates c)

abbrev donors_then : Bool → Controller → ℕ
donors_then b c = cond b (candidates c) no_node

abbrev shares_then : Bool → Controller → List ℕ
shares_then b c = cond b (donated (active_then c) (candidates c) (bases_then c) (targets_in c)) (bases_then c)

abbrev books_then : Controller → Controller
books_then c = closed (quiet_in c) (active_then c) c

abbrev plan_as : Bool → Controller → Controller
plan_as b c = reshared (active_then c) (donors_then b c) (shares_then b c) (books_then c)

plan_reshares : (c : Controller) → plan c ≡ plan_as (donates c) c
unfolding plan shared
plan_reshares c = go (donates c)
  where
    go : (b : Bool) → cond b (reshared (active_then c) (candidates c) (donated (active_then c) (candidates c) (bases_then c) (targets_in c)) (books_then c))
        (reshared (active_then c) no_node (bases_then c) (books_then c))
        ≡ plan_as b c
    go true = refl
    go false = refl

target_enough : (c : Controller) (n : ℕ) → n < nodes_most → share_floor ≤ get_or (targets_in c) n 0
unfolding targets_in target_of
target_enough c n l = rw (table_at (λ k. target_of c.clock.since (row_at c k).usage) n 0 l) (omega arith)

module _ {c : Controller} (s : Sound c) where
  roles_then : (b : Bool) → SoundRoles (books_then c) (active_then c) (donors_then b c)
  unfolding closed active_after donors_in
  roles_then true = record {
    active_fits = set_small _ nodes_most;
    donors_fit = set_small _ nodes_most;
    leaves = after_within s (quiet_in c);
    donors_active = donor_active s (quiet_in c) (bases_then c) (targets_in c);
    donors_free = λ n e.
        rw (closed_row_lem (quiet_in c) (active_then c) c s.rows_all n)
        (record {
          no_debt =
              closed_debt (quiet_in c) (row_at c n) (has (active_then c) n)
              ∙ (owes_nothing (forgiven (quiet_in c) (row_at c n))).0 (donor_is s (quiet_in c) (bases_then c) (targets_in c) n e).0;
          no_waiter = (waits_for_nothing (queue_at c n)).0 (donor_is s (quiet_in c) (bases_then c) (targets_in c) n e).1;
        });
    idle = after_idle s (quiet_in c);
  }
  roles_then false = record {
    active_fits = set_small _ nodes_most;
    donors_fit = omega arith;
    leaves = after_within s (quiet_in c);
    donors_active = λ n e. absurd (true_not_false e (has_none n));
    donors_free = λ n e. absurd (true_not_false e (has_none n));
    idle = after_idle s (quiet_in c);
  }

  shares_then_lem : (b : Bool) → donates c ≡ b → SoundShares c.tree (active_then c) (donors_then b c) (shares_then b c)
  shares_then_lem true e =
      donated_shares_are_sound s.tree (active_then c) (after_within s (quiet_in c)) s.thick (candidates c) (targets_in c)
      (donor_active s (quiet_in c) (bases_then c) (targets_in c))
      (λ n d.
      target_enough c n
      (active_node s.tree (active_then c) (after_within s (quiet_in c)) n (donor_active s (quiet_in c) (bases_then c) (targets_in c) n d)))
      (λ n d. (donor_is s (quiet_in c) (bases_then c) (targets_in c) n d).2)
      e
  shares_then_lem false e = base_shares_are_sound s.tree (active_then c) (after_within s (quiet_in c)) s.thick

  books_then_lem : SoundBooks (books_then c)
  books_then_lem = closed_books (quiet_in c) (active_then c) c (books_of s)

  -- ---- a plan keeps the invariant
  plan_as_keeps : (b : Bool) → donates c ≡ b → Sound (plan_as b c)
  unfolding closed
  plan_as_keeps b e = resharing_keeps books_then_lem (active_then c) (donors_then b c) (shares_then b c) (roles_then b) (shares_then_lem b e)

  pub plan_keeps : Sound (plan c)
  plan_keeps = rw (plan_reshares c) (plan_as_keeps (donates c) refl)

  pub planned_keeps : Sound (planned c).state
  unfolding planned planned_by
  planned_keeps = go (first_of (plan_checks c))
    where
      go : (v : Verdict) → Sound (planned_by v c).state
      go (Ok tt) = plan_keeps
      go (Err x) = s

  -- ---- what a plan leaves of each leaf
  plan_row : (n : ℕ)
      → row_at (plan c) n ≡ followed (books_then c) (shares_then (donates c) c) n
  plan_row n = rw (plan_reshares c) (reshared_row (active_then c) (donors_then (donates c) c) (shares_then (donates c) c) (books_then c) books_then_lem.rows_all n)

  pub plan_keeps_queues : (n : ℕ) → queue_at (plan c) n ≡ queue_at c n
  unfolding reshared closed
  plan_keeps_queues n = rw (plan_reshares c)

  pub plan_active : (plan c).active ≡ active_then c
  unfolding reshared
  plan_active = rw (plan_reshares c)

  -- "each debt d becomes d - FLOOR(d / 2)", or stays
  pub plan_debt : (n : ℕ) → (row_at (plan c) n).debt.0 ≡ (row_at c n).debt.0 - (forgiveness (quiet_in c) (row_at c n).debt).0
  plan_debt n =
      rw (plan_row n, closed_row_lem (quiet_in c) (active_then c) c s.rows_all n) (closed_debt (quiet_in c) (row_at c n) (has (active_then c) n))

  plan_saves_nothing : saved (plan c) ≤ saved c
  plan_saves_nothing =
      rw (plan_reshares c)
      (le_trans (resharing_saves_nothing (active_then c) (donors_then (donates c) c) (shares_then (donates c) c) (books_then c) books_then_lem.rows_all)
      (closed_saves_nothing (quiet_in c) (active_then c) c s.rows_all))

  -- ---- what a plan adds to the ledger
  planned_saves_nothing : saved (planned c).state ≤ saved c
  unfolding planned planned_by
  planned_saves_nothing = go (first_of (plan_checks c))
    where
      go : (v : Verdict) → saved (planned_by v c).state ≤ saved c
      go (Ok tt) = plan_saves_nothing
      go (Err x) = omega arith

  pub plan_flow : charged Call.plan c * whole + saved (after Call.plan c) ≤ saved c + generated Call.plan c * whole
  unfolding charged issued released repaid generated
  plan_flow = omega (arith, planned_saves_nothing, sum_none (λ n. 0 + 0 + 0) leaf_most (λ n p q. refl))

  pub plan_books : (n : ℕ) → waiting (after Call.plan c) n + owed (after Call.plan c) n + Ledger.forgiven Call.plan c n ≡ waiting c n + owed c n
  unfolding planned planned_by Ledger.forgiven forgiven_at
  plan_books n = go (first_of (plan_checks c))
    where
      go : (v : Verdict)
          → waiting (planned_by v c).state n + owed (planned_by v c).state n + if_accepted v (forgiveness (quiet_in c) (row_at c n).debt).0
          ≡ waiting c n + owed c n
      go (Ok tt) = rw (plan_keeps_queues n) (omega (arith, plan_debt n, forgiven_within_debt (quiet_in c) (row_at c n)))
      go (Err x) = omega arith

  -- ---- demand 2: what is forgiven, and who goes inactive
  pub an_accepted_plan_plans : first_of (plan_checks c) ≡ Ok tt → (planned c).state ≡ plan c
  unfolding planned planned_by
  an_accepted_plan_plans e = ap (λ (v : Verdict). (planned_by v c).state) e

  -- "If twice the usage of all leaves is below E": then time has passed, and the plan is not refused
  quiet_is_accepted : 2 * (usage_all c).0 < c.clock.since.0 → first_of (plan_checks c) ≡ Ok tt
  unfolding plan_checks
  quiet_is_accepted h = rw (ne_eqb c.clock.since.0 0 (λ z. omega arith))

  pub half_of_a_debt_is_forgiven_when_quiet : 2 * (usage_all c).0 < c.clock.since.0 → (n : ℕ)
      → (Ledger.forgiven Call.plan c n ≡ floor_of (row_at c n).debt.0 2)
      × ((row_at (planned c).state n).debt.0 ≡ (row_at c n).debt.0 - floor_of (row_at c n).debt.0 2)
  unfolding Ledger.forgiven forgiven_at quiet_in is_quiet forgiveness
  half_of_a_debt_is_forgiven_when_quiet h n =
      let quiet : ltb (2 * (usage_all c).0) c.clock.since.0 ≡ true = lt-ltb _ _ h in
      (rw (quiet_is_accepted h, quiet), rw (an_accepted_plan_plans (quiet_is_accepted h)) (rw quiet at (plan_debt n)))

  -- "Halving debt when the device was busy" must not slip through
  pub nothing_is_forgiven_when_busy : c.clock.since.0 ≤ 2 * (usage_all c).0 → (n : ℕ)
      → (Ledger.forgiven Call.plan c n ≡ 0) × ((row_at (planned c).state n).debt.0 ≡ (row_at c n).debt.0)
  unfolding Ledger.forgiven forgiven_at quiet_in is_quiet forgiveness planned planned_by
  nothing_is_forgiven_when_busy h n = go (first_of (plan_checks c))
    where
      busy : ltb (2 * (usage_all c).0) c.clock.since.0 ≡ false
      busy = le-ltb _ _ h

      go : (v : Verdict)
          → (if_accepted v (cond (ltb (2 * (usage_all c).0) c.clock.since.0) (floor_of (row_at c n).debt.0 2) 0) ≡ 0)
          × ((row_at (planned_by v c).state n).debt.0 ≡ (row_at c n).debt.0)
      go (Ok tt) = (rw busy, omega (arith, rw busy at (plan_debt n)))
      go (Err x) = (refl, refl)

  pub no_plan_clears_a_debt : (n : ℕ) → 0 < (row_at c n).debt.0 → 0 < (row_at (plan c) n).debt.0
  no_plan_clears_a_debt n p = omega (arith, plan_debt n, debt_never_cleared (quiet_in c) (row_at c n) p)

  pub a_leaf_goes_inactive_exactly_when : (n : ℕ) → has c.active n ≡ true
      → (has (plan c).active n ≡ false) ↔ (((row_at c n).accepted ≡ false) × ((queue_at c n).len ≡ 0) × ((row_at c n).debt.0 ≡ 0))
  unfolding active_after
  a_leaf_goes_inactive_exactly_when n e = (λ out. there (rw plan_active at out), λ w. rw plan_active (back w.0 w.1 w.2))
    where
      r : Row
      r = row_at c n

      q : Queue
      q = queue_at c n

      there : has (active_then c) n ≡ false → (r.accepted ≡ false) × (q.len ≡ 0) × (r.debt.0 ≡ 0)
      there out =
          let no : stays (forgiven (quiet_in c) r) q ≡ false = leaves s (quiet_in c) n e out in
          let still : (r.accepted || waits q) ≡ false = or_not_left (r.accepted || waits q) (owes (forgiven (quiet_in c) r)) no in
          let left : r.debt.0 - (forgiveness (quiet_in c) r.debt).0 ≡ 0 =
          (owes_nothing (forgiven (quiet_in c) r)).0 (or_not_right (r.accepted || waits q) (owes (forgiven (quiet_in c) r)) no) in (
            or_not_left r.accepted (waits q) still,
            (waits_for_nothing q).0 (or_not_right r.accepted (waits q) still),
            ⊎_elim
                (λ (z : r.debt.0 ≡ 0). z)
                (λ (p : 0 < r.debt.0). absurd (omega (arith, left, debt_never_cleared (quiet_in c) r p)))
                (eq-zero-or-pos r.debt.0),
          )

      back : r.accepted ≡ false → q.len ≡ 0 → r.debt.0 ≡ 0 → has (active_then c) n ≡ false
      back a w d =
          has_set_of (λ k. has c.active k && stays (forgiven (quiet_in c) (row_at c k)) (queue_at c k)) n (was_node s (quiet_in c) n e)
          ∙ and_not_right (has c.active n) (stays (forgiven (quiet_in c) r) q)
          (or_neither (r.accepted || waits q) (owes (forgiven (quiet_in c) r)) (or_neither r.accepted (waits q) a ((waits_for_nothing q).1 w))
          ((owes_nothing (forgiven (quiet_in c) r)).1 (omega arith)))

  pub no_plan_wakes_a_leaf : (n : ℕ) → has c.active n ≡ false → has (plan c).active n ≡ false
  no_plan_wakes_a_leaf n e = is_false (has (plan c).active n) (λ t. true_not_false (stays_active s (quiet_in c) n (rw plan_active at t)) e)
