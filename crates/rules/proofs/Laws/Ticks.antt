-- A tick keeps the state sound, charges no more than what was saved and what came in, and loses nothing that waits or is owed.
-- Assumes nothing.
use Rattle.std.specs.Prelude.{◌≡◌, Bool, true, false, List, ℕ, ◌+◌, ◌*◌, ◌≤◌, ◌<◌, get_or, Err, Ok}
use Rattle.std.proofs.Math.Path.{refl, ap}
use Rattle.std.proofs.Common.{◌∙◌, mul-le-mul_left}
use native.Mathlib.Omega.{arith}
use Rattle.std.proofs.Math.ListN.{length}
use Rattle.rules.specs.Numbers.{whole, leaf_most}
use Rattle.rules.specs.Words.{sum_to, table_from, table, has}
use Rattle.rules.specs.Budget.{row_at, queue_at, share_at, empty_row, empty_queue}
use Rattle.rules.specs.Tick.{Turn, no_turn, growth, advanced, gained, repayment, turn, turn_of, releases, tick, waiting_all}
use Rattle.rules.specs.Refusals.{first_of, tick_checks}
use Rattle.rules.specs.Entries.{ticked, ticked_by}
use Rattle.rules.specs.Invariant.{worth_most, Sound, SoundClock, SoundRow, SoundQueue, IdleLeaf, FreeDonor, TickPasses}
use Rattle.rules.specs.Ledger.{Call, after, cost_of_first, ids_of_first, waiting, owed, if_accepted, released_at, repaid_at, issued, released, repaid, generated, charged, saved}
use Rattle.rules.proofs.Laws.Sums.{length_join, sum_cong, sum_le, sum_add, sum_none, sum_scale}
use Rattle.rules.proofs.Laws.Tables.{table_length, table_every}
use Rattle.rules.proofs.Laws.Rows.{turn_keeps, turn_row_sound, turn_flow}
use Rattle.rules.proofs.Laws.Passes.{tick_passes}
use Rattle.rules.proofs.Laws.Clocks.{left_over_is_below_100}
use Rattle.rules.proofs.Laws.States.{past_is_idle, row_past, queue_past, shares_at_most_whole, share_most, share_pos}
use Rattle.rules.specs.declared.units.Virt.{Virt}
use Rattle.rules.specs.declared.budget.Row.{Row}
use Rattle.rules.specs.declared.budget.Queue.{Queue}
use Rattle.rules.specs.declared.budget.Controller.{Controller}
use Rattle.rules.specs.Results.{Verdict}

-- ---- one leaf, active or not: x is what it repays and y what it releases
pub record LeafTick (g : Virt) (share x y : ℕ) (r : Row) (q : Queue) (t : Turn) : Type 0 where
  pub flow : (x + y) * whole + t.row.budget.0 * share ≤ r.budget.0 * share + g.0 * share
  pub usage : t.row.usage.0 ≡ r.usage.0 + (x + y)
  pub debt : t.row.debt.0 + x ≡ r.debt.0
  pub left : t.queue.len + length t.ids ≡ q.len
  pub ids : t.ids ≡ ids_of_first q (length t.ids)
  pub costs : cost_of_first q q.len ≡ y + cost_of_first t.queue t.queue.len
  pub row : SoundRow t.row
  pub queue : SoundQueue t.queue
  pub worth : t.row.budget.0 * share ≤ worth_most

same_leaf_tick : {g : Virt} {share x x' y y' : ℕ} {r : Row} {q : Queue} {t t' : Turn} → x ≡ x' → y ≡ y' → t ≡ t'
    → LeafTick g share x' y' r q t' → LeafTick g share x y r q t
same_leaf_tick a b d w = rw (a, b, d) w

-- what leaf n repays and releases
module _ (g : Virt) (c : Controller) (n : ℕ) where
  pub active_turn : has c.active n ≡ true → turn_of g c n ≡ turn g (share_at c n) (row_at c n) (queue_at c n)
  unfolding turn_of
  active_turn e = rw e

  pub active_repays : has c.active n ≡ true → repaid_at g c n ≡ (repayment (share_at c n) (gained g (row_at c n))).0
  unfolding repaid_at turn
  active_repays e = ap (λ (t : Turn). t.repaid.0) (active_turn e)

  pub active_releases : has c.active n ≡ true
      → released_at g c n ≡ cost_of_first (queue_at c n) (length (turn g (share_at c n) (row_at c n) (queue_at c n)).ids)
  unfolding released_at
  active_releases e = ap (λ (t : Turn). cost_of_first (queue_at c n) (length t.ids)) (active_turn e)

  pub idle_turn : has c.active n ≡ false → turn_of g c n ≡ no_turn (row_at c n) (queue_at c n)
  unfolding turn_of
  idle_turn e = rw e

  pub idle_repays : has c.active n ≡ false → repaid_at g c n ≡ 0
  unfolding repaid_at
  idle_repays e = ap (λ (t : Turn). t.repaid.0) (idle_turn e)

  pub idle_releases : has c.active n ≡ false → released_at g c n ≡ 0
  unfolding released_at cost_of_first
  idle_releases e = ap (λ (t : Turn). cost_of_first (queue_at c n) (length t.ids)) (idle_turn e)

active_leaf_tick : (g : Virt) (share : ℕ) (r : Row) (q : Queue) → 0 < share → share ≤ whole → SoundRow r → SoundQueue q
    → LeafTick g share (repayment share (gained g r)).0 (cost_of_first q (length (turn g share r q).ids)) r q (turn g share r q)
active_leaf_tick g share r q p s row queue =
    let k = turn_keeps g share r q p s queue in
    record {
      flow = turn_flow g share r q p s queue;
      usage = k.pays.usage;
      debt = k.debt;
      left = k.left;
      ids = k.ids;
      costs = k.costs;
      row = turn_row_sound g share r q p s queue row;
      queue = k.queue;
      worth = k.worth;
    }

idle_leaf_tick : (g : Virt) (share : ℕ) (r : Row) (q : Queue) → SoundRow r → SoundQueue q → r.budget.0 * share ≤ worth_most
    → LeafTick g share 0 0 r q (no_turn r q)
unfolding ids_of_first table_from
idle_leaf_tick g share r q row queue worth = record {
  flow = omega arith;
  usage = omega arith;
  debt = omega arith;
  left = omega arith;
  ids = refl;
  costs = omega arith;
  row = row;
  queue = queue;
  worth = worth;
}

-- what leaf n pays for in a tick
abbrev pub paid_at : Virt → Controller → ℕ → ℕ
paid_at g c n = released_at g c n + repaid_at g c n

module _ {c : Controller} (sound : Sound c) (g : Virt) where
  pub leaf_tick : (n : ℕ) → LeafTick g (share_at c n) (repaid_at g c n) (released_at g c n) (row_at c n) (queue_at c n) (turn_of g c n)
  leaf_tick n = go (has c.active n) refl
    where
      go : (t : Bool) → has c.active n ≡ t
          → LeafTick g (share_at c n) (repaid_at g c n) (released_at g c n) (row_at c n) (queue_at c n) (turn_of g c n)
      go true e =
          same_leaf_tick (active_repays g c n e) (active_releases g c n e) (active_turn g c n e)
          (active_leaf_tick g (share_at c n) (row_at c n) (queue_at c n) (share_pos sound n e) (share_most sound n) (sound.row n) (sound.queue n))
      go false e =
          same_leaf_tick (idle_repays g c n e) (idle_releases g c n e) (idle_turn g c n e)
          (idle_leaf_tick g (share_at c n) (row_at c n) (queue_at c n) (sound.row n) (sound.queue n) (sound.worth_at_most n))

  -- ---- at every place of the new state stands what the leaf's turn leaves
  pub turned_row : (n : ℕ) → get_or (table (λ k. (turn_of g c k).row)) n empty_row ≡ (turn_of g c n).row
  turned_row n =
      table_every (λ k. (turn_of g c k).row) empty_row
      (λ k l. ap (λ (t : Turn). t.row) (idle_turn g c k (past_is_idle sound k l)) ∙ row_past sound k l) n

  pub turned_queue : (n : ℕ) → get_or (table (λ k. (turn_of g c k).queue)) n empty_queue ≡ (turn_of g c n).queue
  turned_queue n =
      table_every (λ k. (turn_of g c k).queue) empty_queue
      (λ k l. ap (λ (t : Turn). t.queue) (idle_turn g c k (past_is_idle sound k l)) ∙ queue_past sound k l) n

  -- ---- no more is released than waits
  pub releases_most : length (releases g c) ≤ waiting_all c
  unfolding releases waiting_all
  releases_most =
      rw (length_join (λ n. (turn_of g c n).ids) leaf_most)
      (sum_le (λ n. length (turn_of g c n).ids) (λ n. (queue_at c n).len) leaf_most (λ n p l. omega (arith, (leaf_tick n).left)))

  -- ---- all leaves together: what is paid comes from what was saved and what came in
  all_flow : sum_to (paid_at g c) leaf_most * whole + sum_to (λ n. (turn_of g c n).row.budget.0 * share_at c n) leaf_most
      ≤ sum_to (λ n. (row_at c n).budget.0 * share_at c n) leaf_most + g.0 * whole
  all_flow =
      omega (
        arith,
        sum_le (λ n. whole * paid_at g c n + (turn_of g c n).row.budget.0 * share_at c n) (λ n. (row_at c n).budget.0 * share_at c n + g.0 * share_at c n) leaf_most
            (λ n p l. omega (arith, (leaf_tick n).flow)),
        sum_add (λ n. whole * paid_at g c n) (λ n. (turn_of g c n).row.budget.0 * share_at c n) leaf_most,
        sum_scale (paid_at g c) whole leaf_most,
        sum_add (λ n. (row_at c n).budget.0 * share_at c n) (λ n. g.0 * share_at c n) leaf_most,
        sum_scale (share_at c) g.0 leaf_most,
        mul-le-mul_left g.0 (shares_at_most_whole sound),
      )

  all_usage : sum_to (λ n. (turn_of g c n).row.usage.0) leaf_most ≡ sum_to (λ n. (row_at c n).usage.0) leaf_most + sum_to (paid_at g c) leaf_most
  all_usage =
      sum_cong (λ n. (turn_of g c n).row.usage.0) (λ n. (row_at c n).usage.0 + paid_at g c n) leaf_most (λ n p l. omega (arith, (leaf_tick n).usage))
      ∙ sum_add (λ n. (row_at c n).usage.0) (paid_at g c) leaf_most

-- ---- the state after a tick
-- what the tick brings each active leaf
abbrev gain : Controller → ℕ → Virt
gain c time = growth c.clock time

module _ {c : Controller} (sound : Sound c) (time : ℕ) where
  pub tick_row : (n : ℕ) → row_at (tick time c) n ≡ (turn_of (gain c time) c n).row
  unfolding tick
  tick_row n = turned_row sound (gain c time) n

  pub tick_queue : (n : ℕ) → queue_at (tick time c) n ≡ (turn_of (gain c time) c n).queue
  unfolding tick
  tick_queue n = turned_queue sound (gain c time) n

  tick_budgets : saved (tick time c) ≡ sum_to (λ n. (turn_of (gain c time) c n).row.budget.0 * share_at c n) leaf_most
  unfolding tick saved
  tick_budgets =
      sum_cong (λ n. (row_at (tick time c) n).budget.0 * share_at c n) (λ n. (turn_of (gain c time) c n).row.budget.0 * share_at c n) leaf_most
      (λ n p l. ap (λ (r : Row). r.budget.0 * share_at c n) (turned_row sound (gain c time) n))

  tick_usages : sum_to (λ n. (row_at (tick time c) n).usage.0) leaf_most ≡ sum_to (λ n. (turn_of (gain c time) c n).row.usage.0) leaf_most
  tick_usages =
      sum_cong (λ n. (row_at (tick time c) n).usage.0) (λ n. (turn_of (gain c time) c n).row.usage.0) leaf_most
      (λ n p l. ap (λ (r : Row). r.usage.0) (tick_row n))

  -- what the leaves repay and release is paid from what they had saved and what the tick brought
  pub tick_pays : sum_to (paid_at (gain c time) c) leaf_most * whole + saved (tick time c) ≤ saved c + (gain c time).0 * whole
  unfolding saved
  tick_pays = omega (arith, all_flow sound (gain c time), tick_budgets)

  -- what waits and is owed is what waited and was owed, less what is released and repaid
  pub tick_moves : (n : ℕ) → waiting (tick time c) n + owed (tick time c) n + released_at (gain c time) c n + repaid_at (gain c time) c n ≡ waiting c n + owed c n
  tick_moves n =
      let w = leaf_tick sound (gain c time) n in
      omega (
        arith,
        w.debt,
        w.costs,
        ap (λ (r : Row). r.debt.0) (tick_row n),
        ap (λ (q : Queue). cost_of_first q q.len) (tick_queue n),
      )

  clock_kept : (places : ℕ) → TickPasses time places c → SoundClock (advanced time c.clock)
  unfolding advanced
  clock_kept places passed = record {
    vrate_at_least = sound.clock.vrate_at_least;
    vrate_at_most = sound.clock.vrate_at_most;
    vtime_at_most = passed.vtime;
    since_at_most = passed.since;
    remainder_below = left_over_is_below_100 c.clock time;
  }

  donor_kept : (n : ℕ) → FreeDonor c n → FreeDonor (tick time c) n
  unfolding tick
  donor_kept n free =
      let w = leaf_tick sound (gain c time) n in
      record {
        active = free.active;
        no_debt = ap (λ (r : Row). r.debt.0) (turned_row sound (gain c time) n) ∙ omega (arith, w.debt, free.no_debt);
        no_waiter = ap (λ (q : Queue). q.len) (turned_queue sound (gain c time) n) ∙ omega (arith, w.left, free.no_waiter);
        gives = free.gives;
      }

  idle_kept : (n : ℕ) → has c.active n ≡ false → IdleLeaf (row_at (tick time c) n) (queue_at (tick time c) n)
  idle_kept n e =
      rw (tick_row n, tick_queue n, idle_turn (gain c time) c n e) (sound.idle n e)

  usage_kept : sum_to (λ n. (row_at (tick time c) n).usage.0) leaf_most * whole + saved (tick time c)
      ≤ (c.clock.since.0 + (gain c time).0) * whole + leaf_most * worth_most
  unfolding saved
  usage_kept = omega (arith, tick_usages, all_usage sound (gain c time), all_flow sound (gain c time), tick_budgets, sound.usage_at_most)

  -- the lent buffer has room for all that is released
  pub tick_releases_fit : (places : ℕ) → first_of (tick_checks time places c) ≡ Ok tt → length (releases (gain c time) c) ≤ places
  tick_releases_fit places e = omega (arith, releases_most sound (gain c time), (tick_passes time places c e).room)

  pub tick_keeps : (places : ℕ) → first_of (tick_checks time places c) ≡ Ok tt → Sound (tick time c)
  unfolding tick advanced saved
  tick_keeps places e = record {
    tree = sound.tree;
    thick = sound.thick;
    leaves = sound.leaves;
    model = sound.model;
    clock = clock_kept places (tick_passes time places c e);
    active_fits = sound.active_fits;
    donors_fit = sound.donors_fit;
    active = sound.active;
    donors = λ n d. donor_kept n (sound.donors n d);
    shares_all = sound.shares_all;
    share_at_floor = sound.share_at_floor;
    share_idle = sound.share_idle;
    share_sum = sound.share_sum;
    taker = sound.taker;
    no_donation = sound.no_donation;
    rows_all = table_length (λ n. (turn_of (gain c time) c n).row);
    queues_all = table_length (λ n. (turn_of (gain c time) c n).queue);
    row = λ n. rw (turned_row sound (gain c time) n) (leaf_tick sound (gain c time) n).row;
    queue = λ n. rw (turned_queue sound (gain c time) n) (leaf_tick sound (gain c time) n).queue;
    idle = λ n d. idle_kept n d;
    worth_at_most = λ n. rw (turned_row sound (gain c time) n) (leaf_tick sound (gain c time) n).worth;
    usage_at_most = usage_kept;
  }

-- ---- the call, accepted or refused
module _ {c : Controller} (sound : Sound c) (time : ℕ) (lent : List ℕ) where
  pub ticked_keeps : Sound (ticked time lent c).state
  unfolding ticked ticked_by
  ticked_keeps = go (first_of (tick_checks time (length lent) c)) refl
    where
      go : (v : Verdict) → first_of (tick_checks time (length lent) c) ≡ v → Sound (ticked_by v time c).state
      go (Ok tt) e = tick_keeps sound time (length lent) e
      go (Err x) e = sound

  -- what the call charges is paid from what was saved and from what it generates
  pub tick_flow : charged (Call.tick time lent) c * whole + saved (after (Call.tick time lent) c)
      ≤ saved c + generated (Call.tick time lent) c * whole
  unfolding charged issued released repaid generated ticked ticked_by
  tick_flow = go (first_of (tick_checks time (length lent) c))
    where
      go : (v : Verdict)
          → sum_to (λ n. 0 + if_accepted v (released_at (gain c time) c n) + if_accepted v (repaid_at (gain c time) c n)) leaf_most * whole
          + saved (ticked_by v time c).state
          ≤ saved c + if_accepted v (gain c time).0 * whole
      go (Ok tt) =
          omega (
            arith,
            tick_pays sound time,
            sum_cong (λ n. 0 + released_at (gain c time) c n + repaid_at (gain c time) c n) (paid_at (gain c time) c) leaf_most (λ n p l. omega arith),
          )
      go (Err x) = omega (arith, sum_none (λ n. 0 + 0 + 0) leaf_most (λ n p l. refl))

  -- what waits and what is owed, with what the call releases and repays, is what waited and was owed
  pub tick_books : (n : ℕ)
      → waiting (after (Call.tick time lent) c) n + owed (after (Call.tick time lent) c) n + released (Call.tick time lent) c n + repaid (Call.tick time lent) c n
      ≡ waiting c n + owed c n
  unfolding released repaid ticked ticked_by
  tick_books n = go (first_of (tick_checks time (length lent) c))
    where
      go : (v : Verdict)
          → waiting (ticked_by v time c).state n + owed (ticked_by v time c).state n
          + if_accepted v (released_at (gain c time) c n) + if_accepted v (repaid_at (gain c time) c n)
          ≡ waiting c n + owed c n
      go (Ok tt) = tick_moves sound time n
      go (Err x) = omega arith
