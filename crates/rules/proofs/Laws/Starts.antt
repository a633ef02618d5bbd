-- Start gives a sound state, accepted or refused; another clock keeps one.
-- Assumes nothing.
use Rattle.std.specs.Prelude.{◌≡◌, refl, true, false, ℕ, ◌+◌, ◌*◌, replicate, Err, Ok}
use Rattle.std.proofs.Math.Path.{sym}
use Rattle.std.proofs.Common.{ap, ◌∙◌, arith}
use Rattle.std.proofs.Math.ListN.{get_or}
use Rattle.std.proofs.lemmas.List.{length-replicate}
use Rattle.rules.specs.Numbers.{nodes_most, leaf_most, queue_room}
use Rattle.rules.specs.Words.{any_to, has, no_node}
use Rattle.rules.specs.Units.{abs}
use Rattle.rules.specs.Cost.{rates_in_range, priced}
use Rattle.rules.specs.Tree.{last, base_share, base_shares, is_thin}
use Rattle.rules.specs.Budget.{fresh, row_at, queue_at, share_at, with_clock, empty_row, empty_queue, with_rate}
use Rattle.rules.specs.Plan.{with_vrate}
use Rattle.rules.specs.Refusals.{first_of, start_checks, vrate_checks}
use Rattle.rules.specs.Entries.{no_tree, slowest_model, slowest, started, started_by, vrated, vrated_by}
use Rattle.rules.specs.Invariant.{Sound, PricedModel, SoundClock, SoundRow, SoundQueue, SoundTree}
use Rattle.rules.specs.Ledger.{cost_of_first, waiting, owed, saved}
use Rattle.rules.proofs.Laws.Bools.{true_not_false}
use Rattle.rules.proofs.Laws.Sums.{sum_none}
use Rattle.rules.proofs.Laws.Tables.{replicate_every, table_back, table_cong}
use Rattle.rules.proofs.Laws.Sets.{has_none}
use Rattle.rules.proofs.Laws.Trees.{sound_tree, sound_from_nodes}
use Rattle.rules.proofs.Laws.Shares.{no_base_share}
use Rattle.rules.proofs.Laws.Passes.{start_passes, vrate_passes}
use Rattle.rules.specs.declared.cost.Rates.{Rates}
use Rattle.rules.specs.declared.cost.Model.{Model}
use Rattle.rules.specs.declared.tree.Tree.{Tree}
use Rattle.rules.specs.declared.budget.Row.{Row}
use Rattle.rules.specs.declared.budget.Clock.{Clock}
use Rattle.rules.specs.declared.budget.Controller.{Controller}
use Rattle.rules.specs.Results.{Verdict}

-- ---- the fresh state
pub empty_queue_sound : SoundQueue empty_queue
empty_queue_sound = record {
  ids_all = refl;
  costs_all = refl;
  head_in = omega arith;
  len_most = omega arith;
  cost_at_most = λ i. rw (replicate_every queue_room i (abs 0)) (omega arith);
}

pub empty_row_sound : SoundRow empty_row
empty_row_sound = record { debt_at_most = omega arith; end_at_most = omega arith }

nobody : {P : Type 0} (n : ℕ) → has no_node n ≡ true → P
nobody n e = absurd (true_not_false e (has_none n))

module _ (t : Tree) (m : Model) (time : ℕ) where
  fresh_row : (n : ℕ) → row_at (fresh t m time) n ≡ empty_row
  fresh_row n = replicate_every nodes_most n empty_row

  fresh_queue : (n : ℕ) → queue_at (fresh t m time) n ≡ empty_queue
  fresh_queue n = replicate_every nodes_most n empty_queue

  fresh_share : (n : ℕ) → share_at (fresh t m time) n ≡ 0
  fresh_share n = replicate_every nodes_most n 0

  fresh_worth : (n : ℕ) → (row_at (fresh t m time) n).budget.0 * share_at (fresh t m time) n ≡ 0
  fresh_worth n = rw (fresh_row n, fresh_share n)

  fresh_base : (n : ℕ) → base_share t no_node n ≡ 0
  fresh_base n = no_base_share t no_node n (has_none n)

  fresh_shares : replicate nodes_most 0 ≡ base_shares t no_node
  unfolding base_shares
  fresh_shares =
      table_back (replicate nodes_most 0) 0 (length-replicate {A = ℕ} nodes_most 0)
      ∙ table_cong (λ n. get_or (replicate nodes_most 0) n 0) (base_share t no_node) (λ n l. fresh_share n ∙ sym (fresh_base n))

  pub fresh_sound : SoundTree t → is_thin t ≡ false → PricedModel m → Sound (fresh t m time)
  fresh_sound tree thick model = record {
    tree = tree;
    thick = thick;
    leaves = refl;
    model = model;
    clock = record {
      vrate_at_least = omega arith;
      vrate_at_most = omega arith;
      vtime_at_most = omega arith;
      since_at_most = omega arith;
      remainder_below = omega arith;
    };
    active_fits = omega arith;
    donors_fit = omega arith;
    active = λ n e. nobody n e;
    donors = λ n e. nobody n e;
    shares_all = length-replicate {A = ℕ} nodes_most 0;
    share_at_floor = λ n e. nobody n e;
    share_idle = λ n e. fresh_share n;
    share_sum =
        sum_none (share_at (fresh t m time)) leaf_most (λ n p l. fresh_share n)
        ∙ sym (sum_none (base_share t no_node) leaf_most (λ n p l. fresh_base n));
    taker = λ n e d. nobody n e;
    no_donation = λ e. fresh_shares;
    rows_all = length-replicate nodes_most empty_row;
    queues_all = length-replicate nodes_most empty_queue;
    row = λ n. rw (fresh_row n) empty_row_sound;
    queue = λ n. rw (fresh_queue n) empty_queue_sound;
    idle = λ n e. rw (fresh_row n, fresh_queue n) (record { no_budget = refl; no_debt = refl; no_waiter = refl });
    worth_at_most = λ n. omega (arith, fresh_worth n);
    usage_at_most =
        omega (
          arith,
          sum_none (λ n. (row_at (fresh t m time) n).usage.0) leaf_most (λ n p l. ap (λ (r : Row). r.usage.0) (fresh_row n)),
          sum_none (λ n. (row_at (fresh t m time) n).budget.0 * share_at (fresh t m time) n) leaf_most (λ n p l. fresh_worth n),
        );
  }

  -- nothing is saved, nothing waits and nothing is owed yet
  fresh_saves_nothing : saved (fresh t m time) ≡ 0
  unfolding saved
  fresh_saves_nothing = sum_none (λ n. (row_at (fresh t m time) n).budget.0 * share_at (fresh t m time) n) leaf_most (λ n p l. fresh_worth n)

  fresh_owes_nothing : (n : ℕ) → waiting (fresh t m time) n + owed (fresh t m time) n ≡ 0
  unfolding cost_of_first
  fresh_owes_nothing n = rw (fresh_row n, fresh_queue n)

-- ---- start
no_tree_sound : SoundTree no_tree
unfolding last
no_tree_sound = sound_from_nodes no_tree (omega arith) (λ n p l. absurd (omega arith))

no_tree_thick : is_thin no_tree ≡ false
unfolding is_thin last any_to
no_tree_thick = refl

slowest_valid : rates_in_range slowest ≡ true
unfolding rates_in_range
slowest_valid = refl

pub start_gives : (t : Tree) (r : Rates) (time : ℕ) → Sound (started t r time).state
unfolding started started_by
start_gives t r time = go (first_of (start_checks t r)) refl
  where
    go : (v : Verdict) → first_of (start_checks t r) ≡ v → Sound (started_by v t r time).state
    go (Ok tt) e =
        let w = start_passes t r e in
        fresh_sound t (priced r) time (sound_tree t w.tree) w.thick (record { rates = r; valid = w.rates; same = refl })
    go (Err x) e =
        fresh_sound no_tree slowest_model 0 no_tree_sound no_tree_thick (record { rates = slowest; valid = slowest_valid; same = refl })

pub start_saves_nothing : (t : Tree) (r : Rates) (time : ℕ) → saved (started t r time).state ≡ 0
unfolding started started_by
start_saves_nothing t r time = go (first_of (start_checks t r))
  where
    go : (v : Verdict) → saved (started_by v t r time).state ≡ 0
    go (Ok tt) = fresh_saves_nothing t (priced r) time
    go (Err x) = fresh_saves_nothing no_tree slowest_model 0

pub start_owes_nothing : (t : Tree) (r : Rates) (time n : ℕ) → waiting (started t r time).state n + owed (started t r time).state n ≡ 0
unfolding started started_by
start_owes_nothing t r time n = go (first_of (start_checks t r))
  where
    go : (v : Verdict) → waiting (started_by v t r time).state n + owed (started_by v t r time).state n ≡ 0
    go (Ok tt) = fresh_owes_nothing t (priced r) time n
    go (Err x) = fresh_owes_nothing no_tree slowest_model 0 n

-- ---- another clock with the same E, such as another vrate's
pub clock_keeps : {c : Controller} → Sound c → (k : Clock) → SoundClock k → k.since ≡ c.clock.since → Sound (with_clock k c)
clock_keeps {c} sound k clock e = record {
  tree = sound.tree;
  thick = sound.thick;
  leaves = sound.leaves;
  model = sound.model;
  clock = clock;
  active_fits = sound.active_fits;
  donors_fit = sound.donors_fit;
  active = sound.active;
  donors = λ n d. let f = sound.donors n d in record {
    active = f.active;
    no_debt = f.no_debt;
    no_waiter = f.no_waiter;
    gives = f.gives;
  };
  shares_all = sound.shares_all;
  share_at_floor = sound.share_at_floor;
  share_idle = sound.share_idle;
  share_sum = sound.share_sum;
  taker = sound.taker;
  no_donation = sound.no_donation;
  rows_all = sound.rows_all;
  queues_all = sound.queues_all;
  row = sound.row;
  queue = sound.queue;
  idle = sound.idle;
  worth_at_most = sound.worth_at_most;
  usage_at_most = rw e sound.usage_at_most;
}

-- ---- vrate
pub with_vrate_keeps : {c : Controller} → Sound c → (v : ℕ) → first_of (vrate_checks v) ≡ Ok tt → Sound (with_vrate v c)
with_vrate_keeps {c} sound v e =
    let w = vrate_passes v e in
    clock_keeps sound (with_rate v c.clock)
    (record {
      vrate_at_least = w.0;
      vrate_at_most = w.1;
      vtime_at_most = sound.clock.vtime_at_most;
      since_at_most = sound.clock.since_at_most;
      remainder_below = sound.clock.remainder_below;
    })
    refl

pub vrate_keeps : {c : Controller} → Sound c → (v : ℕ) → Sound (vrated v c).state
unfolding vrated vrated_by
vrate_keeps {c} sound v = go (first_of (vrate_checks v)) refl
  where
    go : (w : Verdict) → first_of (vrate_checks v) ≡ w → Sound (vrated_by w v c).state
    go (Ok tt) e = with_vrate_keeps sound v e
    go (Err x) e = sound
