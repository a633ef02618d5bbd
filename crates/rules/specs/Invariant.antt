-- What every state keeps that start and the calls give: the one thing that a call may assume of its state.
-- Assumes nothing.
use Rattle.std.specs.Prelude.{◌≡◌, true, false, ℕ, ◌+◌, ◌*◌, ◌^◌, ◌≤◌, ◌<◌, length, get_or}
use Rattle.rules.specs.Numbers.{whole, second, nodes_most, leaf_most, weight_least, weight_most, level_most, elapsed_most, queue_room, share_floor, cost_most, debt_most, vtime_most, since_most, vrate_least, vrate_most, end_most}
use Rattle.rules.specs.Words.{sum_to, has, no_node}
use Rattle.rules.specs.Units.{abs}
use Rattle.rules.specs.Cost.{rates_in_range, priced}
use Rattle.rules.specs.Tree.{parent, weight, last, level, is_leaf, leaves_of, base_share, base_shares, is_thin}
use Rattle.rules.specs.Budget.{row_at, queue_at, share_at}
use Rattle.rules.specs.Tick.{growth, waiting_all}
use Rattle.rules.specs.declared.tree.Tree.{Tree}
use Rattle.rules.specs.declared.cost.Price.{Price}
use Rattle.rules.specs.declared.cost.Rates.{Rates}
use Rattle.rules.specs.declared.cost.Model.{Model}
use Rattle.rules.specs.declared.budget.Row.{Row}
use Rattle.rules.specs.declared.budget.Queue.{Queue}
use Rattle.rules.specs.declared.budget.Clock.{Clock}
use Rattle.rules.specs.declared.budget.Controller.{Controller}
use Rattle.rules.specs.declared.replay.Replay.{Replay}

-- ---- a sound tree: what every node but the root keeps. It may have too few nodes: the tree with none is sound
pub record SoundTree (t : Tree) : Type 0 where
  pub most : t.count ≤ nodes_most
  pub up : (n : ℕ) → 0 < n → n ≤ last t → parent t n < n
  pub light : (n : ℕ) → 0 < n → n ≤ last t → weight_least ≤ weight t n
  pub heavy : (n : ℕ) → 0 < n → n ≤ last t → weight t n ≤ weight_most
  pub shallow : (n : ℕ) → 0 < n → n ≤ last t → level t n ≤ level_most

-- only leaves are in the set
abbrev pub Within : Tree → ℕ → Type 0
Within t active = (n : ℕ) → has active n ≡ true → is_leaf t n ≡ true

-- the most that budget x share comes to between two calls: a waiter of the dearest cost that just does not fit
abbrev pub worth_most : ℕ
worth_most = 2 ^ 61 + 2 ^ 30

-- ---- what a priced model keeps, so that every sum and product over it fits
pub record SoundPrice (p : Price) : Type 0 where
  pub page_least : 4 ≤ p.page.0
  pub page_most : p.page.0 ≤ second
  pub sequential_most : p.sequential.0 ≤ second
  pub random_most : p.random.0 ≤ second

pub record SoundModel (m : Model) : Type 0 where
  pub reads : SoundPrice m.read
  pub writes : SoundPrice m.write

-- a model that was priced from rates in range
pub record PricedModel (m : Model) : Type 0 where
  pub rates : Rates
  pub valid : rates_in_range rates ≡ true
  pub same : m ≡ priced rates

pub record SoundClock (k : Clock) : Type 0 where
  pub vrate_at_least : vrate_least ≤ k.vrate
  pub vrate_at_most : k.vrate ≤ vrate_most
  pub vtime_at_most : k.vtime.0 ≤ vtime_most
  pub since_at_most : k.since.0 ≤ since_most
  pub remainder_below : k.remainder < 100

pub record SoundQueue (q : Queue) : Type 0 where
  pub ids_all : length q.ids ≡ queue_room
  pub costs_all : length q.costs ≡ queue_room
  pub head_in : q.head < queue_room
  pub len_most : q.len ≤ queue_room
  pub cost_at_most : (i : ℕ) → (get_or q.costs i (abs 0)).0 ≤ cost_most

pub record SoundRow (r : Row) : Type 0 where
  pub debt_at_most : r.debt.0 ≤ debt_most
  pub end_at_most : r.end ≤ end_most

-- a leaf that is not active has saved nothing, owes nothing and waits for nothing
pub record IdleLeaf (r : Row) (q : Queue) : Type 0 where
  pub no_budget : r.budget.0 ≡ 0
  pub no_debt : r.debt.0 ≡ 0
  pub no_waiter : q.len ≡ 0

-- a donor owes nothing and waits for nothing, and holds less than its base share
pub record FreeDonor (c : Controller) (n : ℕ) : Type 0 where
  pub active : has c.active n ≡ true
  pub no_debt : (row_at c n).debt.0 ≡ 0
  pub no_waiter : (queue_at c n).len ≡ 0
  pub gives : share_at c n < base_share c.tree c.active n

pub record Sound (c : Controller) : Type 0 where
  -- what start was given
  pub tree : SoundTree c.tree
  pub thick : is_thin c.tree ≡ false
  pub leaves : c.leaves ≡ leaves_of c.tree
  pub model : PricedModel c.model
  pub clock : SoundClock c.clock
  -- the sets
  pub active_fits : c.active < 2 ^ 64
  pub donors_fit : c.donors < 2 ^ 64
  pub active : Within c.tree c.active
  pub donors : (n : ℕ) → has c.donors n ≡ true → FreeDonor c n
  -- the shares
  pub shares_all : length c.shares ≡ nodes_most
  pub share_at_floor : (n : ℕ) → has c.active n ≡ true → share_floor ≤ share_at c n
  pub share_idle : (n : ℕ) → has c.active n ≡ false → share_at c n ≡ 0
  pub share_sum : sum_to (share_at c) leaf_most ≡ sum_to (base_share c.tree c.active) leaf_most
  pub taker : (n : ℕ) → has c.active n ≡ true → has c.donors n ≡ false → base_share c.tree c.active n ≤ share_at c n
  pub no_donation : c.donors ≡ no_node → c.shares ≡ base_shares c.tree c.active
  -- the books of the leaves
  pub rows_all : length c.rows ≡ nodes_most
  pub queues_all : length c.queues ≡ nodes_most
  pub row : (n : ℕ) → SoundRow (row_at c n)
  pub queue : (n : ℕ) → SoundQueue (queue_at c n)
  pub idle : (n : ℕ) → has c.active n ≡ false → IdleLeaf (row_at c n) (queue_at c n)
  pub worth_at_most : (n : ℕ) → (row_at c n).budget.0 * share_at c n ≤ worth_most
  pub usage_at_most : sum_to (λ n. (row_at c n).usage.0) leaf_most * whole + sum_to (λ n. (row_at c n).budget.0 * share_at c n) leaf_most
      ≤ c.clock.since.0 * whole + leaf_most * worth_most

-- what every replay keeps, from its beginning on: the nodes so far have room and climb, and its state is sound
pub record Playing (s : Replay) : Type 0 where
  pub least : 0 < s.tree.count
  pub most : s.tree.count ≤ nodes_most
  pub up : (n : ℕ) → 0 < n → n ≤ last s.tree → parent s.tree n < n
  pub state : Sound s.state

-- what an accepted tick has passed
pub record TickPasses (time places : ℕ) (c : Controller) : Type 0 where
  pub forward : c.clock.time ≤ time
  pub near : time ≤ c.clock.time + elapsed_most
  pub vtime : c.clock.vtime.0 + (growth c.clock time).0 ≤ vtime_most
  pub since : c.clock.since.0 + (growth c.clock time).0 ≤ since_most
  pub room : waiting_all c ≤ places
