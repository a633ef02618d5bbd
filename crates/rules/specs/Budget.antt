-- Budget and submission.
-- Assumes nothing.
use Rattle.std.specs.Prelude.{Bool, true, false, cond, not, ◌&&◌, ◌||◌, List, [], ℕ, ◌+◌, ◌-◌, ◌*◌, ◌%◌, eqb, leb, ltb, get_or, set, replicate, Ok}
use Rattle.rules.specs.Numbers.{queue_room, nodes_most, vrate_fresh}
use Rattle.rules.specs.Words.{table, has, set_of, no_node}
use Rattle.rules.specs.Units.{abs, virt, floor_of, relative}
use Rattle.rules.specs.Cost.{cost_of, end_of, is_flush, is_forced}
use Rattle.rules.specs.Tree.{leaves_of, base_shares, with_weight}
use Rattle.rules.specs.declared.units.Abs.{Abs}
use Rattle.rules.specs.declared.units.Virt.{Virt}
use Rattle.rules.specs.declared.cost.Model.{Model}
use Rattle.rules.specs.declared.cost.Bio.{Bio}
use Rattle.rules.specs.declared.tree.Tree.{Tree}
use Rattle.rules.specs.declared.budget.Row.{Row}
use Rattle.rules.specs.declared.budget.Queue.{Queue}
use Rattle.rules.specs.declared.budget.Clock.{Clock}
use Rattle.rules.specs.declared.budget.Controller.{Controller}
use Rattle.rules.specs.declared.refusals.Answer.{Answer}
use Rattle.rules.specs.declared.refusals.Answer.TheVariants.{Issued, Waits, OnDebt}
use Rattle.rules.specs.Results.{Submitted}

-- ---- "Fresh state: .."
abbrev pub empty_queue : Queue
empty_queue = record { ids = replicate queue_room 0; costs = replicate queue_room (abs 0); head = 0; len = 0 }

abbrev pub empty_row : Row
empty_row = record { budget = virt 0; debt = abs 0; usage = abs 0; end = 0; begun = false; accepted = false }

abbrev pub fresh_clock : ℕ → Clock
fresh_clock time = record { time = time; vtime = virt 0; since = virt 0; vrate = vrate_fresh; remainder = 0 }

-- the set of the tree's leaves is handed in, since it is worked out once
abbrev pub fresh_with : ℕ → Tree → Model → ℕ → Controller
fresh_with leaves tree model time = record {
  tree = tree;
  model = model;
  clock = fresh_clock time;
  leaves = leaves;
  active = no_node;
  donors = no_node;
  shares = replicate nodes_most 0;
  rows = replicate nodes_most empty_row;
  queues = replicate nodes_most empty_queue;
}

abbrev pub fresh : Tree → Model → ℕ → Controller
fresh tree model time = fresh_with (leaves_of tree) tree model time

-- ---- what the state has of node n
abbrev pub row_at : Controller → ℕ → Row
row_at c n = get_or c.rows n empty_row

abbrev pub queue_at : Controller → ℕ → Queue
queue_at c n = get_or c.queues n empty_queue

abbrev pub share_at : Controller → ℕ → ℕ
share_at c n = get_or c.shares n 0

-- ---- the state with other parts: who writes a part goes by these, so that a field more is a line here and in the fresh state
abbrev pub with_clock : Clock → Controller → Controller
with_clock clock c = record {
  tree = c.tree;
  model = c.model;
  clock = clock;
  leaves = c.leaves;
  active = c.active;
  donors = c.donors;
  shares = c.shares;
  rows = c.rows;
  queues = c.queues;
}

abbrev pub with_tree : Tree → Controller → Controller
with_tree tree c = record {
  tree = tree;
  model = c.model;
  clock = c.clock;
  leaves = c.leaves;
  active = c.active;
  donors = c.donors;
  shares = c.shares;
  rows = c.rows;
  queues = c.queues;
}

abbrev pub with_sharing : ℕ → ℕ → List ℕ → Controller → Controller
with_sharing active donors shares c = record {
  tree = c.tree;
  model = c.model;
  clock = c.clock;
  leaves = c.leaves;
  active = active;
  donors = donors;
  shares = shares;
  rows = c.rows;
  queues = c.queues;
}

abbrev pub with_books : List Row → List Queue → Controller → Controller
with_books rows queues c = record {
  tree = c.tree;
  model = c.model;
  clock = c.clock;
  leaves = c.leaves;
  active = c.active;
  donors = c.donors;
  shares = c.shares;
  rows = rows;
  queues = queues;
}

abbrev pub put_leaf : ℕ → Row → Queue → Controller → Controller
put_leaf n row queue c = with_books (set c.rows n row) (set c.queues n queue) c

-- ---- the clock with other parts
abbrev pub with_times : ℕ → Virt → Virt → Clock → Clock
with_times time vtime since k = record { time = time; vtime = vtime; since = since; vrate = k.vrate; remainder = k.remainder }

abbrev pub with_rate : ℕ → Clock → Clock
with_rate vrate k = record { time = k.time; vtime = k.vtime; since = k.since; vrate = vrate; remainder = k.remainder }

abbrev pub with_remainder : ℕ → Clock → Clock
with_remainder remainder k = record { time = k.time; vtime = k.vtime; since = k.since; vrate = k.vrate; remainder = remainder }

-- ---- "Each leaf has room ..": a ring, whose places out of use keep what they had
abbrev pub pushed : ℕ → Abs → Queue → Queue
pushed id cost q = record {
  ids = set q.ids ((q.head + q.len) % queue_room) id;
  costs = set q.costs ((q.head + q.len) % queue_room) cost;
  head = q.head;
  len = q.len + 1;
}

abbrev pub popped : Queue → Queue
popped q = record { ids = q.ids; costs = q.costs; head = (q.head + 1) % queue_room; len = q.len - 1 }

abbrev pub oldest_id : Queue → ℕ
oldest_id q = get_or q.ids q.head 0

abbrev pub oldest_cost : Queue → Abs
oldest_cost q = get_or q.costs q.head (abs 0)

-- ---- a leaf's own books
abbrev pub with_budget : Virt → Row → Row
with_budget b r =
    record { budget = b; debt = r.debt; usage = r.usage; end = r.end; begun = r.begun; accepted = r.accepted }

abbrev pub with_debt : Abs → Row → Row
with_debt d r =
    record { budget = r.budget; debt = d; usage = r.usage; end = r.end; begun = r.begun; accepted = r.accepted }

abbrev pub with_usage : Abs → Row → Row
with_usage u r =
    record { budget = r.budget; debt = r.debt; usage = u; end = r.end; begun = r.begun; accepted = r.accepted }

abbrev pub with_accepted : Bool → Row → Row
with_accepted a r =
    record { budget = r.budget; debt = r.debt; usage = r.usage; end = r.end; begun = r.begun; accepted = a }

-- where a leaf's last bio ended that was no flush, and whether it had one
abbrev pub with_end : ℕ → Bool → Row → Row
with_end e begun r =
    record { budget = r.budget; debt = r.debt; usage = r.usage; end = e; begun = begun; accepted = r.accepted }

-- the budget falls: only virtual time is taken from it
abbrev pub spent : Virt → Row → Row
spent v r = with_budget (virt (r.budget.0 - v.0)) r

-- a cost is charged at a share: the budget falls by the relative cost, the usage grows by the absolute one
abbrev pub charged : Abs → ℕ → Row → Row
charged cost share r = with_usage (abs (r.usage.0 + cost.0)) (spent (relative cost share) r)

-- an accepted bio moves the leaf's end and is its first, if it had none (DECISIONS 9); request Four: but a flush "does not move
-- the leaf's last end nor count as its first bio" (DECISIONS 69)
abbrev pub end_after : Bio → Row → ℕ
end_after b r = cond (is_flush b) r.end (end_of b)

abbrev pub begun_after : Bio → Row → Bool
begun_after b r = cond (is_flush b) r.begun true

-- each counts as accepted since the last plan
abbrev pub noted : Bio → Row → Row
noted b r = with_accepted true (with_end (end_after b r) (begun_after b r) r)

abbrev pub owes : Row → Bool
owes r = ltb 0 r.debt.0

-- a queue of which nothing is known but how many wait
abbrev pub length_only : ℕ → Queue
length_only waiting = record { ids = []; costs = []; head = 0; len = waiting }

abbrev pub waits : Queue → Bool
waits q = ltb 0 q.len

abbrev pub fits : Abs → ℕ → Row → Bool
fits cost share r = leb (relative cost share).0 r.budget.0

-- ---- "Whenever a share rises from h to k, .."
unfoldable pub rebudget : ℕ → ℕ → Virt → Virt
rebudget h k b = cond (ltb h k) (virt (floor_of (b.0 * h) k)) b

-- the state with other active leaves, donors and shares; each budget follows its share
unfoldable pub reshared : ℕ → ℕ → List ℕ → Controller → Controller
reshared active donors shares c =
    with_sharing active donors shares
    (with_books (table (λ n. with_budget (rebudget (share_at c n) (get_or shares n 0) (row_at c n).budget) (row_at c n))) c.queues c)

-- a donation ends and base shares are worked out anew: no donor, and base shares among the active leaves
unfoldable pub rebased : ℕ → Controller → Controller
rebased active c = reshared active no_node (base_shares c.tree active) c

-- ---- request One: "Otherwise any donation ends, ..", in the tree with the weight; budgets go from the share held before (DECISIONS 59)
unfoldable pub reweighted : ℕ → ℕ → Controller → Controller
reweighted n w c = rebased c.active (with_tree (with_weight n w c.tree) c)

-- ---- "Submitting a bio that is not refused:"
-- "1. An inactive leaf becomes active .."
unfoldable pub activated : ℕ → Controller → Controller
activated n c =
    rebased (set_of (λ k. has c.active k || eqb k n)) (put_leaf n (with_budget (virt 0) (row_at c n)) (queue_at c n) c)

unfoldable pub entered : ℕ → Controller → Controller
entered n c = cond (has c.active n) c (activated n c)

-- "2. Unforced: .." and "3. Forced: .."
unfoldable pub answer_to : Bool → Abs → ℕ → Row → Queue → Answer
answer_to false cost share r q = cond (not (owes r) && not (waits q) && fits cost share r) Issued Waits
answer_to true cost share r q = cond (not (owes r) && fits cost share r) Issued OnDebt

unfoldable pub row_after : Answer → Abs → ℕ → Row → Row
row_after Issued cost share r = charged cost share r
row_after Waits cost share r = r
row_after OnDebt cost share r = with_debt (abs (r.debt.0 + cost.0)) r

unfoldable pub queue_after : Answer → ℕ → Abs → Queue → Queue
queue_after Issued id cost q = q
queue_after Waits id cost q = pushed id cost q
queue_after OnDebt id cost q = q

-- "4. If the bio waited .."
abbrev pub ends_donation : Answer → Bool
ends_donation Issued = false
ends_donation Waits = true
ends_donation OnDebt = true

unfoldable pub answer_in : Controller → Bio → Answer
answer_in c b =
    answer_to (is_forced b) (cost_of c.model (row_at c b.node) b) (share_at c b.node) (row_at c b.node) (queue_at c b.node)

-- the bio's leaf, with the answer applied, in a state where that leaf is active
unfoldable pub applied : Answer → Bio → Controller → Controller
applied answer b c =
    let cost : Abs = cost_of c.model (row_at c b.node) b in
    put_leaf b.node
    (noted b (row_after answer cost (share_at c b.node) (row_at c b.node)))
    (queue_after answer b.id cost (queue_at c b.node))
    c

-- the donor is judged and charged at the share that it held before the donation ends (DECISIONS 12)
unfoldable pub settled : Answer → Bio → Controller → Controller
settled answer b c =
    cond (ends_donation answer && has c.donors b.node) (rebased c.active (applied answer b c)) (applied answer b c)

-- what steps 2 and 3 answer a bio, once its leaf is active (DECISIONS 14)
unfoldable pub would_be : Controller → Bio → Answer
would_be c b = answer_in (entered b.node c) b

unfoldable pub submission : Bio → Controller → Submitted
submission b c = record { answer = Ok (would_be c b); state = settled (would_be c b) b (entered b.node c) }
