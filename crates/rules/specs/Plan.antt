-- Plan, and vrate.
-- Assumes nothing.
use Rattle.std.specs.Prelude.{Bool, false, cond, not, ◌&&◌, ◌||◌, List, ℕ, ◌+◌, ◌-◌, ◌*◌, min, max, leb, ltb, get_or}
use Rattle.rules.specs.Numbers.{whole, leaf_most, share_floor, vrate_least, vrate_most}
use Rattle.rules.specs.Words.{sum_to, any_to, table, has, set_of, no_node}
use Rattle.rules.specs.Units.{abs, virt, ceil_of, floor_of, at_whole}
use Rattle.rules.specs.Tree.{base_shares}
use Rattle.rules.specs.Budget.{row_at, queue_at, with_clock, with_books, with_times, with_rate, owes, waits, with_budget, with_debt, with_usage, with_accepted, reshared}
use Rattle.rules.specs.declared.units.Abs.{Abs}
use Rattle.rules.specs.declared.units.Virt.{Virt}
use Rattle.rules.specs.declared.budget.Row.{Row}
use Rattle.rules.specs.declared.budget.Queue.{Queue}
use Rattle.rules.specs.declared.budget.Clock.{Clock}
use Rattle.rules.specs.declared.budget.Controller.{Controller}

-- ---- "1. If twice the usage of all leaves is below E, .."
unfoldable pub usage_all : Controller → Abs
usage_all c = abs (sum_to (λ n. (row_at c n).usage.0) leaf_most)

unfoldable pub is_quiet : Abs → Virt → Bool
is_quiet usage since = ltb (2 * (at_whole usage).0) since.0

unfoldable pub forgiveness : Bool → Abs → Abs
forgiveness quiet debt = abs (cond quiet (floor_of debt.0 2) 0)

abbrev pub forgiven : Bool → Row → Row
forgiven quiet r = with_debt (abs (r.debt.0 - (forgiveness quiet r.debt).0)) r

-- ---- "2. A leaf with no accepted bio .." (DECISIONS 10)
abbrev pub stays : Row → Queue → Bool
stays r q = r.accepted || waits q || owes r

abbrev pub rested : Bool → Row → Row
rested stay r = cond stay r (with_budget (virt 0) r)

-- ---- "3. Base shares anew. For each active leaf let u = .."
unfoldable pub used_share : Virt → Abs → ℕ
used_share since usage = ceil_of (min (at_whole usage).0 since.0 * whole) since.0

unfoldable pub target_of : Virt → Abs → ℕ
target_of since usage = max share_floor (used_share since usage + floor_of (used_share since usage) 4)

-- "It is a donor if .."
unfoldable pub is_donor : ℕ → ℕ → Row → Queue → Bool
is_donor target base r q = not (owes r) && not (waits q) && ltb target base

-- ---- "4. With no donor or no active non-donor, .."
unfoldable pub is_taker : ℕ → ℕ → ℕ → Bool
is_taker active donors n = has active n && not (has donors n)

unfoldable pub is_donation : ℕ → ℕ → Bool
is_donation active donors = any_to (has donors) leaf_most && any_to (is_taker active donors) leaf_most

-- what those of whom p holds have together in a list: S, D and T are such sums
unfoldable pub sum_over : (ℕ → Bool) → List ℕ → ℕ
sum_over p shares = sum_to (λ n. cond (p n) (get_or shares n 0) 0) leaf_most

-- "each non-donor gets .."
unfoldable pub taken_of : ℕ → ℕ → ℕ → ℕ
taken_of left kept base = floor_of (base * left) kept

-- "what remains of S - T .."
unfoldable pub is_lowest : ℕ → ℕ → ℕ → Bool
is_lowest active donors n = is_taker active donors n && not (any_to (is_taker active donors) (n - 1))

-- left is S - T and kept is S - D
unfoldable pub remainder : ℕ → ℕ → ℕ → ℕ → List ℕ → ℕ
remainder active donors left kept bases =
    left - sum_to (λ n. cond (is_taker active donors n) (taken_of left kept (get_or bases n 0)) 0) leaf_most

unfoldable pub share_given : ℕ → ℕ → ℕ → ℕ → ℕ → List ℕ → List ℕ → ℕ → ℕ
share_given active donors left kept rest bases targets n =
    cond (has donors n)
    (get_or targets n 0)
    (cond (is_taker active donors n)
    (taken_of left kept (get_or bases n 0) + cond (is_lowest active donors n) rest 0)
    0)

unfoldable pub donated : ℕ → ℕ → List ℕ → List ℕ → List ℕ
donated active donors bases targets =
    let S : ℕ = sum_over (has active) bases in
    let D : ℕ = sum_over (has donors) bases in
    let T : ℕ = sum_over (has donors) targets in
    let rest : ℕ = remainder active donors (S - T) (S - D) bases in
    table (share_given active donors (S - T) (S - D) rest bases targets)

-- ---- "5. .. E and usages start at 0"; the budget follows its share in `reshared`
abbrev pub restarted : Row → Row
restarted r = with_accepted false (with_usage (abs 0) r)

-- .. and what is left over of virtual time stays (DECISIONS 67)
abbrev pub restarted_clock : Clock → Clock
restarted_clock k = with_times k.time k.vtime (virt 0) k

-- ---- the plan, step by step
unfoldable pub quiet_in : Controller → Bool
quiet_in c = is_quiet (usage_all c) c.clock.since

unfoldable pub active_after : Bool → Controller → ℕ
active_after quiet c = set_of (λ n. has c.active n && stays (forgiven quiet (row_at c n)) (queue_at c n))

unfoldable pub targets_in : Controller → List ℕ
targets_in c = table (λ n. target_of c.clock.since (row_at c n).usage)

unfoldable pub donors_in : Bool → ℕ → List ℕ → List ℕ → Controller → ℕ
donors_in quiet active bases targets c =
    set_of (λ n. has active n && is_donor (get_or targets n 0) (get_or bases n 0) (forgiven quiet (row_at c n)) (queue_at c n))

-- the books and the clock once the plan is over; the shares are still those held before
unfoldable pub closed : Bool → ℕ → Controller → Controller
closed quiet active c =
    with_clock (restarted_clock c.clock)
    (with_books (table (λ n. restarted (rested (has active n) (forgiven quiet (row_at c n))))) c.queues c)

unfoldable pub shared : ℕ → ℕ → List ℕ → List ℕ → Controller → Controller
shared active donors bases targets c =
    cond (is_donation active donors)
    (reshared active donors (donated active donors bases targets) c)
    (reshared active no_node bases c)

unfoldable pub plan : Controller → Controller
plan c =
    let quiet : Bool = quiet_in c in
    let active : ℕ = active_after quiet c in
    let bases : List ℕ = base_shares c.tree active in
    let targets : List ℕ = targets_in c in
    let donors : ℕ = donors_in quiet active bases targets c in
    shared active donors bases targets (closed quiet active c)

-- ---- "vrate is set .."
abbrev pub vrate_in_range : ℕ → Bool
vrate_in_range v = leb vrate_least v && leb v vrate_most

abbrev pub with_vrate : ℕ → Controller → Controller
with_vrate v c = with_clock (with_rate v c.clock) c
