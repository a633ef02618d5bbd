-- Numbers of their own for every rule, so that a slip of it gives another number here: each limit of document 01 on it and one
-- past it, whole books after each call, prices of devices, what the ledger makes of the calls, the replay by its parts, and a
-- trace with lines of every kind.
-- Assumes nothing.
use Rattle.std.specs.Prelude.{Bool, true, false, cond, ◌&&◌, List, [], ◌∷◌, ◌++◌, ℕ, ◌+◌, ◌-◌, ◌*◌, ◌^◌, eqb, length, get_or, replicate, take}
use Rattle.rules.specs.Words.{table_from, has, no_node}
use Rattle.rules.specs.Units.{abs, virt}
use Rattle.rules.specs.Cost.{bps_in_range, iops_in_range, bytes_in_range, sector_in_range, flags_in_range, is_near, priced}
use Rattle.rules.specs.Tree.{count_in_range, weight_in_range, tree_fault, newest_fault, leaves_of, base_shares}
use Rattle.rules.specs.Budget.{empty_queue, empty_row, fresh, row_at, queue_at, share_at, with_clock, with_remainder, with_sharing, with_books, put_leaf, with_budget, with_debt, with_usage, with_accepted, with_end, reshared}
use Rattle.rules.specs.Tick.{growth, capped, turn, releases, waiting_all}
use Rattle.rules.specs.Plan.{usage_all, is_quiet, target_of, is_donor, sum_over, quiet_in, vrate_in_range}
use Rattle.rules.specs.Refusals.{Check, first_of, is_fault, verdict_number, read_number, write_number, model_values, cost_checks, room_checks, tick_checks, plan_checks}
use Rattle.rules.specs.Entries.{costing, started, submitted, ticked, lent_of, planned, vrated, slowest}
use Rattle.rules.specs.Trace.{layouts, record_bytes, writing, read_at}
use Rattle.rules.specs.Replay.{digits, share_lines, in_phase, beginning, grown, Step, stepped, next_place, tick_call, within, root_tree}
use Rattle.rules.specs.Ledger.{Call, waiting, owed, accepted, issued, released, repaid, forgiven, generated, charged, saved}
use Rattle.rules.specs.declared.cost.Price.{Price}
use Rattle.rules.specs.declared.cost.Model.{Model}
use Rattle.rules.specs.declared.units.Abs.{Abs}
use Rattle.rules.specs.declared.cost.Bio.{Bio}
use Rattle.rules.specs.declared.tree.Tree.{Tree}
use Rattle.rules.specs.declared.budget.Row.{Row}
use Rattle.rules.specs.declared.budget.Queue.{Queue}
use Rattle.rules.specs.declared.budget.Clock.{Clock}
use Rattle.rules.specs.declared.budget.Controller.{Controller}
use Rattle.rules.specs.declared.replay.Setting.TheVariants.{Vrate as SetVrate}
use Rattle.rules.specs.declared.refusals.Answer.TheVariants.{Waits, OnDebt}
use Rattle.rules.specs.declared.trace.Record.{Record}
use Rattle.rules.specs.declared.trace.Record.TheVariants.{Node, Model as ModelOf, Start, Bio as BioOf, Tick, Plan, Vrate, Weight}
use Rattle.rules.specs.declared.replay.Phase.{Phase}
use Rattle.rules.specs.declared.replay.Phase.TheVariants.{Setup, Priced, Running, Stopped}
use Rattle.rules.specs.declared.replay.Replay.{Replay}
use Rattle.rules.specs.Bench.Run.{run_tree}
use Rattle.rules.specs.Bench.{bytes_of_all, B, rates_M, M, bio, at_zero, cost_number, tree, tree5, tree6, tree7, clock_at, running, saved as saved_row, used, state9, letter, plan10, Case}
use Rattle.rules.specs.Results.{found}

-- ---- the edges
abbrev pub is : Bool → Case
is t = B 0 (cond t 1 0) 1

abbrev pub is_not : Bool → Case
is_not t = B 0 (cond t 1 0) 0

abbrev pub gives : ℕ → List Check → Case
gives n ks = B 0 (verdict_number (first_of ks)) n

-- a tree of one leaf, so many levels below the root
abbrev pub chain : ℕ → Tree
chain n = tree (n + 1) (table_from (λ i. i) 0 n) (replicate n 1)

-- a tree of so many leaves below the root
abbrev pub star : ℕ → Tree
star n = tree (n + 1) (replicate n 0) (replicate n 1)

-- a model in which a small read costs so much
abbrev pub dear : ℕ → Model
dear cost =
    let price : Price = record { page = abs 0; sequential = abs 0; random = abs cost } in
    record { read = price; write = price }

abbrev pub owing : ℕ → Row
owing d = record { budget = virt 0; debt = abs d; usage = abs 0; end = 0; begun = true; accepted = true }

abbrev pub holding : ℕ → Queue
holding n = record { ids = empty_queue.ids; costs = empty_queue.costs; head = 0; len = n }

-- a state at time 0 with so much virtual time and E; n bios of leaf 1 wait
abbrev pub clocked : ℕ → ℕ → ℕ → Controller
clocked vtime since n =
    with_books (fresh tree5 M 0).rows (empty_queue ∷ holding n ∷ []) (with_clock (clock_at 0 vtime since 100) (fresh tree5 M 0))

-- B9's leaf with an older bio that waits
abbrev pub behind9 : ℕ → Controller
behind9 budget = put_leaf 1 (saved_row budget) (holding 1) (state9 budget)

-- one bio waits of the first leaf and two of the second
abbrev pub both9 : Controller
both9 = put_leaf 2 (saved_row 0) (holding 2) (behind9 0)

-- the same leaves while the first is a donor
abbrev pub donating9 : Controller
donating9 = reshared (leaves_of tree5) 2 (base_shares tree5 (leaves_of tree5)) (state9 0)

abbrev pub rated : ℕ → Clock
rated vrate = clock_at 0 0 0 vrate

-- after ticks at 100 and at 250
unfoldable pub later : Controller
later = (ticked 250 [] (ticked 100 [] (clocked 0 0 0)).state).state

-- one behind the last kind
abbrev pub no_kind : ℕ
no_kind = length layouts + 1

-- what a read at a place, and a tick's record in so many places, are refused
abbrev pub read : List ℕ → ℕ → ℕ
read trace at = read_number (read_at trace at)

abbrev pub written : ℕ → ℕ
written places = write_number (writing (Tick 0) (replicate places 7))

-- the last digit that the replay prints for what stands first in a trace: of R 16, R 17 or R 18
abbrev pub first : List ℕ → ℕ
first trace = get_or (stepped (read_at trace 0) beginning).bytes 3 0

unfoldable pub edges : List Case
edges =
    is (bps_in_range 4096) ∷ is_not (bps_in_range 4095) ∷ is (bps_in_range (2 ^ 40)) ∷ is_not (bps_in_range (2 ^ 40 + 1))
    ∷ is (iops_in_range 1) ∷ is_not (iops_in_range 0) ∷ is (iops_in_range (10 ^ 9)) ∷ is_not (iops_in_range (10 ^ 9 + 1))
    ∷ is (bytes_in_range 512) ∷ is_not (bytes_in_range 0) ∷ is_not (bytes_in_range 513)
    ∷ is (bytes_in_range 1048576) ∷ is_not (bytes_in_range 1049088)
    ∷ is (sector_in_range (2 ^ 48)) ∷ is_not (sector_in_range (2 ^ 48 + 1))
    ∷ is (flags_in_range 3) ∷ is_not (flags_in_range 4)
    ∷ gives 0 (cost_checks (dear (2 ^ 31)) empty_row (bio 1 0 512)) ∷ gives 6 (cost_checks (dear (2 ^ 31 + 1)) empty_row (bio 1 0 512))
    ∷ gives 5 (cost_checks (dear (2 ^ 31 + 1)) empty_row (bio 1 0 513))
    ∷ is (is_near 32768 0) ∷ is_not (is_near 32769 0) ∷ is (is_near 0 32768) ∷ is_not (is_near 0 32769)
    ∷ is (count_in_range 2) ∷ is_not (count_in_range 1) ∷ is (count_in_range 64) ∷ is_not (count_in_range 65)
    ∷ is (weight_in_range 1) ∷ is_not (weight_in_range 0) ∷ is (weight_in_range 10000) ∷ is_not (weight_in_range 10001)
    ∷ is_not (is_fault (tree_fault (chain 8))) ∷ is (is_fault (tree_fault (chain 9)))
    ∷ is_not (is_fault (newest_fault (star 63))) ∷ is (is_fault (newest_fault (star 64)))
    ∷ gives 0 (room_checks Waits (abs 1) empty_row (holding 7)) ∷ gives 7 (room_checks Waits (abs 1) empty_row (holding 8))
    ∷ gives 0 (room_checks OnDebt (abs 1) (owing (2 ^ 40 - 1)) empty_queue) ∷ gives 8 (room_checks OnDebt (abs 1) (owing (2 ^ 40)) empty_queue)
    ∷ gives 0 (tick_checks 250 0 later) ∷ gives 9 (tick_checks 249 0 later)
    ∷ gives 0 (tick_checks (10 ^ 9) 0 (clocked 0 0 0)) ∷ gives 10 (tick_checks (10 ^ 9 + 1) 0 (clocked 0 0 0))
    ∷ gives 0 (tick_checks 1 0 (clocked (2 ^ 60 - 1) 0 0)) ∷ gives 11 (tick_checks 1 0 (clocked (2 ^ 60) 0 0))
    ∷ gives 0 (tick_checks 1 0 (clocked 0 (2 ^ 33 - 1) 0)) ∷ gives 12 (tick_checks 1 0 (clocked 0 (2 ^ 33) 0))
    ∷ gives 0 (tick_checks 0 8 (clocked 0 0 8)) ∷ gives 13 (tick_checks 0 7 (clocked 0 0 8))
    ∷ gives 0 (tick_checks 0 3 both9) ∷ gives 13 (tick_checks 0 2 both9)
    ∷ gives 0 (plan_checks (clocked 0 1 0)) ∷ gives 14 (plan_checks (clocked 0 0 0))
    ∷ is (vrate_in_range 1) ∷ is_not (vrate_in_range 0) ∷ is (vrate_in_range 400) ∷ is_not (vrate_in_range 401)
    ∷ B 0 (capped (saved_row (2 ^ 27)) empty_queue).budget.0 (2 ^ 27)
    ∷ B 0 (capped (saved_row (2 ^ 27 + 1)) empty_queue).budget.0 (2 ^ 27)
    ∷ B 0 (capped (saved_row (2 ^ 27 + 1)) (holding 1)).budget.0 (2 ^ 27 + 1)
    ∷ B 0 (target_of (virt 1000000) (abs 0)) 1024
    ∷ is (is_quiet (abs 49) (virt 100)) ∷ is_not (is_quiet (abs 50) (virt 100))
    ∷ is (quiet_in (running tree5 (used 20 ∷ used 29 ∷ []) 100)) ∷ is_not (quiet_in (running tree5 (used 20 ∷ used 30 ∷ []) 100))
    ∷ B 0 (letter (submitted (bio 1 0 4096) (behind9 400000)).answer) 87
    ∷ B 0 (letter (submitted (bio 1 2 4096) (behind9 400000)).answer) 73
    ∷ B 0 (submitted (bio 2 0 4096) donating9).state.donors 2 ∷ B 0 (submitted (bio 1 0 4096) donating9).state.donors 0
    ∷ B 0 (growth (rated 50) 3).0 1 ∷ B 0 (growth (rated 400) 3).0 12 ∷ B 0 (vrated 50 (clocked 0 0 0)).state.clock.vrate 50
    ∷ B 0 later.clock.time 250 ∷ B 0 later.clock.vtime.0 250 ∷ B 0 later.clock.since.0 250
    ∷ B 0 plan10.clock.since.0 0 ∷ B 0 (row_at plan10 1).usage.0 0 ∷ is_not (row_at plan10 1).accepted
    ∷ B 0 (target_of (virt 100) (abs 1000)) 1342177280
    ∷ B 0 (cost_number (costing M at_zero (bio 1 1 4096))) 40000
    ∷ is_not (is_fault (tree_fault (tree 2 (0 ∷ []) (1 ∷ [])))) ∷ is (is_fault (tree_fault (tree 2 (1 ∷ []) (1 ∷ []))))
    ∷ B 0 (read (1 ∷ 0 ∷ 1 ∷ 0 ∷ []) 0) 0 ∷ B 0 (read (7 ∷ 1 ∷ 0 ∷ []) 0) 0 ∷ B 0 (read (0 ∷ []) 0) 16 ∷ B 0 (read (no_kind ∷ []) 0) 16
    ∷ B 0 (read (1 ∷ 0 ∷ 1 ∷ []) 0) 17 ∷ B 0 (read (1 ∷ 0 ∷ 1 ∷ 0 ∷ []) 4) 0 ∷ B 0 (read (1 ∷ 0 ∷ 1 ∷ 0 ∷ []) 5) 17
    ∷ B 0 (leaves_of (tree7 1023)) 28 ∷ B 0 (leaves_of (chain 8)) 256
    ∷ B 0 (written 9) 0 ∷ B 0 (written 8) 28
    ∷ is_not (row_at plan10 2).accepted
    ∷ is (is_donor 1023 1024 empty_row empty_queue) ∷ is_not (is_donor 1024 1024 empty_row empty_queue)
    ∷ is_not (is_donor 1023 1024 (owing 1) empty_queue) ∷ is_not (is_donor 1023 1024 empty_row (holding 1))
    ∷ B 0 (first (no_kind ∷ [])) 54 ∷ B 0 (first (5 ∷ [])) 55 ∷ B 0 (first (record_bytes (Tick 0))) 56
    ∷ []

-- ---- the books of a state: what every call does to every leaf, compared whole
-- what is seen, and what it should be
pub record Seen : Type 0 where
  pub got : List ℕ
  pub want : List ℕ

abbrev pub see : List ℕ → List ℕ → Seen
see got want = record { got = got; want = want }

abbrev pub same_numbers : List ℕ → List ℕ → Bool
same_numbers [] [] = true
same_numbers [] (m ∷ ms) = false
same_numbers (n ∷ ns) [] = false
same_numbers (n ∷ ns) (m ∷ ms) = eqb n m && same_numbers ns ms

abbrev pub all_same : List Seen → Bool
all_same [] = true
all_same (x ∷ xs) = same_numbers x.got x.want && all_same xs

abbrev pub bit : Bool → ℕ
bit b = cond b 1 0

-- budget, debt, usage, end, begun, accepted
abbrev pub row_numbers : Row → List ℕ
row_numbers r = r.budget.0 ∷ r.debt.0 ∷ r.usage.0 ∷ r.end ∷ bit r.begun ∷ bit r.accepted ∷ []

abbrev pub cost_numbers : List Abs → List ℕ
cost_numbers [] = []
cost_numbers (c ∷ cs) = c.0 ∷ cost_numbers cs

-- head and length, the ids, the costs
abbrev pub queue_numbers : Queue → List ℕ
queue_numbers q = q.head ∷ q.len ∷ q.ids ++ cost_numbers q.costs

-- share, row, and the queue's head and length
abbrev pub leaf_numbers : Controller → ℕ → List ℕ
leaf_numbers c n = share_at c n ∷ row_numbers (row_at c n) ++ ((queue_at c n).head ∷ (queue_at c n).len ∷ [])

-- time, virtual time, E, vrate, remainder; leaves, active, donors
abbrev pub top_numbers : Controller → List ℕ
top_numbers c =
    c.clock.time ∷ c.clock.vtime.0 ∷ c.clock.since.0 ∷ c.clock.vrate ∷ c.clock.remainder
    ∷ c.leaves ∷ c.active ∷ c.donors ∷ []

-- of a state with three leaves
abbrev pub book_numbers : Controller → List ℕ
book_numbers c = top_numbers c ++ leaf_numbers c 1 ++ leaf_numbers c 2 ++ leaf_numbers c 3

-- three equal leaves, of which 1 takes, 2 gives and 3 is not active; a number of the books differs from those beside it
abbrev pub ring : ℕ → ℕ → ℕ → Queue
ring from head len = record { ids = table_from (λ i. i) from 8; costs = table_from (λ i. abs (20000 + i)) from 8; head = head; len = len }

abbrev pub row : ℕ → ℕ → ℕ → ℕ → Bool → Bool → Row
row budget debt usage end begun accepted =
    record { budget = virt budget; debt = abs debt; usage = abs usage; end = end; begun = begun; accepted = accepted }

abbrev pub state6 : Row → Queue → Controller
state6 row₁ queue₁ =
    with_books
    (empty_row ∷ row₁ ∷ row 900000 0 13 16 false true ∷ row 0 0 19 24 true false ∷ [])
    (empty_queue ∷ queue₁ ∷ ring 11 3 0 ∷ ring 21 0 0 ∷ [])
    (with_sharing 6 4 (0 ∷ 873741824 ∷ 200000000 ∷ 0 ∷ []) (with_clock (with_remainder 37 (clock_at 1000 70000 50000 200)) (fresh tree6 M 0)))

-- leaf 1 has saved; waits for three, over the ring's end; owes; owes and waits
unfoldable pub saved6 : Controller
saved6 = state6 (row 400000 0 7 40 true false) (ring 1 7 0)

unfoldable pub waits6 : Controller
waits6 = state6 (row 30000 0 7 40 true false) (ring 1 7 3)

unfoldable pub owes6 : Controller
owes6 = state6 (row 0 50000 7 40 true false) (ring 1 7 1)

unfoldable pub both6 : Controller
both6 = state6 (row 0 10000 7 40 true false) (record { ids = (ring 1 7 1).ids; costs = replicate 8 (abs 5000); head = 7; len = 1 })

-- 7 is owed, of which a quiet plan forgives 3
unfoldable pub small6 : Controller
small6 = state6 (row 400000 7 7 40 true false) (ring 1 7 0)

-- leaf 2 has used 15,000 of 50,000, and leaf 3, which is not active, had a bio accepted or not
abbrev pub more6 : Bool → Controller
more6 accepted = put_leaf 3 (row 0 0 19 24 true accepted) (ring 21 0 0) (put_leaf 2 (row 900000 0 15000 16 false true) (ring 11 3 0) small6)

-- a tree of 63 leaves, of which the last alone is active, has used 5 and waits for one that costs nothing
unfoldable pub last63 : Controller
last63 =
    with_books
    (replicate 63 empty_row ++ (used 5 ∷ []))
    (replicate 63 empty_queue ++ (record { ids = table_from (λ i. i) 4 8; costs = empty_queue.costs; head = 0; len = 1 } ∷ []))
    (with_sharing (2 ^ 63) no_node (replicate 63 0 ++ (2000 ∷ [])) (fresh (star 63) M 0))

-- all that can wait does, of leaves that are not active
unfoldable pub crowded : Controller
crowded = with_books (fresh (star 63) M 0).rows (empty_queue ∷ replicate 63 (holding 8)) (fresh (star 63) M 0)

abbrev pub then : Bio → Controller → List ℕ
then b c = book_numbers (submitted b c).state

-- leaves 2 and 3 of `state6`, and 1 in `saved6`, where a call leaves them alone
abbrev pub leaf1 : List ℕ
leaf1 = 873741824 ∷ 400000 ∷ 0 ∷ 7 ∷ 40 ∷ 1 ∷ 0 ∷ 7 ∷ 0 ∷ []

abbrev pub leaf2 : List ℕ
leaf2 = 200000000 ∷ 900000 ∷ 0 ∷ 13 ∷ 16 ∷ 0 ∷ 1 ∷ 3 ∷ 0 ∷ []

abbrev pub leaf3 : List ℕ
leaf3 = 0 ∷ 0 ∷ 0 ∷ 19 ∷ 24 ∷ 1 ∷ 0 ∷ 0 ∷ 0 ∷ []

abbrev pub top : ℕ → ℕ → List ℕ
top active donors = 1000 ∷ 70000 ∷ 50000 ∷ 200 ∷ 37 ∷ 14 ∷ active ∷ donors ∷ []

unfoldable pub books : List Seen
books =
    -- a fresh state
    see (top_numbers (started run_tree (rates_M 50000) 1000).state ++ leaf_numbers (started run_tree (rates_M 50000) 1000).state 1)
    (1000 ∷ 0 ∷ 0 ∷ 100 ∷ 0 ∷ 6 ∷ 0 ∷ 0 ∷ replicate 9 0)
    ∷ see (queue_numbers (queue_at (started run_tree (rates_M 50000) 1000).state 2)) (replicate 18 0)
    -- a part of a row is set, and the others stay
    ∷ see (row_numbers (with_budget (virt 9) (row 1 2 3 4 true false)) ++ row_numbers (with_debt (abs 9) (row 1 2 3 4 false true)))
    (9 ∷ 2 ∷ 3 ∷ 4 ∷ 1 ∷ 0 ∷ 1 ∷ 9 ∷ 3 ∷ 4 ∷ 0 ∷ 1 ∷ [])
    ∷ see (row_numbers (with_usage (abs 9) (row 1 2 3 4 true false)) ++ row_numbers (with_accepted true (row 1 2 3 4 false false)))
    (1 ∷ 2 ∷ 9 ∷ 4 ∷ 1 ∷ 0 ∷ 1 ∷ 2 ∷ 3 ∷ 4 ∷ 0 ∷ 1 ∷ [])
    ∷ see (row_numbers (with_end 9 true (row 1 2 3 4 false false)) ++ row_numbers (with_end 9 false (row 1 2 3 4 true true)))
    (1 ∷ 2 ∷ 3 ∷ 9 ∷ 1 ∷ 0 ∷ 1 ∷ 2 ∷ 3 ∷ 9 ∷ 0 ∷ 1 ∷ [])
    -- vrate alone is set
    ∷ see (book_numbers (vrated 300 saved6).state) (1000 ∷ 70000 ∷ 50000 ∷ 300 ∷ 37 ∷ 14 ∷ 6 ∷ 4 ∷ leaf1 ++ leaf2 ++ leaf3)
    -- a taker's bio is issued, 20,000 at its share; waits; goes on debt: the donation stands, and no other leaf is touched
    ∷ see (then (bio 1 0 4096) saved6) (top 6 4 ++ (873741824 ∷ 375421 ∷ 0 ∷ 20007 ∷ 8 ∷ 1 ∷ 1 ∷ 7 ∷ 0 ∷ leaf2 ++ leaf3))
    ∷ see (then (bio 1 0 1048576) saved6) (top 6 4 ++ (873741824 ∷ 400000 ∷ 0 ∷ 7 ∷ 2048 ∷ 1 ∷ 1 ∷ 7 ∷ 1 ∷ leaf2 ++ leaf3))
    ∷ see (then (bio 1 2 1048576) saved6) (top 6 4 ++ (873741824 ∷ 400000 ∷ 2570000 ∷ 7 ∷ 2048 ∷ 1 ∷ 1 ∷ 7 ∷ 0 ∷ leaf2 ++ leaf3))
    -- a second debt is added to the first, and the bio moves the end and counts
    ∷ see (then (bio 1 2 8192) owes6) (top 6 4 ++ (873741824 ∷ 0 ∷ 80000 ∷ 7 ∷ 16 ∷ 1 ∷ 1 ∷ 7 ∷ 1 ∷ leaf2 ++ leaf3))
    ∷ see (then (bio 1 0 8192) owes6) (top 6 4 ++ (873741824 ∷ 0 ∷ 50000 ∷ 7 ∷ 16 ∷ 1 ∷ 1 ∷ 7 ∷ 2 ∷ leaf2 ++ leaf3))
    -- one that owes issues nothing, whatever it has saved
    ∷ see (then (bio 1 0 4096) small6) (top 6 4 ++ (873741824 ∷ 400000 ∷ 7 ∷ 7 ∷ 8 ∷ 1 ∷ 1 ∷ 7 ∷ 1 ∷ leaf2 ++ leaf3))
    ∷ see (then (bio 1 2 4096) small6) (top 6 4 ++ (873741824 ∷ 400000 ∷ 20007 ∷ 7 ∷ 8 ∷ 1 ∷ 1 ∷ 7 ∷ 0 ∷ leaf2 ++ leaf3))
    -- a donor's bio is issued, and the donation stands; it waits or goes on debt, judged at the donor's share, and all return to
    -- base shares: 900,000 x 200,000,000 / 536,870,912
    ∷ see (then (bio 2 0 512) saved6) (top 6 4 ++ leaf1 ++ (200000000 ∷ 363129 ∷ 0 ∷ 100013 ∷ 1 ∷ 1 ∷ 1 ∷ 3 ∷ 0 ∷ leaf3))
    ∷ see (then (bio 2 0 1048576) saved6)
    (top 6 0 ++ (536870912 ∷ 400000 ∷ 0 ∷ 7 ∷ 40 ∷ 1 ∷ 0 ∷ 7 ∷ 0 ∷ 536870912 ∷ 335276 ∷ 0 ∷ 13 ∷ 2048 ∷ 1 ∷ 1 ∷ 3 ∷ 1 ∷ leaf3))
    ∷ see (then (bio 2 2 1048576) saved6)
    (top 6 0 ++ (536870912 ∷ 400000 ∷ 0 ∷ 7 ∷ 40 ∷ 1 ∷ 0 ∷ 7 ∷ 0 ∷ 536870912 ∷ 335276 ∷ 2650000 ∷ 13 ∷ 2048 ∷ 1 ∷ 1 ∷ 3 ∷ 0 ∷ leaf3))
    -- an activation ends it too: 900,000 x 200,000,000 / 357,913,941, with no share between
    ∷ see (then (bio 3 0 4096) saved6)
    (top 14 0 ++ (357913941 ∷ 400000 ∷ 0 ∷ 7 ∷ 40 ∷ 1 ∷ 0 ∷ 7 ∷ 0 ∷ 357913941 ∷ 502914 ∷ 0 ∷ 13 ∷ 16 ∷ 0 ∷ 1 ∷ 3 ∷ 0
    ∷ 357913941 ∷ 0 ∷ 0 ∷ 19 ∷ 8 ∷ 1 ∷ 1 ∷ 0 ∷ 1 ∷ []))
    ∷ see (then (bio 3 2 4096) saved6)
    (top 14 0 ++ (357913941 ∷ 400000 ∷ 0 ∷ 7 ∷ 40 ∷ 1 ∷ 0 ∷ 7 ∷ 0 ∷ 357913941 ∷ 502914 ∷ 0 ∷ 13 ∷ 16 ∷ 0 ∷ 1 ∷ 3 ∷ 0
    ∷ 357913941 ∷ 0 ∷ 20000 ∷ 19 ∷ 8 ∷ 1 ∷ 1 ∷ 0 ∷ 0 ∷ []))
    -- the bio goes behind the youngest, over the ring's end, with its cost; the places out of use stay
    ∷ see (queue_numbers (queue_at (submitted (bio 1 0 8192) waits6).state 1))
    (7 ∷ 4 ∷ 1 ∷ 2 ∷ 7 ∷ 4 ∷ 5 ∷ 6 ∷ 7 ∷ 8 ∷ 20001 ∷ 20002 ∷ 30000 ∷ 20004 ∷ 20005 ∷ 20006 ∷ 20007 ∷ 20008 ∷ [])
    -- a tick of 20,000: two of three fit at the share, oldest first, and what is left is saved
    ∷ see (book_numbers (ticked 11000 (9 ∷ 9 ∷ 9 ∷ []) waits6).state)
    (11000 ∷ 90000 ∷ 70000 ∷ 200 ∷ 37 ∷ 14 ∷ 6 ∷ 4 ∷ 873741824 ∷ 832 ∷ 0 ∷ 40016 ∷ 40 ∷ 1 ∷ 0 ∷ 1 ∷ 1
    ∷ 200000000 ∷ 920000 ∷ 0 ∷ 13 ∷ 16 ∷ 0 ∷ 1 ∷ 3 ∷ 0 ∷ leaf3)
    ∷ see (lent_of 11000 (9 ∷ 9 ∷ 9 ∷ []) waits6) (8 ∷ 1 ∷ 9 ∷ [])
    -- a part is repaid, and nothing is released; all is repaid, and then the waiter is released
    ∷ see (leaf_numbers (ticked 11000 (9 ∷ []) owes6).state 1) (873741824 ∷ 0 ∷ 33726 ∷ 16281 ∷ 40 ∷ 1 ∷ 0 ∷ 7 ∷ 1 ∷ [])
    ∷ see (leaf_numbers (ticked 11000 (9 ∷ []) both6).state 1) (873741824 ∷ 1565 ∷ 0 ∷ 15007 ∷ 40 ∷ 1 ∷ 0 ∷ 0 ∷ 0 ∷ [])
    -- what is left after a part is repaid releases nothing, however little a waiter costs
    ∷ see (turn (virt 3) (2 ^ 28) (owing 100) (holding 1)).ids []
    -- the cap comes last: the waiter is released first, and what is then left is capped
    ∷ see (row_numbers (turn (virt (2 ^ 27 + 5)) (2 ^ 30) (saved_row 0) (holding 1)).row) (2 ^ 27 ∷ 0 ∷ 0 ∷ 0 ∷ 0 ∷ 1 ∷ [])
    -- .. and one that owes is not capped
    ∷ see (row_numbers (capped (row (2 ^ 27 + 1) 1 2 3 true false) empty_queue)) ((2 ^ 27 + 1) ∷ 1 ∷ 2 ∷ 3 ∷ 1 ∷ 0 ∷ [])
    -- a quiet plan: leaf 1 goes inactive, and leaf 2, alone, holds all: 900,000 x 200,000,000 / 2^30
    ∷ see (book_numbers (planned saved6).state)
    (1000 ∷ 70000 ∷ 0 ∷ 200 ∷ 37 ∷ 14 ∷ 4 ∷ 0 ∷ 0 ∷ 0 ∷ 0 ∷ 0 ∷ 40 ∷ 1 ∷ 0 ∷ 7 ∷ 0
    ∷ 1073741824 ∷ 167638 ∷ 0 ∷ 0 ∷ 16 ∷ 0 ∷ 0 ∷ 3 ∷ 0 ∷ 0 ∷ 0 ∷ 0 ∷ 0 ∷ 24 ∷ 1 ∷ 0 ∷ 0 ∷ 0 ∷ [])
    -- leaf 1 owes, so it stays and gives nothing; leaf 2 gives more than before, and its budget stays, with no share between
    ∷ see (book_numbers (planned small6).state)
    (1000 ∷ 70000 ∷ 0 ∷ 200 ∷ 37 ∷ 14 ∷ 6 ∷ 4 ∷ 1073392858 ∷ 325600 ∷ 4 ∷ 0 ∷ 40 ∷ 1 ∷ 0 ∷ 7 ∷ 0
    ∷ 348966 ∷ 900000 ∷ 0 ∷ 0 ∷ 16 ∷ 0 ∷ 0 ∷ 3 ∷ 0 ∷ 0 ∷ 0 ∷ 0 ∷ 0 ∷ 24 ∷ 1 ∷ 0 ∷ 0 ∷ 0 ∷ [])
    -- a leaf that waits stays and gives nothing, though no bio of it was accepted
    ∷ see (leaf_numbers (planned waits6).state 1) (1073392858 ∷ 24420 ∷ 0 ∷ 0 ∷ 40 ∷ 1 ∷ 0 ∷ 7 ∷ 3 ∷ [])
    -- who gives is judged at its base share, not at the share held: leaf 2 gives less than before
    ∷ see ((planned (more6 true)).state.donors ∷ take 3 (planned (more6 true)).state.shares) (4 ∷ 0 ∷ 671088639 ∷ 402653185 ∷ [])
    ∷ see (row_numbers (row_at (planned (more6 true)).state 2)) (447034 ∷ 0 ∷ 0 ∷ 16 ∷ 0 ∷ 0 ∷ [])
    -- no plan wakes a leaf, whatever its books say
    ∷ see ((planned (more6 true)).state.active ∷ (planned (more6 false)).state.active ∷ []) (6 ∷ 6 ∷ [])
    -- the last leaf counts like any other: what it used, what waits there, what it releases, its share and its line
    ∷ see ((usage_all last63).0 ∷ waiting_all last63 ∷ sum_over (has (2 ^ 63)) last63.shares ∷ []) (5 ∷ 1 ∷ 2000 ∷ [])
    ∷ see (releases (virt 0) last63 ++ share_lines last63) (4 ∷ 80 ∷ 32 ∷ 54 ∷ 51 ∷ 32 ∷ 50 ∷ 48 ∷ 48 ∷ 48 ∷ 10 ∷ [])
    -- what remains goes to the lowest-numbered that is no donor
    ∷ see (planned (running tree6 (used 1000 ∷ used 100000000 ∷ used 100000000 ∷ []) 100000000)).state.shares
    (0 ∷ 13422 ∷ 536864201 ∷ 536864200 ∷ replicate 60 0)
    ∷ []

-- ---- outside vectors: four devices as Linux presets them, with the prices by document 01: a read's page, sequential base and
-- random base, and a write's
abbrev pub prices : ℕ → ℕ → ℕ → ℕ → ℕ → ℕ → List ℕ
prices rbps rseqiops rrandiops wbps wseqiops wrandiops =
    model_values (priced (record { rbps = rbps; rseqiops = rseqiops; rrandiops = rrandiops; wbps = wbps; wseqiops = wseqiops; wrandiops = wrandiops }))

unfoldable pub devices : List Seen
devices =
    -- hdd, ssd_qd1, ssd_dfl, ssd_fast
    see (prices 174019176 41708 370 178075866 42705 378) (23538 ∷ 439 ∷ 2679165 ∷ 23002 ∷ 415 ∷ 2622501 ∷ [])
    ∷ see (prices 245855193 61575 6946 141365009 33716 26796) (16661 ∷ 0 ∷ 127307 ∷ 28975 ∷ 685 ∷ 8345 ∷ [])
    ∷ see (prices 488636629 8932 8518 427891549 28755 21940) (8383 ∷ 103575 ∷ 109016 ∷ 9573 ∷ 25204 ∷ 36006 ∷ [])
    ∷ see (prices 3102524156 724816 778122 1742780862 425702 443193) (1321 ∷ 59 ∷ 0 ∷ 2351 ∷ 0 ∷ 0 ∷ [])
    ∷ []

-- ---- the ledger of the same calls: accepted, issued, released, repaid and forgiven of a leaf, and what is generated
abbrev pub heads : Call → Controller → ℕ → List ℕ
heads k c n = accepted k c n ∷ issued k c n ∷ released k c n ∷ repaid k c n ∷ forgiven k c n ∷ generated k c ∷ []

unfoldable pub ledger : List Seen
ledger =
    -- a bio of leaf 1: issued; waits; goes on debt; refused, since its bytes are no multiple of 512
    see (heads (Call.submit (bio 1 0 4096)) saved6 1) (20000 ∷ 20000 ∷ 0 ∷ 0 ∷ 0 ∷ 0 ∷ [])
    ∷ see (heads (Call.submit (bio 1 0 1048576)) saved6 1) (2570000 ∷ 0 ∷ 0 ∷ 0 ∷ 0 ∷ 0 ∷ [])
    ∷ see (heads (Call.submit (bio 1 2 1048576)) saved6 1) (2570000 ∷ 0 ∷ 0 ∷ 0 ∷ 0 ∷ 0 ∷ [])
    ∷ see (heads (Call.submit (bio 1 0 513)) saved6 1) (replicate 6 0)
    -- no other leaf counts
    ∷ see (heads (Call.submit (bio 1 0 4096)) saved6 2) (replicate 6 0)
    -- a tick: two are released, or a part is repaid, or all is and then one is released; refused for its buffer
    ∷ see (heads (Call.tick 11000 (9 ∷ 9 ∷ 9 ∷ [])) waits6 1) (0 ∷ 0 ∷ 40009 ∷ 0 ∷ 0 ∷ 20000 ∷ [])
    ∷ see (heads (Call.tick 11000 (9 ∷ [])) owes6 1) (0 ∷ 0 ∷ 0 ∷ 16274 ∷ 0 ∷ 20000 ∷ [])
    ∷ see (heads (Call.tick 11000 (9 ∷ [])) both6 1) (0 ∷ 0 ∷ 5000 ∷ 10000 ∷ 0 ∷ 20000 ∷ [])
    ∷ see (heads (Call.tick 11000 (9 ∷ [])) waits6 1) (replicate 6 0)
    -- a quiet plan forgives 3 of 7, and vrate counts nothing
    ∷ see (heads Call.plan small6 1) (0 ∷ 0 ∷ 0 ∷ 0 ∷ 3 ∷ 0 ∷ [])
    ∷ see (heads (Call.set (SetVrate 300)) small6 1) (replicate 6 0)
    -- what waits, what is owed, what all are charged, and what they have saved
    ∷ see (waiting waits6 1 ∷ owed owes6 1 ∷ []) (60011 ∷ 50000 ∷ [])
    ∷ see (charged (Call.tick 11000 (9 ∷ [])) both6 ∷ saved saved6 ∷ []) (15000 ∷ (400000 * 873741824 + 900000 * 200000000) ∷ [])
    ∷ []

-- ---- the replay, by its parts
-- which of the kinds are in a phase
abbrev pub kinds_in : Phase → List ℕ
kinds_in phase = table_from (λ kind. bit (in_phase phase kind)) 1 8

abbrev pub phase_number : Phase → ℕ
phase_number Setup = 0
phase_number Priced = 1
phase_number Running = 2
phase_number Stopped = 3

-- a replay of no node in this phase, its tree and its rates, and what a record does to it
abbrev pub at : Phase → Replay
at phase = within phase root_tree slowest beginning.state

abbrev pub after : Record → Phase → Step
after r phase = stepped (found r 9) (at phase)

-- a ninth bio of a leaf with 8 waiting
abbrev pub refused7 : Step
refused7 = stepped (found (BioOf (bio 1 0 4096)) 9) (within Running root_tree slowest (put_leaf 1 (saved_row 0) (holding 8) (state9 0)))

abbrev pub tree_numbers : Tree → List ℕ
tree_numbers t = t.count ∷ take 3 t.parents ++ take 3 t.weights

unfoldable pub parts : List Seen
parts =
    see (kinds_in Setup) (1 ∷ 1 ∷ 0 ∷ 0 ∷ 0 ∷ 0 ∷ 0 ∷ 0 ∷ [])
    ∷ see (kinds_in Priced) (1 ∷ 0 ∷ 1 ∷ 0 ∷ 0 ∷ 0 ∷ 0 ∷ 0 ∷ [])
    ∷ see (kinds_in Running) (0 ∷ 0 ∷ 0 ∷ 1 ∷ 1 ∷ 1 ∷ 1 ∷ 1 ∷ [])
    ∷ see (kinds_in Stopped) (replicate 8 0)
    -- the largest number has 20 digits
    ∷ see (digits (2 ^ 64 - 1)) (49 ∷ 56 ∷ 52 ∷ 52 ∷ 54 ∷ 55 ∷ 52 ∷ 52 ∷ 48 ∷ 55 ∷ 51 ∷ 55 ∷ 48 ∷ 57 ∷ 53 ∷ 53 ∷ 49 ∷ 54 ∷ 49 ∷ 53 ∷ [])
    -- nodes are numbered from 1, each with its parent and its weight
    ∷ see (tree_numbers (grown 1 7 (grown 0 5 root_tree))) (3 ∷ 0 ∷ 0 ∷ 1 ∷ 0 ∷ 5 ∷ 7 ∷ [])
    ∷ see (tree_numbers (after (Node 0 5) Priced).replay.tree) (2 ∷ 0 ∷ 0 ∷ 0 ∷ 0 ∷ 5 ∷ 0 ∷ [])
    -- a node leaves the phase, a model and start move it, a refusal of setup, 16, 17 and 18 stop it, and a refused call does not
    ∷ see (
    phase_number (after (Node 0 5) Setup).replay.phase
    ∷ phase_number (after (Node 0 5) Priced).replay.phase
    ∷ phase_number (after (Node 0 0) Priced).replay.phase
    ∷ phase_number (after (ModelOf (rates_M 1)) Setup).replay.phase
    ∷ phase_number (after (ModelOf (rates_M 0)) Setup).replay.phase
    ∷ phase_number (stepped (found (Start 0) 9) (within Priced (grown 0 5 root_tree) slowest beginning.state)).replay.phase
    ∷ phase_number (after (Start 0) Priced).replay.phase
    ∷ phase_number (after Plan Running).replay.phase
    ∷ phase_number (after (Vrate 0) Running).replay.phase
    ∷ phase_number (after (Weight 0 1) Running).replay.phase
    ∷ phase_number (after (Weight 1 1) Priced).replay.phase
    ∷ phase_number (after (Tick 0) Setup).replay.phase
    ∷ phase_number (stepped (read_at (0 ∷ []) 0) (at Running)).replay.phase
    ∷ phase_number (stepped (read_at (5 ∷ []) 0) (at Running)).replay.phase
    ∷ phase_number (stepped (read_at [] 0) (at Running)).replay.phase
    ∷ []
    ) (0 ∷ 1 ∷ 3 ∷ 1 ∷ 3 ∷ 2 ∷ 3 ∷ 2 ∷ 2 ∷ 2 ∷ 3 ∷ 3 ∷ 3 ∷ 3 ∷ 2 ∷ [])
    ∷ see ((after (ModelOf (rates_M 50000)) Setup).replay.rates.rseqiops ∷ (after (Node 0 5) Setup).replay.rates.rseqiops ∷ []) (50000 ∷ 1 ∷ [])
    -- a bio that is refused 7 prints its number, and the replay goes on
    ∷ see (refused7.bytes ++ (phase_number refused7.replay.phase ∷ [])) (82 ∷ 32 ∷ 55 ∷ 10 ∷ 2 ∷ [])
    -- a replay that has stopped reads and prints no more
    ∷ see ((after Plan Stopped).bytes ++ (stepped (read_at (0 ∷ []) 0) (at Stopped)).bytes) []
    -- the next record begins behind the last; there is none at the end, nor where nothing can be read
    ∷ see (next_place (found Plan 9) 8 ∷ next_place (read_at (1 ∷ []) 1) 1 ∷ next_place (read_at (1 ∷ 0 ∷ []) 1) 1 ∷ []) (9 ∷ 1 ∷ 1 ∷ [])
    -- a tick is lent room for all 504 that can wait
    ∷ see (tick_call 0 crowded).bytes []
    ∷ []

-- ---- a trace with lines of every kind: refused calls with their numbers, two releases in a row, an id of ten digits, shares that
-- are donated, a plan with no time since the last, and a kind that nobody knows, behind which nothing is read. Leaf 1, alone, waits for 100,000 and 20,000. Then both
-- hold a quarter and three quarters; at vrate 200 leaf 2 repays 60,000, 15,000 and 25,000, and the plan, at E 320,000 with usages
-- 160,000 and 100,000, leaves it five quarters of 100,000 / 320,000
abbrev pub asked : ℕ → ℕ → ℕ → ℕ → Record
asked node flags id sector = BioOf (record { node = node; flags = flags; id = id; sector = sector; bytes = 4096 })

unfoldable pub every_trace : List ℕ
every_trace =
    bytes_of_all (
    Node 0 100 ∷ Node 0 300 ∷ ModelOf (rates_M 50000) ∷ Start 1000
    ∷ Vrate 0 ∷ Plan ∷ Tick 999 ∷ asked 0 0 7 0
    ∷ asked 1 0 4294967295 0 ∷ asked 1 0 20 8 ∷ Tick 121000
    ∷ asked 2 2 30 0 ∷ asked 1 0 11 16 ∷ Vrate 200 ∷ Tick 161000 ∷ Tick 171000 ∷ Tick 221000
    ∷ asked 1 0 12 24 ∷ Plan ∷ Plan ∷ []
    )
    ++ (0 ∷ record_bytes Plan)

unfoldable pub every_output : List ℕ
every_output =
    82 ∷ 32 ∷ 49 ∷ 53 ∷ 10  -- R 15
    ∷ 82 ∷ 32 ∷ 49 ∷ 52 ∷ 10  -- R 14
    ∷ 82 ∷ 32 ∷ 57 ∷ 10  -- R 9
    ∷ 82 ∷ 32 ∷ 52 ∷ 10  -- R 4
    ∷ 87 ∷ 32 ∷ 52 ∷ 50 ∷ 57 ∷ 52 ∷ 57 ∷ 54 ∷ 55 ∷ 50 ∷ 57 ∷ 53 ∷ 10  -- W 4294967295
    ∷ 87 ∷ 32 ∷ 50 ∷ 48 ∷ 10  -- W 20
    ∷ 114 ∷ 32 ∷ 52 ∷ 50 ∷ 57 ∷ 52 ∷ 57 ∷ 54 ∷ 55 ∷ 50 ∷ 57 ∷ 53 ∷ 10  -- r 4294967295
    ∷ 114 ∷ 32 ∷ 50 ∷ 48 ∷ 10  -- r 20
    ∷ 68 ∷ 32 ∷ 51 ∷ 48 ∷ 10  -- D 30
    ∷ 87 ∷ 32 ∷ 49 ∷ 49 ∷ 10  -- W 11
    ∷ 114 ∷ 32 ∷ 49 ∷ 49 ∷ 10  -- r 11
    ∷ 73 ∷ 32 ∷ 49 ∷ 50 ∷ 10  -- I 12
    ∷ 80 ∷ 32 ∷ 49 ∷ 32 ∷ 54 ∷ 53 ∷ 52 ∷ 51 ∷ 49 ∷ 49 ∷ 52 ∷ 50 ∷ 52 ∷ 10  -- P 1 654311424
    ∷ 80 ∷ 32 ∷ 50 ∷ 32 ∷ 52 ∷ 49 ∷ 57 ∷ 52 ∷ 51 ∷ 48 ∷ 52 ∷ 48 ∷ 48 ∷ 10  -- P 2 419430400
    ∷ 82 ∷ 32 ∷ 49 ∷ 52 ∷ 10  -- R 14
    ∷ 82 ∷ 32 ∷ 49 ∷ 54 ∷ 10  -- R 16
    ∷ []
