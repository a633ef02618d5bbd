-- Numbers of their own for the question: what it answers by what is the leaf's own, on both sides of every edge, what it answers in
-- states where another leaf, another share or another row would answer otherwise, and the bench's run with a question before each bio.
-- Assumes nothing.
use Rattle.std.specs.Prelude.{true, false, List, [], ◌∷◌, ◌++◌, ℕ, ◌+◌, ◌-◌, ◌^◌, replicate}
use Rattle.rules.specs.Numbers.{whole}
use Rattle.rules.specs.Units.{abs, virt}
use Rattle.rules.specs.Cost.{priced}
use Rattle.rules.specs.Budget.{empty_row, empty_queue, fresh, row_at, queue_at, with_sharing, put_leaf, with_budget, with_debt}
use Rattle.rules.specs.Refusals.{answer_paper}
use Rattle.rules.specs.Entries.{submitted}
use Rattle.rules.specs.Question.{ruling, asked, question}
use Rattle.rules.specs.Ledger.{Call, after, exact}
use Rattle.rules.specs.declared.cost.Model.{Model}
use Rattle.rules.specs.declared.cost.Bio.{Bio}
use Rattle.rules.specs.declared.budget.Row.{Row}
use Rattle.rules.specs.declared.budget.Own.{Own}
use Rattle.rules.specs.declared.budget.Controller.{Controller}
use Rattle.rules.specs.Bench.{M, tree5, tree7, bio}
use Rattle.rules.specs.Bench.Run.{Reply, Move, run_rates}
use Rattle.rules.specs.Bench.Edges.{Seen, see, book_numbers, heads, saved6, waits6, owes6}
use Rattle.rules.specs.Results.{Answered}

-- ---- by what is the leaf's own: a bio of flags, sector and bytes
abbrev pub at : ℕ → ℕ → ℕ → Bio
at flags sector bytes = record { node = 1; flags = flags; id = 7; sector = sector; bytes = bytes }

abbrev pub says : Answered → List ℕ
says a = (answer_paper a).number ∷ (answer_paper a).values

-- a leaf of a share on a device, with this row, at which so many wait
abbrev pub leaf_on : Model → ℕ → Row → ℕ → Own
leaf_on m share row waiting = record { leaf = true; active = true; model = m; share = share; row = row; waiting = waiting }

-- and one that is not active, and a node that is no leaf, whatever their books have
abbrev pub resting : Own → Own
resting o = record { leaf = true; active = false; model = o.model; share = o.share; row = o.row; waiting = o.waiting }

abbrev pub inner : Own → Own
inner o = record { leaf = false; active = o.active; model = o.model; share = o.share; row = o.row; waiting = o.waiting }

-- budget and debt, of a leaf whose last bio ended at sector 40, and of one that had none
abbrev pub near : ℕ → ℕ → Row
near budget debt = record { budget = virt budget; debt = abs debt; usage = abs 5; end = 40; begun = true; accepted = true }

abbrev pub first : ℕ → ℕ → Row
first budget debt = record { budget = virt budget; debt = abs debt; usage = abs 5; end = 40; begun = false; accepted = true }

-- a leaf that holds half of the device
abbrev pub half : Row → ℕ → Own
half = leaf_on M 536870912

-- what the slowest writes cost: a page is a second, so three are too dear
abbrev pub slow : Model
slow = priced run_rates

unfoldable pub question_numbers : List Seen
question_numbers =
    -- a read behind the last end costs 20,000, which is 40,000 of this leaf's budget: one less waits, or goes on debt if forced
    see (says (asked (at 0 40 4096) (half (near 40000 0) 0)) ++ says (asked (at 0 40 4096) (half (near 39999 0) 0))) (0 ∷ 73 ∷ 0 ∷ 87 ∷ [])
    ∷ see (says (asked (at 2 40 4096) (half (near 40000 0) 0)) ++ says (asked (at 2 40 4096) (half (near 39999 0) 0))) (0 ∷ 73 ∷ 0 ∷ 68 ∷ [])
    -- the same read as the leaf's first costs 100,000, at any sector, also at 0 and where the end stands
    ∷ see (says (asked (at 0 40 4096) (half (first 40000 0) 0)) ++ says (asked (at 0 40 4096) (half (first 199999 0) 0))) (0 ∷ 87 ∷ 0 ∷ 87 ∷ [])
    ∷ see (says (asked (at 0 40 4096) (half (first 200000 0) 0)) ++ says (asked (at 2 0 4096) (half (first 199999 0) 0))) (0 ∷ 73 ∷ 0 ∷ 68 ∷ [])
    -- a write of one page costs 40,000 there and 200,000 as the first; a flush 20,000, wherever it lies
    ∷ see (says (asked (at 1 40 4096) (half (near 80000 0) 0)) ++ says (asked (at 1 40 4096) (half (near 79999 0) 0))) (0 ∷ 73 ∷ 0 ∷ 87 ∷ [])
    ∷ see (says (asked (at 1 40 4096) (half (first 400000 0) 0)) ++ says (asked (at 1 40 4096) (half (first 399999 0) 0))) (0 ∷ 73 ∷ 0 ∷ 87 ∷ [])
    ∷ see (says (asked (at 1 900 0) (half (first 40000 0) 0)) ++ says (asked (at 1 900 0) (half (first 39999 0) 0))) (0 ∷ 73 ∷ 0 ∷ 87 ∷ [])
    -- of another share: 20,000 is 20,000 of the whole device, 21,474,837 at a share of 1,000,000, rounded up, and 20,971,520,000 at the
    -- least share
    ∷ see (says (asked (at 0 40 4096) (leaf_on M whole (near 20000 0) 0)) ++ says (asked (at 0 40 4096) (leaf_on M whole (near 19999 0) 0))) (0 ∷ 73 ∷ 0 ∷ 87 ∷ [])
    ∷ see (says (asked (at 0 40 4096) (leaf_on M 1000000 (near 21474837 0) 0)) ++ says (asked (at 0 40 4096) (leaf_on M 1000000 (near 21474836 0) 0))) (0 ∷ 73 ∷ 0 ∷ 87 ∷ [])
    ∷ see (says (asked (at 0 40 4096) (leaf_on M 1024 (near 20971520000 0) 0)) ++ says (asked (at 0 40 4096) (leaf_on M 1024 (near 20971519999 0) 0))) (0 ∷ 73 ∷ 0 ∷ 87 ∷ [])
    -- what waits comes first, and a forced one goes past it
    ∷ see (says (asked (at 0 40 4096) (half (near 40000 0) 1)) ++ says (asked (at 2 40 4096) (half (near 40000 0) 1))) (0 ∷ 87 ∷ 0 ∷ 73 ∷ [])
    -- a debt of 1: neither is issued
    ∷ see (says (asked (at 0 40 4096) (half (near 40000 1) 0)) ++ says (asked (at 2 40 4096) (half (near 40000 1) 0))) (0 ∷ 87 ∷ 0 ∷ 68 ∷ [])
    -- 7 with eight that wait, and not with seven; no forced one is refused 7, issued or on debt
    ∷ see (says (asked (at 0 40 4096) (half (near 40000 0) 7)) ++ says (asked (at 0 40 4096) (half (near 40000 0) 8))) (0 ∷ 87 ∷ 7 ∷ [])
    ∷ see (says (asked (at 2 40 4096) (half (near 40000 0) 8)) ++ says (asked (at 2 40 4096) (half (near 39999 0) 8))) (0 ∷ 73 ∷ 0 ∷ 68 ∷ [])
    -- 8 where the debt would pass 2^40 by one; an unforced one waits then
    ∷ see (says (asked (at 2 40 4096) (half (near 0 (2 ^ 40 - 20000)) 0)) ++ says (asked (at 2 40 4096) (half (near 0 (2 ^ 40 - 19999)) 0))) (0 ∷ 68 ∷ 8 ∷ [])
    ∷ see (says (asked (at 0 40 4096) (half (near 0 (2 ^ 40)) 0)) ++ says (asked (at 2 40 4096) (half (near 0 (2 ^ 40)) 8))) (0 ∷ 87 ∷ 8 ∷ [])
    -- 5: flags, bytes and sector; a read of 0 bytes
    ∷ see (says (asked (at 4 40 4096) (half (near 40000 0) 0)) ++ says (asked (at 0 40 513) (half (near 40000 0) 0))) (5 ∷ 5 ∷ [])
    ∷ see (says (asked (at 0 (2 ^ 48 + 1) 4096) (half (near 40000 0) 0)) ++ says (asked (at 0 40 0) (half (near 40000 0) 0))) (5 ∷ 5 ∷ [])
    -- 6: three pages of a second each, and two are on debt
    ∷ see (says (asked (at 3 40 12288) (leaf_on slow whole (near 40000 0) 0)) ++ says (asked (at 3 40 8192) (leaf_on slow whole (near 40000 0) 0))) (6 ∷ 0 ∷ 68 ∷ [])
    -- in this order: 4, 5, 6, 7 and 8
    ∷ see (says (asked (at 4 40 513) (inner (half (near 0 (2 ^ 40)) 8))) ++ says (asked (at 4 40 513) (half (near 0 (2 ^ 40)) 8))) (4 ∷ 5 ∷ [])
    ∷ see (says (asked (at 1 40 12288) (leaf_on slow whole (near 0 0) 8)) ++ says (asked (at 3 40 12288) (leaf_on slow whole (near 0 (2 ^ 40)) 8))) (6 ∷ 6 ∷ [])
    -- 4 of a node that is no leaf, active or not
    ∷ see (says (asked (at 0 40 4096) (inner (half (near 40000 0) 0))) ++ says (asked (at 2 40 4096) (inner (resting (half (near 40000 0) 0))))) (4 ∷ 4 ∷ [])
    -- a leaf that is not active: waits, or on debt if forced, whatever its books have; 5 and 6 as ever, and neither 7 nor 8
    ∷ see (says (asked (at 0 40 4096) (resting (half (near 40000 0) 0))) ++ says (asked (at 2 40 4096) (resting (half (near 40000 0) 0)))) (0 ∷ 87 ∷ 0 ∷ 68 ∷ [])
    ∷ see (says (asked (at 1 900 0) (resting (half empty_row 0))) ++ says (asked (at 3 900 0) (resting (half empty_row 0)))) (0 ∷ 87 ∷ 0 ∷ 68 ∷ [])
    ∷ see (says (asked (at 4 40 4096) (resting (half empty_row 0))) ++ says (asked (at 1 40 12288) (resting (leaf_on slow whole empty_row 0)))) (5 ∷ 6 ∷ [])
    ∷ see (says (asked (at 0 40 4096) (resting (half (near 0 0) 8))) ++ says (asked (at 2 40 4096) (resting (half (near 0 (2 ^ 40)) 0)))) (0 ∷ 87 ∷ 0 ∷ 68 ∷ [])
    -- the cost that is found beside the answer: the bio's, at an active leaf and at any other; none where it was refused 4, 5 or 6
    ∷ see ((ruling (at 0 40 4096) (half (near 40000 0) 0)).cost.0 ∷ (ruling (at 0 40 4096) (half (near 0 0) 8)).cost.0 ∷ []) (20000 ∷ 20000 ∷ [])
    ∷ see ((ruling (at 0 40 4096) (resting (half empty_row 0))).cost.0 ∷ (ruling (at 0 40 4096) (inner (half (near 40000 0) 0))).cost.0 ∷ []) (100000 ∷ 0 ∷ [])
    ∷ see ((ruling (at 4 40 4096) (half (near 40000 0) 0)).cost.0 ∷ (ruling (at 3 40 12288) (leaf_on slow whole (near 40000 0) 0)).cost.0 ∷ []) (0 ∷ 0 ∷ [])
    ∷ []

-- ---- in a state: leaf 1 takes, leaf 2 gives and leaf 3 is not active
-- what the question answers, and what submission answers
abbrev pub tells : Bio → Controller → List ℕ
tells b c = says (question b c) ++ says (submitted b c).answer

-- leaf 2 has saved so much: it holds 200,000,000, and its base share is 536,870,912
abbrev pub giving6 : ℕ → Controller
giving6 budget = put_leaf 2 (with_budget (virt budget) (row_at saved6 2)) (queue_at saved6 2) saved6

-- and leaf 1
abbrev pub taking6 : ℕ → Controller
taking6 budget = put_leaf 1 (with_budget (virt budget) (row_at saved6 1)) (queue_at saved6 1) saved6

-- leaf 1 has that many of the eight waiting
abbrev pub full6 : ℕ → Controller
full6 len = put_leaf 1 (row_at waits6 1) (record { ids = (queue_at waits6 1).ids; costs = (queue_at waits6 1).costs; head = 7; len = len }) waits6

abbrev pub indebted6 : ℕ → Controller
indebted6 debt = put_leaf 1 (with_debt (abs debt) (row_at owes6 1)) (queue_at owes6 1) owes6

-- what node 1 of saved6 has, in a state of which all else is another's: the tree, the sets but for node 1, the clock, the other books
abbrev pub elsewhere : Controller
elsewhere =
    put_leaf 1 (row_at saved6 1) empty_queue
    (with_sharing 2 0 (0 ∷ 873741824 ∷ 0 ∷ []) (fresh tree5 M 9))

unfoldable pub questions_asked : List Seen
questions_asked =
    -- the donor's first read costs 100,000: 536,871 at the share that it holds, and 200,000 at its base share
    see (tells (bio 2 0 4096) (giving6 536871) ++ tells (bio 2 0 4096) (giving6 536870)) (0 ∷ 73 ∷ 0 ∷ 73 ∷ 0 ∷ 87 ∷ 0 ∷ 87 ∷ [])
    ∷ see (tells (bio 2 2 4096) (giving6 536871) ++ tells (bio 2 2 4096) (giving6 536870)) (0 ∷ 73 ∷ 0 ∷ 73 ∷ 0 ∷ 68 ∷ 0 ∷ 68 ∷ [])
    -- the taker's, behind its last end: 20,000 are 24,579 of what it holds, and 40,000 at its base share
    ∷ see (tells (bio 1 0 4096) (taking6 24579) ++ tells (bio 1 0 4096) (taking6 24578)) (0 ∷ 73 ∷ 0 ∷ 73 ∷ 0 ∷ 87 ∷ 0 ∷ 87 ∷ [])
    -- three wait: an unforced one waits, and a forced one goes past them
    ∷ see (tells (bio 1 0 4096) waits6 ++ tells (bio 1 2 4096) waits6) (0 ∷ 87 ∷ 0 ∷ 87 ∷ 0 ∷ 73 ∷ 0 ∷ 73 ∷ [])
    -- 7 and 8
    ∷ see (tells (bio 1 0 4096) (full6 7) ++ tells (bio 1 0 4096) (full6 8) ++ tells (bio 1 2 4096) (full6 8)) (0 ∷ 87 ∷ 0 ∷ 87 ∷ 7 ∷ 7 ∷ 0 ∷ 73 ∷ 0 ∷ 73 ∷ [])
    ∷ see (tells (bio 1 2 4096) (indebted6 (2 ^ 40 - 20000)) ++ tells (bio 1 2 4096) (indebted6 (2 ^ 40 - 19999))) (0 ∷ 68 ∷ 0 ∷ 68 ∷ 8 ∷ 8 ∷ [])
    -- the leaf that is not active, near its last end
    ∷ see (tells (bio 3 0 4096) saved6 ++ tells (bio 3 2 4096) saved6 ++ tells (bio 3 4 4096) saved6) (0 ∷ 87 ∷ 0 ∷ 87 ∷ 0 ∷ 68 ∷ 0 ∷ 68 ∷ 5 ∷ 5 ∷ [])
    -- the root, an inner node, and nodes that are not there: 4, before 5
    ∷ see (tells (bio 0 0 4096) saved6 ++ tells (bio 0 2 4096) saved6 ++ tells (bio 4 0 4096) saved6) (4 ∷ 4 ∷ 4 ∷ 4 ∷ 4 ∷ 4 ∷ [])
    ∷ see (tells (bio 200 2 4096) saved6 ++ tells (bio 255 255 513) saved6 ++ tells (bio 64 0 4096) saved6) (4 ∷ 4 ∷ 4 ∷ 4 ∷ 4 ∷ 4 ∷ [])
    ∷ see (tells (bio 1 0 4096) (fresh (tree7 1023) M 0) ++ tells (bio 3 0 4096) (fresh (tree7 1023) M 0)) (4 ∷ 4 ∷ 0 ∷ 87 ∷ 0 ∷ 87 ∷ [])
    -- nothing but the leaf's own: another tree, other leaves, no donor, another clock
    ∷ see (says (question (bio 1 0 4096) saved6) ++ says (question (bio 1 0 4096) elsewhere)) (0 ∷ 73 ∷ 0 ∷ 73 ∷ [])
    ∷ see (says (question (bio 1 0 1048576) saved6) ++ says (question (bio 1 0 1048576) elsewhere)) (0 ∷ 87 ∷ 0 ∷ 87 ∷ [])
    -- the state stays, whatever is answered, and nothing counts in any head
    ∷ see (book_numbers (after (Call.ask (bio 2 0 1048576)) saved6)) (book_numbers saved6)
    ∷ see (book_numbers (after (Call.ask (bio 3 0 4096)) saved6) ++ book_numbers (after (Call.ask (bio 1 2 4096)) owes6)) (book_numbers saved6 ++ book_numbers owes6)
    ∷ see (heads (Call.ask (bio 1 0 4096)) saved6 1 ++ heads (Call.ask (bio 1 2 8192)) owes6 1) (replicate 12 0)
    ∷ see (exact (Call.ask (bio 1 0 4096)) saved6 ∷ []) (0 ∷ [])
    ∷ []

-- ---- the bench's run with a question before each bio, which has the bio's own answer: every one of them, and 4 to 8 among them
abbrev pub asks_first : Call → Reply → List Move → List Move
asks_first (Call.submit b) want ms = record { call = Call.ask b; want = want } ∷ record { call = Call.submit b; want = want } ∷ ms
asks_first (Call.ask b) want ms = record { call = Call.ask b; want = want } ∷ ms
asks_first (Call.tick time lent) want ms = record { call = Call.tick time lent; want = want } ∷ ms
asks_first Call.plan want ms = record { call = Call.plan; want = want } ∷ ms
asks_first (Call.set x) want ms = record { call = Call.set x; want = want } ∷ ms

abbrev pub asking_first : List Move → List Move
asking_first [] = []
asking_first (m ∷ ms) = asks_first m.call m.want (asking_first ms)
