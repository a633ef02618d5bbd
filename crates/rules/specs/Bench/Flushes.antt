-- Numbers of their own for flushes: what is one, what it costs wherever the last bio ended, what it leaves of its leaf, and a run in
-- which flushes are issued, wait, go on debt and are refused.
-- Assumes nothing.
use Rattle.std.specs.Prelude.{true, List, [], ◌∷◌, ◌++◌, ℕ, ◌+◌, ◌-◌, ◌^◌, replicate, take, Err, Ok}
use Rattle.rules.specs.Units.{abs, virt}
use Rattle.rules.specs.Cost.{priced}
use Rattle.rules.specs.Budget.{empty_row, fresh, row_at, queue_at, with_clock, with_sharing, with_books, put_leaf, with_budget, with_debt, with_end}
use Rattle.rules.specs.Refusals.{answer_paper, costing_paper}
use Rattle.rules.specs.Entries.{costing, started, submitted, planned}
use Rattle.rules.specs.Ledger.{Call, accepted}
use Rattle.rules.specs.declared.cost.Rates.{Rates}
use Rattle.rules.specs.declared.cost.Model.{Model}
use Rattle.rules.specs.declared.cost.Bio.{Bio}
use Rattle.rules.specs.declared.budget.Row.{Row}
use Rattle.rules.specs.declared.budget.Controller.{Controller}
use Rattle.rules.specs.declared.refusals.Answer.TheVariants.{Issued, Waits, OnDebt}
use Rattle.rules.specs.declared.refusals.Refusal.TheVariants.{BadBio, QueueFull}
use Rattle.rules.specs.Bench.{at_zero, tree6, tree7}
use Rattle.rules.specs.Bench.Run.{Move, left, run_tree, send, tick_to, plans}
use Rattle.rules.specs.Bench.Edges.{Seen, see, leaf_numbers, queue_numbers, book_numbers, top, leaf1, leaf2, leaf3, heads, saved6, waits6, owes6}
use Rattle.rules.specs.Results.{Answered}

-- ---- ssd_dfl of the devices, whose six prices differ: a read's page, sequential base and random base are 8,383, 103,575 and
-- 109,016, a write's 9,573, 25,204 and 36,006
abbrev pub ssd_rates : Rates
ssd_rates = record { rbps = 488636629; rseqiops = 8932; rrandiops = 8518; wbps = 427891549; wseqiops = 28755; wrandiops = 21940 }

abbrev pub ssd : Model
ssd = priced ssd_rates

-- the books of a state of three leaves on that device
abbrev pub on : Controller → Controller
on c = with_books c.rows c.queues (with_sharing c.active c.donors c.shares (with_clock c.clock (fresh tree6 ssd 0)))

-- a bio of node, flags, sector and bytes
abbrev pub at : ℕ → ℕ → ℕ → ℕ → Bio
at node flags sector bytes = record { node = node; flags = flags; id = 7; sector = sector; bytes = bytes }

abbrev pub flush : ℕ → ℕ → Bio
flush node sector = at node 1 sector 0

abbrev pub forced_flush : ℕ → ℕ → Bio
forced_flush node sector = at node 3 sector 0

-- a leaf whose last bio ended far away
abbrev pub far_off : Row
far_off = with_end 1000000 true at_zero

-- the number and the values of what a bio costs on a leaf
abbrev pub price_at : Model → Row → Bio → List ℕ
price_at m r b = (costing_paper (costing m r b)).number ∷ (costing_paper (costing m r b)).values

abbrev pub says : Row → Bio → List ℕ
says r b = price_at ssd r b

-- the same device with reads and writes changed about: a write's page is the cheaper one
abbrev pub turned : Model
turned = record { read = ssd.write; write = ssd.read }

unfoldable pub flush_costs : List Seen
flush_costs =
    -- one write page: first, near and far, forced or not
    see (says empty_row (flush 1 0) ++ says at_zero (flush 1 0) ++ says far_off (flush 1 0)) (0 ∷ 9573 ∷ 0 ∷ 9573 ∷ 0 ∷ 9573 ∷ [])
    ∷ see (says empty_row (forced_flush 1 0) ++ says at_zero (forced_flush 1 0)) (0 ∷ 9573 ∷ 0 ∷ 9573 ∷ [])
    ∷ see (price_at turned empty_row (flush 1 0) ++ price_at turned at_zero (flush 1 0)) (0 ∷ 8383 ∷ 0 ∷ 8383 ∷ [])
    -- a read of 0 bytes is none, forced or not; nor is a write of 512 bytes, which costs base and page; 1, 511 and 513 are refused
    ∷ see (says at_zero (at 1 0 0 0) ++ says at_zero (at 1 2 0 0)) (5 ∷ 5 ∷ [])
    ∷ see (says at_zero (at 1 1 0 512) ++ says empty_row (at 1 1 0 512) ++ says at_zero (at 1 3 0 512)) (0 ∷ 34777 ∷ 0 ∷ 45579 ∷ 0 ∷ 34777 ∷ [])
    ∷ see (says at_zero (at 1 1 0 1) ++ says at_zero (at 1 1 0 511) ++ says at_zero (at 1 1 0 513)) (5 ∷ 5 ∷ 5 ∷ [])
    -- its sector and its flags are checked as ever
    ∷ see (says at_zero (flush 1 (2 ^ 48)) ++ says at_zero (flush 1 (2 ^ 48 + 1))) (0 ∷ 9573 ∷ 5 ∷ [])
    ∷ see (says at_zero (forced_flush 1 (2 ^ 48)) ++ says at_zero (forced_flush 1 (2 ^ 48 + 1))) (0 ∷ 9573 ∷ 5 ∷ [])
    ∷ see (says at_zero (at 1 4 0 0) ++ says at_zero (at 1 5 0 0) ++ says at_zero (at 1 7 0 0) ++ says at_zero (at 1 255 0 0)) (5 ∷ 5 ∷ 5 ∷ 5 ∷ [])
    ∷ []

-- ---- whole books behind a flush: leaf 1's last bio ended at 40, leaf 2 had none, leaf 3 is not active
abbrev pub then : Bio → Controller → List ℕ
then b c = book_numbers (submitted b (on c)).state

-- what a bio is answered
abbrev pub told : Bio → Controller → List ℕ
told b c = (answer_paper (submitted b c).answer).number ∷ (answer_paper (submitted b c).answer).values

-- leaf 1 owes so much
abbrev pub owing6 : ℕ → Controller
owing6 debt = put_leaf 1 (with_debt (abs debt) (row_at owes6 1)) (queue_at owes6 1) (on owes6)

-- the donor has saved so much
abbrev pub giving6 : ℕ → Controller
giving6 budget = put_leaf 2 (with_budget (virt budget) (row_at saved6 2)) (queue_at saved6 2) saved6

-- what a read of 4,096 bytes at a sector costs behind a bio
abbrev pub next : ℕ → ℕ → Bio → Controller → ℕ
next node sector b c = accepted (Call.submit (at node 2 sector 4096)) (submitted b (on c)).state node

unfoldable pub flush_books : List Seen
flush_books =
    -- issued, 11,765 at its share: the end stays at 40, and it counts since the last plan; the donation stands
    see (then (flush 1 0) saved6) (top 6 4 ++ (873741824 ∷ 388235 ∷ 0 ∷ 9580 ∷ 40 ∷ 1 ∷ 1 ∷ 7 ∷ 0 ∷ leaf2 ++ leaf3))
    ∷ see (then (forced_flush 1 0) saved6) (top 6 4 ++ (873741824 ∷ 388235 ∷ 0 ∷ 9580 ∷ 40 ∷ 1 ∷ 1 ∷ 7 ∷ 0 ∷ leaf2 ++ leaf3))
    -- of a leaf that had no bio: it still had none
    ∷ see (then (flush 2 999) saved6) (top 6 4 ++ leaf1 ++ (200000000 ∷ 848605 ∷ 0 ∷ 9586 ∷ 16 ∷ 0 ∷ 1 ∷ 3 ∷ 0 ∷ leaf3))
    -- it waits behind a debt or a waiter, and goes on debt
    ∷ see (then (flush 1 0) owes6) (top 6 4 ++ (873741824 ∷ 0 ∷ 50000 ∷ 7 ∷ 40 ∷ 1 ∷ 1 ∷ 7 ∷ 2 ∷ leaf2 ++ leaf3))
    ∷ see (then (forced_flush 1 0) owes6) (top 6 4 ++ (873741824 ∷ 0 ∷ 59573 ∷ 7 ∷ 40 ∷ 1 ∷ 1 ∷ 7 ∷ 1 ∷ leaf2 ++ leaf3))
    ∷ see (queue_numbers (queue_at (submitted (flush 1 0) (on waits6)).state 1))
    (7 ∷ 4 ∷ 1 ∷ 2 ∷ 7 ∷ 4 ∷ 5 ∷ 6 ∷ 7 ∷ 8 ∷ 20001 ∷ 20002 ∷ 9573 ∷ 20004 ∷ 20005 ∷ 20006 ∷ 20007 ∷ 20008 ∷ [])
    -- forced, it fits past those that wait: 11,765 of 30,000
    ∷ see (then (forced_flush 1 0) waits6) (top 6 4 ++ (873741824 ∷ 18235 ∷ 0 ∷ 9580 ∷ 40 ∷ 1 ∷ 1 ∷ 7 ∷ 3 ∷ leaf2 ++ leaf3))
    -- a donor's that waits or goes on debt ends the donation: 51,394 of 51,395 are there, 51,394 x 200,000,000 / 536,870,912
    ∷ see (then (flush 2 0) (giving6 51395)) (top 6 4 ++ leaf1 ++ (200000000 ∷ 0 ∷ 0 ∷ 9586 ∷ 16 ∷ 0 ∷ 1 ∷ 3 ∷ 0 ∷ leaf3))
    ∷ see (then (flush 2 0) (giving6 51394))
    (top 6 0 ++ (536870912 ∷ 400000 ∷ 0 ∷ 7 ∷ 40 ∷ 1 ∷ 0 ∷ 7 ∷ 0 ∷ 536870912 ∷ 19145 ∷ 0 ∷ 13 ∷ 16 ∷ 0 ∷ 1 ∷ 3 ∷ 1 ∷ leaf3))
    ∷ see (then (forced_flush 2 0) (giving6 51394))
    (top 6 0 ++ (536870912 ∷ 400000 ∷ 0 ∷ 7 ∷ 40 ∷ 1 ∷ 0 ∷ 7 ∷ 0 ∷ 536870912 ∷ 19145 ∷ 9573 ∷ 13 ∷ 16 ∷ 0 ∷ 1 ∷ 3 ∷ 0 ∷ leaf3))
    -- it wakes its leaf, which keeps its end
    ∷ see (then (flush 3 0) saved6)
    (top 14 0 ++ (357913941 ∷ 400000 ∷ 0 ∷ 7 ∷ 40 ∷ 1 ∷ 0 ∷ 7 ∷ 0 ∷ 357913941 ∷ 502914 ∷ 0 ∷ 13 ∷ 16 ∷ 0 ∷ 1 ∷ 3 ∷ 0
    ∷ 357913941 ∷ 0 ∷ 0 ∷ 19 ∷ 24 ∷ 1 ∷ 1 ∷ 0 ∷ 1 ∷ []))
    ∷ see (then (forced_flush 3 0) saved6)
    (top 14 0 ++ (357913941 ∷ 400000 ∷ 0 ∷ 7 ∷ 40 ∷ 1 ∷ 0 ∷ 7 ∷ 0 ∷ 357913941 ∷ 502914 ∷ 0 ∷ 13 ∷ 16 ∷ 0 ∷ 1 ∷ 3 ∷ 0
    ∷ 357913941 ∷ 0 ∷ 9573 ∷ 19 ∷ 24 ∷ 1 ∷ 1 ∷ 0 ∷ 0 ∷ []))
    -- refused for its sector, its flags, or as a read: nothing changes
    ∷ see (then (flush 1 (2 ^ 48 + 1)) saved6 ++ then (at 1 5 0 0) saved6) (top 6 4 ++ leaf1 ++ leaf2 ++ leaf3 ++ top 6 4 ++ leaf1 ++ leaf2 ++ leaf3)
    ∷ see (then (at 1 0 0 0) saved6) (top 6 4 ++ leaf1 ++ leaf2 ++ leaf3)
    -- 4 at the root, an inner node and one that is not there, and before 5; the leaf below that inner node waits
    ∷ see (told (flush 0 0) (on saved6) ++ told (flush 4 0) (on saved6) ++ told (forced_flush 200 (2 ^ 48 + 1)) (on saved6)) (4 ∷ 4 ∷ 4 ∷ [])
    ∷ see (told (flush 1 0) (fresh (tree7 1023) ssd 0) ++ told (flush 3 0) (fresh (tree7 1023) ssd 0)) (4 ∷ 0 ∷ 87 ∷ [])
    -- 8 where the debt would pass its limit by one, and on debt where it would not
    ∷ see (told (forced_flush 1 0) (owing6 (2 ^ 40 - 9573)) ++ told (forced_flush 1 0) (owing6 (2 ^ 40 - 9572))) (0 ∷ 68 ∷ 8 ∷ [])
    -- the next read is sequential by the end that stands, wherever the flush lay, and random where the flush lay
    ∷ see (next 1 40 (flush 1 0) saved6 ∷ next 1 40 (flush 1 1000000) saved6 ∷ next 1 1000000 (flush 1 1000000) saved6 ∷ []) (111958 ∷ 111958 ∷ 117399 ∷ [])
    -- and of a leaf that had none before it is the first: random, also where the flush lay
    ∷ see (next 2 16 (flush 2 16) saved6 ∷ next 2 0 (flush 2 0) saved6 ∷ []) (117399 ∷ 117399 ∷ [])
    -- any other bio moves the end, and is the first: a read or a write of 512 bytes at 1,000,000, or of leaf 2, forced or not, and one
    -- of 4,096
    ∷ see (next 1 1000000 (at 1 0 1000000 512) saved6 ∷ next 1 40 (at 1 0 1000000 512) saved6 ∷ next 2 0 (at 2 0 0 512) saved6 ∷ []) (111958 ∷ 117399 ∷ 111958 ∷ [])
    ∷ see (next 1 1000000 (at 1 1 1000000 512) saved6 ∷ next 1 40 (at 1 3 1000000 512) saved6 ∷ next 2 0 (at 2 1 0 512) saved6 ∷ []) (111958 ∷ 117399 ∷ 111958 ∷ [])
    ∷ see (next 1 1000000 (at 1 2 1000000 512) saved6 ∷ next 2 0 (at 2 2 0 512) saved6 ∷ next 2 0 (at 2 3 0 512) saved6 ∷ []) (111958 ∷ 111958 ∷ 111958 ∷ [])
    ∷ see (then (at 1 1 0 4096) saved6) (top 6 4 ++ (873741824 ∷ 357262 ∷ 0 ∷ 34784 ∷ 8 ∷ 1 ∷ 1 ∷ 7 ∷ 0 ∷ leaf2 ++ leaf3))
    -- a leaf whose only bio since the last plan is a flush stays active, and else would not
    ∷ see ((planned (submitted (flush 1 0) (on saved6)).state).state.active ∷ (planned (on saved6)).state.active ∷ []) (6 ∷ 4 ∷ [])
    -- the ledger: accepted and issued, accepted alone, and neither; no other leaf counts
    ∷ see (heads (Call.submit (flush 1 0)) (on saved6) 1 ++ heads (Call.submit (flush 1 0)) (on saved6) 2) (9573 ∷ 9573 ∷ 0 ∷ 0 ∷ 0 ∷ 0 ∷ replicate 6 0)
    ∷ see (heads (Call.submit (flush 1 0)) (on owes6) 1 ++ heads (Call.submit (forced_flush 1 0)) (on owes6) 1) (9573 ∷ 0 ∷ 0 ∷ 0 ∷ 0 ∷ 0 ∷ 9573 ∷ 0 ∷ 0 ∷ 0 ∷ 0 ∷ 0 ∷ [])
    ∷ see (heads (Call.submit (at 1 0 0 0)) (on saved6) 1) (replicate 6 0)
    ∷ []

-- ---- a run of leaf 1, alone, with the budget of each tick worked out to the last nanosecond
abbrev pub flushed : ℕ → ℕ → ℕ → Answered → Move
flushed flags id sector answer = send 1 flags id sector 0 answer

unfoldable pub flushing : List Move
flushing =
    -- the first bio is a flush, which wakes its leaf, waits for 9,573 and is released
    flushed 1 1 0 (Ok Waits)
    ∷ tick_to 9572 1 (Ok 0) (0 ∷ [])
    ∷ tick_to 9573 1 (Ok 1) (1 ∷ [])
    -- the read behind it is the leaf's first: 117,399, where a sequential one costs 111,958
    ∷ send 1 0 2 0 4096 (Ok Waits)
    ∷ tick_to 121531 1 (Ok 0) (0 ∷ [])
    ∷ tick_to 126972 1 (Ok 1) (2 ∷ [])
    -- a flush far away, between two sequential reads
    ∷ flushed 1 3 1000000 (Ok Waits)
    ∷ tick_to 136545 1 (Ok 1) (3 ∷ [])
    ∷ send 1 0 4 8 4096 (Ok Waits)
    ∷ tick_to 248502 1 (Ok 0) (0 ∷ [])
    ∷ tick_to 248503 1 (Ok 1) (4 ∷ [])
    -- on debt, behind it, and on debt again; four that are refused 5
    ∷ flushed 3 5 16 (Ok OnDebt)
    ∷ flushed 1 6 16 (Ok Waits)
    ∷ flushed 3 7 5000000 (Ok OnDebt)
    ∷ flushed 0 8 16 (Err BadBio)
    ∷ flushed 2 8 16 (Err BadBio)
    ∷ flushed 1 8 (2 ^ 48 + 1) (Err BadBio)
    ∷ flushed 5 8 16 (Err BadBio)
    -- the queue fills; a ninth is refused 7, and a forced one is not
    ∷ flushed 1 9 (2 ^ 48) (Ok Waits)
    ∷ flushed 1 10 0 (Ok Waits)
    ∷ flushed 1 11 0 (Ok Waits)
    ∷ flushed 1 12 0 (Ok Waits)
    ∷ flushed 1 13 0 (Ok Waits)
    ∷ flushed 1 14 0 (Ok Waits)
    ∷ flushed 1 15 0 (Ok Waits)
    ∷ flushed 1 16 0 (Err QueueFull)
    ∷ flushed 3 17 0 (Ok OnDebt)
    -- three are repaid and eight released, for 105,303 in all
    ∷ tick_to 353805 8 (Ok 7) (6 ∷ 9 ∷ 10 ∷ 11 ∷ 12 ∷ 13 ∷ 14 ∷ 0 ∷ [])
    ∷ tick_to 353806 1 (Ok 1) (15 ∷ [])
    -- issued; a plan closes all this
    ∷ tick_to 363379 0 (Ok 0) []
    ∷ flushed 1 18 0 (Ok Issued)
    ∷ plans (Ok tt)
    -- all that the leaf does up to the next plan is a flush, which is issued; up to the one behind it a flush that waits and is
    -- released; and up to the last it does nothing
    ∷ tick_to 372952 0 (Ok 0) []
    ∷ flushed 3 19 0 (Ok Issued)
    ∷ tick_to 372953 0 (Ok 0) []
    ∷ plans (Ok tt)
    ∷ flushed 1 20 0 (Ok Waits)
    ∷ tick_to 382525 1 (Ok 1) (20 ∷ [])
    ∷ plans (Ok tt)
    ∷ tick_to 382526 0 (Ok 0) []
    ∷ plans (Ok tt)
    ∷ flushed 1 21 0 (Ok Waits)
    ∷ []

unfoldable pub flush_begun : Controller
flush_begun = (started run_tree ssd_rates 0).state

abbrev pub flushed_up_to : ℕ → Controller
flushed_up_to k = left (take k flushing) flush_begun

-- the active leaves and leaf 1, after so many moves
abbrev pub stands : ℕ → List ℕ
stands k = (flushed_up_to k).active ∷ leaf_numbers (flushed_up_to k) 1
