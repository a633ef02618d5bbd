-- Numbers of their own for another weight in flight: when it is refused, the books before and after it, what the ledger makes
-- of it, and a trace.
-- Assumes nothing.
use Rattle.std.specs.Prelude.{List, [], ◌∷◌, ◌++◌, ℕ, replicate, take}
use Rattle.rules.specs.Words.{no_node}
use Rattle.rules.specs.Budget.{fresh, queue_at, with_sharing, with_tree}
use Rattle.rules.specs.Refusals.{verdict_number, weight_checks}
use Rattle.rules.specs.Entries.{slowest, weighted}
use Rattle.rules.specs.Replay.{within, stepped}
use Rattle.rules.specs.Ledger.{Call}
use Rattle.rules.specs.declared.budget.Controller.{Controller}
use Rattle.rules.specs.declared.trace.Record.TheVariants.{Node, Model as ModelOf, Start, Tick, Plan, Weight}
use Rattle.rules.specs.declared.replay.Phase.TheVariants.{Running}
use Rattle.rules.specs.declared.replay.Setting.TheVariants.{Weight as SetWeight}
use Rattle.rules.specs.Bench.{bytes_of_all, B, rates_M, M, tree5, tree6, tree7, Case}
use Rattle.rules.specs.Bench.Edges.{gives, read, Seen, see, leaf_numbers, book_numbers, queue_numbers, saved6, owes6, leaf1, leaf2, leaf3, top, heads, asked}
use Rattle.rules.specs.Results.{found}

-- ---- when it is refused: 19 for the root and for what is not below it, before 22 for the weight, before 2 for a leaf that
-- another one's weight makes thin; B7's tree with B8's weight is thin, and with B7's again it is not
abbrev pub answered : ℕ → ℕ → Controller → ℕ
answered n w c = verdict_number (weighted n w c).answer

unfoldable pub weight_edges : List Case
weight_edges =
    gives 0 (weight_checks 1 100 tree5) ∷ gives 0 (weight_checks 2 100 tree5)
    ∷ gives 19 (weight_checks 0 100 tree5) ∷ gives 19 (weight_checks 3 100 tree5) ∷ gives 19 (weight_checks 255 100 tree5)
    ∷ gives 0 (weight_checks 1 1 tree5) ∷ gives 22 (weight_checks 1 0 tree5)
    ∷ gives 0 (weight_checks 1 10000 tree5) ∷ gives 22 (weight_checks 1 10001 tree5) ∷ gives 22 (weight_checks 1 65535 tree5)
    ∷ gives 19 (weight_checks 0 0 tree5) ∷ gives 19 (weight_checks 3 10001 tree5)
    ∷ gives 0 (weight_checks 4 1023 (tree7 1023)) ∷ gives 2 (weight_checks 4 1024 (tree7 1023)) ∷ gives 22 (weight_checks 4 10001 (tree7 1023))
    ∷ gives 0 (weight_checks 4 1023 (tree7 1024)) ∷ gives 2 (weight_checks 2 1024 (tree7 1023)) ∷ gives 0 (weight_checks 1 2 (tree7 1023))
    -- thin is judged with all leaves active, although none is
    ∷ B 0 (answered 4 1024 (fresh (tree7 1023) M 0)) 2 ∷ B 0 (answered 4 1023 (fresh (tree7 1023) M 0)) 0
    -- record 8, whole and cut behind each byte, and a kind that nobody knows
    ∷ B 0 (read (8 ∷ 1 ∷ 0 ∷ 1 ∷ []) 0) 0 ∷ B 0 (read (8 ∷ 1 ∷ 0 ∷ []) 0) 17 ∷ B 0 (read (8 ∷ 1 ∷ []) 0) 17 ∷ B 0 (read (8 ∷ []) 0) 17
    ∷ B 0 (read (9 ∷ 1 ∷ 0 ∷ 1 ∷ []) 0) 16
    ∷ []

-- ---- the books before and after it. In `saved6` leaf 1 takes, leaf 2 gives and leaf 3 is not active
abbrev pub then : ℕ → ℕ → Controller → List ℕ
then n w c = book_numbers (weighted n w c).state

abbrev pub weights_of : Controller → List ℕ
weights_of c = take 4 c.tree.weights

-- an inner node of B7's tree has leaf 3 below it, which is active beside leaf 2
abbrev pub inner7 : Controller
inner7 = with_sharing 12 no_node [] (fresh (tree7 1023) M 0)

unfoldable pub weight_books : List Seen
weight_books =
    -- three quarters for leaf 1, whose share falls: its budget stays. That of leaf 2 rises: 900,000 x 200,000,000 / 268,435,456
    see (then 1 300 saved6)
    (top 6 0 ++ (805306368 ∷ 400000 ∷ 0 ∷ 7 ∷ 40 ∷ 1 ∷ 0 ∷ 7 ∷ 0 ∷ 268435456 ∷ 670552 ∷ 0 ∷ 13 ∷ 16 ∷ 0 ∷ 1 ∷ 3 ∷ 0 ∷ leaf3))
    ∷ see (weights_of (weighted 1 300 saved6).state) (0 ∷ 300 ∷ 100 ∷ 100 ∷ [])
    -- and for leaf 2: 900,000 x 200,000,000 / 805,306,368
    ∷ see (then 2 300 saved6)
    (top 6 0 ++ (268435456 ∷ 400000 ∷ 0 ∷ 7 ∷ 40 ∷ 1 ∷ 0 ∷ 7 ∷ 0 ∷ 805306368 ∷ 223517 ∷ 0 ∷ 13 ∷ 16 ∷ 0 ∷ 1 ∷ 3 ∷ 0 ∷ leaf3))
    -- the weight that it had, and that of a leaf which is not active, end the donation too: halves, 900,000 x 200,000,000 / 536,870,912
    ∷ see (then 1 100 saved6)
    (top 6 0 ++ (536870912 ∷ 400000 ∷ 0 ∷ 7 ∷ 40 ∷ 1 ∷ 0 ∷ 7 ∷ 0 ∷ 536870912 ∷ 335276 ∷ 0 ∷ 13 ∷ 16 ∷ 0 ∷ 1 ∷ 3 ∷ 0 ∷ leaf3))
    ∷ see (then 3 9 saved6)
    (top 6 0 ++ (536870912 ∷ 400000 ∷ 0 ∷ 7 ∷ 40 ∷ 1 ∷ 0 ∷ 7 ∷ 0 ∷ 536870912 ∷ 335276 ∷ 0 ∷ 13 ∷ 16 ∷ 0 ∷ 1 ∷ 3 ∷ 0 ∷ leaf3))
    ∷ see (weights_of (weighted 3 9 saved6).state) (0 ∷ 100 ∷ 100 ∷ 9 ∷ [])
    -- what is owed and what waits stay
    ∷ see (leaf_numbers (weighted 1 300 owes6).state 1) (805306368 ∷ 0 ∷ 50000 ∷ 7 ∷ 40 ∷ 1 ∷ 0 ∷ 7 ∷ 1 ∷ [])
    ∷ see (queue_numbers (queue_at (weighted 1 300 owes6).state 1))
    (7 ∷ 1 ∷ 1 ∷ 2 ∷ 3 ∷ 4 ∷ 5 ∷ 6 ∷ 7 ∷ 8 ∷ 20001 ∷ 20002 ∷ 20003 ∷ 20004 ∷ 20005 ∷ 20006 ∷ 20007 ∷ 20008 ∷ [])
    -- an inner node's: 3 of 1,026 for it and so for leaf 3, its only active one; a node with no active leaf below it moves none
    ∷ see (take 5 (weighted 1 3 inner7).state.shares) (0 ∷ 0 ∷ 1070602228 ∷ 3139595 ∷ 0 ∷ [])
    ∷ see (take 5 (weighted 4 9 inner7).state.shares) (0 ∷ 0 ∷ 1072693248 ∷ 1048576 ∷ 0 ∷ [])
    -- refused 19, 22 or 2, nothing changes: the donation stands
    ∷ see (then 0 300 saved6) (top 6 4 ++ leaf1 ++ leaf2 ++ leaf3)
    ∷ see (then 1 0 saved6) (top 6 4 ++ leaf1 ++ leaf2 ++ leaf3)
    ∷ see (answered 4 1024 (with_tree (tree7 1023) saved6) ∷ then 4 1024 (with_tree (tree7 1023) saved6)) (2 ∷ top 6 4 ++ leaf1 ++ leaf2 ++ leaf3)
    ∷ see (weights_of (weighted 1 0 saved6).state) (0 ∷ 100 ∷ 100 ∷ 100 ∷ [])
    -- the tree that a trace's setup gave stays what it was
    ∷ see (take 4 (stepped (found (Weight 1 300) 9) (within Running tree6 slowest saved6)).replay.tree.weights) (0 ∷ 100 ∷ 100 ∷ 100 ∷ [])
    -- the ledger: it counts nothing
    ∷ see (heads (Call.set (SetWeight 1 300)) owes6 1) (replicate 6 0)
    ∷ []

-- ---- a trace: both leaves are active at a quarter and three quarters when leaf 1 is given 900 against 300. Its 200,000 are 66,666
-- at three quarters, where a sequential read of 20,000 costs 26,667: two fit, and the third waits. At a quarter leaf 2's read of
-- 100,000 takes all 400,000 of the next tick. At the plan both could give and none could take, so base shares stand; the last
-- record is cut
unfoldable pub weight_trace : List ℕ
weight_trace =
    bytes_of_all (
    Node 0 100 ∷ Node 0 300 ∷ ModelOf (rates_M 50000) ∷ Start 0
    ∷ asked 1 0 1 0 ∷ Tick 300000 ∷ asked 2 0 2 0
    ∷ Weight 0 5 ∷ Weight 2 0 ∷ Weight 1 900
    ∷ asked 1 0 3 8 ∷ asked 1 0 4 16 ∷ asked 1 0 5 24 ∷ Tick 700000 ∷ Plan ∷ []
    )
    ++ (8 ∷ 1 ∷ 132 ∷ [])

unfoldable pub weight_output : List ℕ
weight_output =
    87 ∷ 32 ∷ 49 ∷ 10  -- W 1
    ∷ 114 ∷ 32 ∷ 49 ∷ 10  -- r 1
    ∷ 87 ∷ 32 ∷ 50 ∷ 10  -- W 2
    ∷ 82 ∷ 32 ∷ 49 ∷ 57 ∷ 10  -- R 19
    ∷ 82 ∷ 32 ∷ 50 ∷ 50 ∷ 32 ∷ 50 ∷ 10  -- R 22 2
    ∷ 73 ∷ 32 ∷ 51 ∷ 10  -- I 3
    ∷ 73 ∷ 32 ∷ 52 ∷ 10  -- I 4
    ∷ 87 ∷ 32 ∷ 53 ∷ 10  -- W 5
    ∷ 114 ∷ 32 ∷ 53 ∷ 10  -- r 5
    ∷ 114 ∷ 32 ∷ 50 ∷ 10  -- r 2
    ∷ 80 ∷ 32 ∷ 49 ∷ 32 ∷ 56 ∷ 48 ∷ 53 ∷ 51 ∷ 48 ∷ 54 ∷ 51 ∷ 54 ∷ 56 ∷ 10  -- P 1 805306368
    ∷ 80 ∷ 32 ∷ 50 ∷ 32 ∷ 50 ∷ 54 ∷ 56 ∷ 52 ∷ 51 ∷ 53 ∷ 52 ∷ 53 ∷ 54 ∷ 10  -- P 2 268435456
    ∷ 82 ∷ 32 ∷ 49 ∷ 55 ∷ 10  -- R 17
    ∷ []
