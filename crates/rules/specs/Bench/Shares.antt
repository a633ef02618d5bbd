-- Numbers of their own for shares on a tree of 8 levels, most of whose nodes do not stand right behind their parents: with all leaves
-- active, with some, and behind each call that works them out anew; on the largest tree; and the floor at level 8.
-- Assumes nothing.
use Rattle.std.specs.Prelude.{false, List, [], ◌∷◌, ◌++◌, map, ℕ, ◌+◌, ◌-◌, ◌^◌, replicate, take, drop}
use Rattle.rules.specs.Numbers.{whole}
use Rattle.rules.specs.Words.{table_from, no_node}
use Rattle.rules.specs.Units.{abs}
use Rattle.rules.specs.Tree.{leaves_of, child_sum, share_of, base_share, base_shares}
use Rattle.rules.specs.Budget.{empty_row, fresh, row_at, share_at, with_clock, with_sharing, with_books, with_usage, with_accepted}
use Rattle.rules.specs.Refusals.{tree_checks, weight_checks}
use Rattle.rules.specs.Entries.{submitted, planned, weighted}
use Rattle.rules.specs.declared.tree.Tree.{Tree}
use Rattle.rules.specs.declared.budget.Row.{Row}
use Rattle.rules.specs.declared.budget.Controller.{Controller}
use Rattle.rules.specs.Bench.{M, bio, tree, clock_at, saved, Case}
use Rattle.rules.specs.Bench.Edges.{gives, star, Seen, see}

-- inner nodes are 1, 3, 4, 6, 7, 9 and 10, each below the one before; leaves are 2, 5, 8, 13, 11, 15, 16 at the levels 1 to 7, and
-- 12 and 14 at level 8
abbrev pub tree8 : Tree
tree8 =
    tree 17
    (0 ∷ 0 ∷ 1 ∷ 3 ∷ 1 ∷ 4 ∷ 6 ∷ 3 ∷ 7 ∷ 9 ∷ 6 ∷ 10 ∷ 4 ∷ 10 ∷ 7 ∷ 9 ∷ [])
    (700 ∷ 300 ∷ 500 ∷ 600 ∷ 250 ∷ 900 ∷ 800 ∷ 200 ∷ 400 ∷ 1000 ∷ 350 ∷ 150 ∷ 100 ∷ 250 ∷ 450 ∷ 30 ∷ [])

-- the base shares of all places, with these leaves active
abbrev pub of8 : ℕ → List ℕ
of8 active = take 17 (base_shares tree8 active)

-- the shares of the inner nodes, and the sums of their active children's weights
abbrev pub inner8 : ℕ → List ℕ
inner8 active = map (share_of tree8 active) (1 ∷ 3 ∷ 4 ∷ 6 ∷ 7 ∷ 9 ∷ 10 ∷ [])

abbrev pub sums8 : ℕ → List ℕ
sums8 active = map (child_sum tree8 active) (0 ∷ 1 ∷ 3 ∷ 4 ∷ 6 ∷ 7 ∷ 9 ∷ 10 ∷ [])

-- the same tree with a parent and a weight at the root, which mean nothing (DECISIONS 15)
abbrev pub odd8 : Tree
odd8 = record { count = 17; parents = 16 ∷ drop 1 tree8.parents; weights = 5 ∷ drop 1 tree8.weights }

unfoldable pub share_numbers : List Seen
share_numbers =
    -- all leaves: no node's share comes out whole, so each level rounds once more
    see (leaves_of tree8 ∷ []) (129316 ∷ [])
    ∷ see (sums8 129316) (1000 ∷ 750 ∷ 800 ∷ 1000 ∷ 1150 ∷ 850 ∷ 1030 ∷ 400 ∷ [])
    ∷ see (inner8 129316) (751619276 ∷ 501079517 ∷ 375809637 ∷ 338228673 ∷ 235289511 ∷ 110724475 ∷ 107499490 ∷ [])
    ∷ see (of8 129316)
    (0 ∷ 0 ∷ 322122547 ∷ 0 ∷ 0 ∷ 250539758 ∷ 0 ∷ 0 ∷ 125269879 ∷ 0 ∷ 0 ∷ 102939161 ∷ 40312308 ∷ 37580963 ∷ 67187181 ∷ 124565035 ∷ 3224984 ∷ [])
    -- the last node alone has all, by 7 nodes with no other active child
    ∷ see (of8 65536) (replicate 16 0 ++ (whole ∷ []))
    -- a leaf at level 1 and one at level 8
    ∷ see (sums8 16388) (1000 ∷ 500 ∷ 600 ∷ 900 ∷ 800 ∷ 400 ∷ 1000 ∷ 250 ∷ [])
    ∷ see (of8 16388) (0 ∷ 0 ∷ 322122547 ∷ replicate 11 0 ++ (751619276 ∷ 0 ∷ 0 ∷ []))
    -- leaves at the levels 2 to 6: nodes 9 and 10 are not active, so 9 does not count below 7, nor 10 below 9
    ∷ see (sums8 43296) (700 ∷ 750 ∷ 800 ∷ 1000 ∷ 1150 ∷ 450 ∷ 0 ∷ 0 ∷ [])
    ∷ see (of8 43296)
    (replicate 5 0 ++ (357913941 ∷ 0 ∷ 0 ∷ 178956970 ∷ 0 ∷ 0 ∷ 147055944 ∷ 0 ∷ 53687091 ∷ 0 ∷ 336127874 ∷ 0 ∷ []))
    -- with no leaf active nobody has a share; the root of `odd8` is nobody's child
    ∷ see (of8 no_node) (replicate 17 0)
    ∷ see (map (child_sum odd8 16388) (0 ∷ 9 ∷ [])) (1000 ∷ 1000 ∷ [])
    -- 63 leaves below the root: the last node alone, and with node 1
    ∷ see (leaves_of (star 63) ∷ child_sum (star 63) (2 ^ 63) 0 ∷ base_share (star 63) (2 ^ 63) 63 ∷ base_share (star 63) (2 ^ 63 + 2) 63 ∷ [])
    ((2 ^ 64 - 2) ∷ 1 ∷ whole ∷ 536870912 ∷ [])
    ∷ []

-- ---- behind each call that works them out anew: leaf 2 at level 1 and leaves 12 and 14 at level 8 have saved something
abbrev pub rows8 : Row → Row → Row → List Row
rows8 two twelve fourteen = empty_row ∷ empty_row ∷ two ∷ replicate 9 empty_row ++ (twelve ∷ empty_row ∷ fourteen ∷ [])

abbrev pub state8 : ℕ → ℕ → List ℕ → List Row → Controller
state8 active donors shares rows =
    with_books rows (fresh tree8 M 0).queues (with_sharing active donors shares (with_clock (clock_at 0 1 1 100) (fresh tree8 M 0)))

-- leaves 2 and 14 are active and 2 gives; all three are, and nobody gives
abbrev pub giving8 : Controller
giving8 =
    state8 16388 4 (0 ∷ 0 ∷ 100000000 ∷ replicate 11 0 ++ (973741823 ∷ 0 ∷ 0 ∷ [])) (rows8 (saved 1000000) empty_row (saved 500000))

abbrev pub three8 : Controller
three8 = state8 20484 no_node (base_shares tree8 20484) (rows8 (saved 1000000) (saved 700000) (saved 500000))

-- leaf 12 has done nothing since the last plan, and the two others much
abbrev pub busy8 : Controller
busy8 =
    state8 20484 no_node (base_shares tree8 20484)
    (rows8 (with_usage (abs 9) (saved 1000000)) (with_accepted false (saved 700000)) (with_usage (abs 9) (saved 500000)))

-- who is active, who gives, and the shares and budgets of the three
abbrev pub seen8 : Controller → List ℕ
seen8 c =
    c.active ∷ c.donors ∷ share_at c 2 ∷ share_at c 12 ∷ share_at c 14 ∷ (row_at c 2).budget.0 ∷ (row_at c 12).budget.0 ∷ (row_at c 14).budget.0 ∷ []

unfoldable pub share_calls : List Seen
share_calls =
    -- leaf 12 becomes active: 2 rises to its base share, 1,000,000 x 100,000,000 / 322,122,547, and 14 falls
    see (seen8 (submitted (bio 12 0 4096) giving8).state)
    (20484 ∷ 0 ∷ 322122547 ∷ 281857228 ∷ 469762047 ∷ 310440 ∷ 0 ∷ 500000 ∷ [])
    -- leaf 2 waits, and its donation ends
    ∷ see (seen8 (submitted (bio 2 0 1048576) giving8).state) (16388 ∷ 0 ∷ 322122547 ∷ 0 ∷ 751619276 ∷ 310440 ∷ 0 ∷ 500000 ∷ [])
    -- another weight at level 1 of an inner node, at level 2 of one without an active sibling, at level 8 of a leaf
    ∷ see (seen8 (weighted 1 1400 three8).state) (20484 ∷ 0 ∷ 189483851 ∷ 331596739 ∷ 552661232 ∷ 1000000 ∷ 594999 ∷ 424999 ∷ [])
    ∷ see (seen8 (weighted 3 9 three8).state) (20484 ∷ 0 ∷ 322122547 ∷ 281857228 ∷ 469762047 ∷ 1000000 ∷ 700000 ∷ 500000 ∷ [])
    ∷ see (seen8 (weighted 12 450 three8).state) (20484 ∷ 0 ∷ 322122547 ∷ 483183820 ∷ 268435455 ∷ 1000000 ∷ 408333 ∷ 500000 ∷ [])
    -- a plan at which leaf 12 becomes inactive: 14 has all that is below node 10
    ∷ see (seen8 (planned busy8).state) (16388 ∷ 0 ∷ 322122547 ∷ 0 ∷ 751619276 ∷ 1000000 ∷ 0 ∷ 312499 ∷ [])
    ∷ []

-- ---- the floor at level 8: leaf 8 has one part in 1,024 of what its parent has, which has one in 1,024 of all. One part more
-- for a sibling of any of its nodes, and it is thin
abbrev pub chain8 : ℕ → ℕ → Tree
chain8 high low = tree 11 (0 ∷ 1 ∷ 2 ∷ 3 ∷ 4 ∷ 5 ∷ 6 ∷ 7 ∷ 0 ∷ 7 ∷ []) (replicate 8 1 ++ (high ∷ low ∷ []))

-- the same, and the leaf is the last node
abbrev pub chain8_last : ℕ → Tree
chain8_last low = tree 11 (0 ∷ 1 ∷ 2 ∷ 3 ∷ 4 ∷ 5 ∷ 6 ∷ 0 ∷ 7 ∷ 7 ∷ []) (replicate 7 1 ++ (1023 ∷ low ∷ 1 ∷ []))

-- 64 nodes, of which node 63 alone is too small: node 7 has one part in 70,001, all of it goes down to 62 and 63, and 63 has one
-- part in 15 of that, 1,022
abbrev pub wide8 : Tree
wide8 =
    tree 64 (replicate 8 0 ++ table_from (λ i. i) 1 53 ++ (55 ∷ 55 ∷ [])) (replicate 6 10000 ++ (1 ∷ 10000 ∷ replicate 53 1 ++ (14 ∷ 1 ∷ [])))

unfoldable pub thin_at_depth : List Case
thin_at_depth =
    gives 0 (tree_checks (chain8 1023 1023)) ∷ gives 2 (tree_checks (chain8 1024 1023)) ∷ gives 2 (tree_checks (chain8 1023 1024))
    ∷ gives 0 (weight_checks 9 1023 (chain8 1024 1023)) ∷ gives 2 (weight_checks 9 1024 (chain8 1023 1023))
    ∷ gives 0 (weight_checks 10 1023 (chain8 1023 1024)) ∷ gives 2 (weight_checks 10 1024 (chain8 1023 1023))
    ∷ gives 0 (tree_checks (chain8_last 1023)) ∷ gives 2 (tree_checks (chain8_last 1024))
    ∷ gives 2 (tree_checks wide8)
    -- the weight of an inner node without a sibling moves nothing
    ∷ gives 0 (weight_checks 4 10000 (chain8 1023 1023))
    ∷ []
