-- Numbers of their own for what is wrong with a tree: which number, which node, what is looked at first, and the lines of it.
-- Assumes nothing.
use Rattle.std.specs.Prelude.{List, [], ◌∷◌, ◌++◌, ℕ, ◌-◌, ◌^◌, length, replicate, set, cond}
use Rattle.rules.specs.Numbers.{refusal_room}
use Rattle.rules.specs.Budget.{fresh}
use Rattle.rules.specs.Tree.{tree_fault}
use Rattle.rules.specs.Refusals.{Check, fault_number, number, named, first_of, verdict_paper, tree_checks, node_checks, start_checks, weight_checks, is_fault, fault_in}
use Rattle.rules.specs.Entries.{slowest}
use Rattle.rules.specs.Replay.{refusal_line, grown, root_tree, within, stepped, replay}
use Rattle.rules.specs.declared.cost.Rates.{Rates}
use Rattle.rules.specs.declared.tree.Tree.{Tree}
use Rattle.rules.specs.declared.tree.Fault.TheVariants.{Level}
use Rattle.rules.specs.declared.refusals.Refusal.{Refusal}
use Rattle.rules.specs.declared.refusals.Refusal.TheVariants.{BadTree, ThinTree, BadRate, NoLeaf, BadBio, TooDear, QueueFull, DebtFull, TimeBack, TimeFar, ClockFull, PlanDue, FewPlaces, NothingPassed, BadVrate, UnknownKind, CutShort, WrongPhase, NotBelowRoot, ShortBuffer}
use Rattle.rules.specs.declared.trace.Record.{Record}
use Rattle.rules.specs.declared.trace.Record.TheVariants.{Node, Start}
use Rattle.rules.specs.declared.replay.Phase.TheVariants.{Setup, Priced}
use Rattle.rules.specs.Bench.{bytes_of_all, M, tree, tree5, tree7}
use Rattle.rules.specs.Bench.Edges.{Seen, see, chain, star}
use Rattle.rules.specs.Results.{found}

-- what is said on paper: the number, 0 where nothing is refused, and the node
abbrev pub told : List Check → List ℕ
told ks = let p = verdict_paper (first_of ks) in p.number ∷ p.values

-- the same of the rules of a tree alone, whether it is thin or not
abbrev pub alone : Tree → List ℕ
alone t = cond (is_fault (tree_fault t)) (fault_number (fault_in (tree_fault t))) 0 ∷ []

-- a tree with another parent, or another weight, at a node
abbrev pub hung : ℕ → ℕ → Tree → Tree
hung n p t = record { count = t.count; parents = set t.parents n p; weights = t.weights }

abbrev pub weighing : ℕ → ℕ → Tree → Tree
weighing n w t = record { count = t.count; parents = t.parents; weights = set t.weights n w }

-- with places for nodes to come
abbrev pub roomy : Tree → Tree
roomy t = record { count = t.count; parents = t.parents ++ replicate 64 0; weights = t.weights ++ replicate 64 0 }

-- 60 nodes: 59 leaves below the root, of which 37 may be at fault
abbrev pub sixty : Tree
sixty = star 59

-- a chain of nine nodes at node 51 of the same
abbrev pub deep : Tree
deep = hung 59 58 (hung 58 57 (hung 57 56 (hung 56 55 (hung 55 54 (hung 54 53 (hung 53 52 (hung 52 51 sixty)))))))

-- no rate of these is in range
abbrev pub no_rates : Rates
no_rates = record { rbps = 0; rseqiops = 0; rrandiops = 0; wbps = 0; wseqiops = 0; wrandiops = 0 }

-- every other refusal of the table
abbrev pub others : List Refusal
others =
    ThinTree ∷ BadRate ∷ NoLeaf ∷ BadBio ∷ TooDear ∷ QueueFull ∷ DebtFull ∷ TimeBack ∷ TimeFar ∷ ClockFull ∷ PlanDue ∷ FewPlaces
    ∷ NothingPassed ∷ BadVrate ∷ UnknownKind ∷ CutShort ∷ WrongPhase ∷ NotBelowRoot ∷ ShortBuffer ∷ []

-- each by its number and what it names
abbrev pub papers : List Refusal → List ℕ
papers [] = []
papers (x ∷ xs) = number x ∷ named x ++ papers xs

unfoldable pub faults : List Seen
faults =
    -- the count comes before all, and names node 0
    see (told (tree_checks (tree 0 [] []))) (20 ∷ 0 ∷ [])
    ∷ see (told (tree_checks (tree 1 [] []))) (20 ∷ 0 ∷ [])
    ∷ see (told (tree_checks (tree 2 (0 ∷ []) (1 ∷ [])))) (0 ∷ [])
    ∷ see (alone (star 63)) (0 ∷ [])
    ∷ see (told (tree_checks (star 64))) (20 ∷ 0 ∷ [])
    ∷ see (told (tree_checks (weighing 1 0 (hung 1 9 (star 64))))) (20 ∷ 0 ∷ [])
    -- one fault among 60 nodes
    ∷ see (alone sixty) (0 ∷ [])
    ∷ see (told (tree_checks (hung 37 37 sixty))) (21 ∷ 37 ∷ [])
    ∷ see (told (tree_checks (hung 37 255 sixty))) (21 ∷ 37 ∷ [])
    ∷ see (told (tree_checks (weighing 37 0 sixty))) (22 ∷ 37 ∷ [])
    ∷ see (told (tree_checks (weighing 37 10001 sixty))) (22 ∷ 37 ∷ [])
    ∷ see (told (tree_checks (hung 51 50 deep))) (23 ∷ 58 ∷ [])
    ∷ see (told (tree_checks deep)) (23 ∷ 59 ∷ [])
    ∷ see (alone (hung 59 0 deep)) (0 ∷ [])
    -- the first and the last node
    ∷ see (told (tree_checks (hung 1 1 sixty))) (21 ∷ 1 ∷ [])
    ∷ see (told (tree_checks (weighing 1 0 sixty))) (22 ∷ 1 ∷ [])
    ∷ see (told (tree_checks (hung 59 59 sixty))) (21 ∷ 59 ∷ [])
    ∷ see (told (tree_checks (weighing 63 10001 (star 63)))) (22 ∷ 63 ∷ [])
    -- of several bad nodes the first, whatever its fault
    ∷ see (told (tree_checks (hung 37 37 (weighing 38 0 sixty)))) (21 ∷ 37 ∷ [])
    ∷ see (told (tree_checks (weighing 37 0 (hung 38 38 sixty)))) (22 ∷ 37 ∷ [])
    ∷ see (told (tree_checks (chain 11))) (23 ∷ 9 ∷ [])
    ∷ see (told (tree_checks (weighing 10 0 (hung 11 11 (chain 11))))) (23 ∷ 9 ∷ [])
    ∷ see (told (tree_checks (weighing 8 0 (chain 11)))) (22 ∷ 8 ∷ [])
    -- of several faults of one node the parent's, then the weight's, then the level's
    ∷ see (told (tree_checks (hung 9 9 (weighing 9 0 (chain 9))))) (21 ∷ 9 ∷ [])
    ∷ see (told (tree_checks (weighing 9 0 (chain 9)))) (22 ∷ 9 ∷ [])
    ∷ see (told (tree_checks (chain 9))) (23 ∷ 9 ∷ [])
    ∷ see (told (tree_checks (chain 8))) (0 ∷ [])
    -- before 2 and 3
    ∷ see (told (tree_checks (weighing 2 0 (tree7 1024)))) (22 ∷ 2 ∷ [])
    ∷ see (told (tree_checks (tree7 1024))) (2 ∷ [])
    ∷ see (told (start_checks (hung 2 2 (tree7 1024)) no_rates)) (21 ∷ 2 ∷ [])
    ∷ see (told (start_checks (tree 1 [] []) no_rates)) (20 ∷ 0 ∷ [])
    ∷ see (told (start_checks (tree7 1024) no_rates)) (2 ∷ [])
    ∷ see (told (start_checks tree5 no_rates)) (3 ∷ [])
    -- a node record names the number that the node would get; the 64th is 20 with node 0, whatever else is wrong with it
    ∷ see (told (node_checks (grown 0 1 root_tree))) (0 ∷ [])
    ∷ see (told (node_checks (grown 1 1 root_tree))) (21 ∷ 1 ∷ [])
    ∷ see (told (node_checks (grown 255 0 root_tree))) (21 ∷ 1 ∷ [])
    ∷ see (told (node_checks (grown 0 0 root_tree))) (22 ∷ 1 ∷ [])
    ∷ see (told (node_checks (grown 37 10001 (roomy (star 36))))) (21 ∷ 37 ∷ [])
    ∷ see (told (node_checks (grown 36 10001 (roomy (star 36))))) (22 ∷ 37 ∷ [])
    ∷ see (told (node_checks (grown 8 1 (roomy (chain 8))))) (23 ∷ 9 ∷ [])
    ∷ see (told (node_checks (grown 8 0 (roomy (chain 8))))) (22 ∷ 9 ∷ [])
    ∷ see (told (node_checks (grown 0 1 (roomy (star 62))))) (0 ∷ [])
    ∷ see (told (node_checks (grown 0 1 (roomy (star 63))))) (20 ∷ 0 ∷ [])
    ∷ see (told (node_checks (grown 255 0 (roomy (star 63))))) (20 ∷ 0 ∷ [])
    -- a weight names its node, the root and an absent one nothing
    ∷ see (told (weight_checks 1 0 tree5)) (22 ∷ 1 ∷ [])
    ∷ see (told (weight_checks 2 10001 tree5)) (22 ∷ 2 ∷ [])
    ∷ see (told (weight_checks 0 0 tree5)) (19 ∷ [])
    ∷ see (told (weight_checks 3 0 tree5)) (19 ∷ [])
    ∷ see (told (weight_checks 4 1024 (tree7 1023))) (2 ∷ [])
    -- no other refusal names a node
    ∷ see (papers others) (2 ∷ 3 ∷ 4 ∷ 5 ∷ 6 ∷ 7 ∷ 8 ∷ 9 ∷ 10 ∷ 11 ∷ 12 ∷ 13 ∷ 14 ∷ 15 ∷ 16 ∷ 17 ∷ 18 ∷ 19 ∷ 28 ∷ [])
    -- the lines: R 23 63, R 2, R 19
    ∷ see (refusal_line (BadTree (Level 63))) (82 ∷ 32 ∷ 50 ∷ 51 ∷ 32 ∷ 54 ∷ 51 ∷ 10 ∷ [])
    ∷ see (refusal_line ThinTree) (82 ∷ 32 ∷ 50 ∷ 10 ∷ [])
    ∷ see (refusal_line NotBelowRoot) (82 ∷ 32 ∷ 49 ∷ 57 ∷ 10 ∷ [])
    -- the longest of all fills its room
    ∷ see (length (refusal_line (BadTree (Level (2 ^ 64 - 1)))) ∷ []) (refusal_room ∷ [])
    -- R 20 0 of a 64th node record
    ∷ see (stepped (found (Node 255 0) 9) (within Setup (star 63) slowest (fresh tree5 M 0))).bytes (82 ∷ 32 ∷ 50 ∷ 48 ∷ 32 ∷ 48 ∷ 10 ∷ [])
    -- and of a start without nodes
    ∷ see (stepped (found (Start 0) 9) (within Priced root_tree slowest (fresh tree5 M 0))).bytes (82 ∷ 32 ∷ 50 ∷ 48 ∷ 32 ∷ 48 ∷ 10 ∷ [])
    ∷ []

-- ---- traces: the replay stops at the first faulty record, R 21 2, R 22 3, R 23 9
abbrev pub setup : List Record → List ℕ
setup more = replay (bytes_of_all (Node 0 100 ∷ more))
