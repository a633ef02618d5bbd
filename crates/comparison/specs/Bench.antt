-- Numbers of the comparison, worked out by hand; proofs/Bench shows that they hold. A slip of a rule that they do not refuse
-- is refused by a theorem, or means the same.
-- Assumes nothing.
use Rattle.std.specs.Prelude.{List, [], ◌∷◌, ◌++◌, ℕ, ◌+◌, cond, Some, None, Ok, Err}
use Rattle.rules.specs.Bench.Edges.{Seen, see}
use Rattle.rules.proofs.Laws.Trace.{trace_of}
use Rattle.rules.specs.declared.trace.Record.{Record}
use Rattle.rules.specs.declared.trace.Record.TheVariants.{Node, Model, Start, Bio as BioOf, Tick}
use Rattle.comparison.specs.Compare.{Stepped, records_end, step_at, compared, rest_of}
use Rattle.comparison.specs.Paper.{side_number, answer_values, comparison_paper}
use Rattle.rules.specs.Refusals.{number}
use Rattle.trace.specs.Kinds.{code}
use Rattle.comparison.specs.declared.Step.TheVariants.{Pair, Over}

-- an answer as numbers: that of the error, then the side and the place of the error, or the difference, the end and the likeness
abbrev pub asked : List ℕ → List ℕ → ℕ → List ℕ
asked first second from = (comparison_paper (compared first second from)).number ∷ (comparison_paper (compared first second from)).values

abbrev pub step_numbers : Stepped → List ℕ
step_numbers (Ok (Pair p)) =
    cond p.same (1 ∷ p.first.next ∷ p.second.next ∷ []) (2 ∷ code p.first.kind ∷ code p.second.kind ∷ p.first.next ∷ p.second.next ∷ [])
step_numbers (Ok (Over (Some side))) = (2 + side_number side) ∷ []
step_numbers (Ok (Over None)) = 5 ∷ []
step_numbers (Err e) = 6 ∷ side_number e.side ∷ number e.refusal ∷ []

-- ---- document 01's whole case, and the same with id 8 and no plan
abbrev pub bench : ℕ → List Record
bench id =
    Node 0 100
    ∷ Node 0 300
    ∷ Model (record { rbps = 409600000; rseqiops = 50000; rrandiops = 10000; wbps = 204800000; wseqiops = 25000; wrandiops = 5000 })
    ∷ Start 0
    ∷ BioOf (record { node = 1; flags = 0; id = id; sector = 0; bytes = 4096 })
    ∷ Tick 100000
    ∷ Tick 400000
    ∷ []

unfoldable pub whole_case : List ℕ
whole_case = trace_of (bench 7) ++ (6 ∷ [])

unfoldable pub id_eight : List ℕ
id_eight = trace_of (bench 8)

-- ---- records in bytes: 6 is a plan, 7 and two bytes a vrate, 1 and 8 with three bytes a node and a weight, 5 and 3 with eight a tick and a
-- start; 0 and 9 are no kinds
abbrev pub eight : List ℕ
eight = 1 ∷ 2 ∷ 3 ∷ 4 ∷ 5 ∷ 6 ∷ 7 ∷ 8 ∷ []

unfoldable pub cases : List Seen
cases =
    -- "the first trace is document 01's whole case, the second has id 8 and no plan"
    see (asked whole_case id_eight 0) (0 ∷ 1 ∷ 4 ∷ 4 ∷ 4 ∷ 2 ∷ 7 ∷ 2 ∷ [])
    ∷ see (asked id_eight whole_case 0) (0 ∷ 1 ∷ 4 ∷ 4 ∷ 4 ∷ 1 ∷ 7 ∷ 2 ∷ [])
    -- at the difference, and from behind it: none, and still different
    ∷ see (asked whole_case id_eight 4) (0 ∷ 1 ∷ 4 ∷ 4 ∷ 4 ∷ 2 ∷ 7 ∷ 2 ∷ [])
    ∷ see (asked whole_case id_eight 5) (0 ∷ 0 ∷ 2 ∷ 7 ∷ 2 ∷ [])
    -- equal traces, from anywhere, and two empty ones
    ∷ see (asked (6 ∷ 6 ∷ []) (6 ∷ 6 ∷ []) 0) (0 ∷ 0 ∷ 0 ∷ 2 ∷ 0 ∷ [])
    ∷ see (asked (6 ∷ 6 ∷ []) (6 ∷ 6 ∷ []) 9) (0 ∷ 0 ∷ 0 ∷ 2 ∷ 0 ∷ [])
    ∷ see (asked [] [] 0) (0 ∷ 0 ∷ 0 ∷ 0 ∷ 0 ∷ [])
    -- a prefix, either way: the records behind the shorter's end are no difference
    ∷ see (asked (6 ∷ []) (6 ∷ 7 ∷ 1 ∷ 2 ∷ 6 ∷ []) 0) (0 ∷ 0 ∷ 1 ∷ 1 ∷ 1 ∷ [])
    ∷ see (asked (6 ∷ 7 ∷ 1 ∷ 2 ∷ 6 ∷ []) (6 ∷ []) 1) (0 ∷ 0 ∷ 2 ∷ 1 ∷ 1 ∷ [])
    ∷ see (asked [] (6 ∷ []) 0) (0 ∷ 0 ∷ 1 ∷ 0 ∷ 1 ∷ [])
    ∷ see (asked (6 ∷ []) [] 0) (0 ∷ 0 ∷ 2 ∷ 0 ∷ 1 ∷ [])
    -- the same prefix with a difference in it, asked from behind it
    ∷ see (asked (7 ∷ 1 ∷ 2 ∷ []) (7 ∷ 1 ∷ 3 ∷ 6 ∷ []) 1) (0 ∷ 0 ∷ 1 ∷ 1 ∷ 2 ∷ [])
    ∷ see (asked (7 ∷ 1 ∷ 2 ∷ []) (7 ∷ 1 ∷ 3 ∷ []) 1) (0 ∷ 0 ∷ 0 ∷ 1 ∷ 2 ∷ [])
    -- other kinds of one length, and other bytes of one kind: the first of the body and the last
    ∷ see (asked (5 ∷ eight) (3 ∷ eight) 0) (0 ∷ 1 ∷ 0 ∷ 5 ∷ 3 ∷ 0 ∷ 1 ∷ 2 ∷ [])
    ∷ see (asked (1 ∷ 0 ∷ 100 ∷ 0 ∷ []) (8 ∷ 0 ∷ 100 ∷ 0 ∷ []) 0) (0 ∷ 1 ∷ 0 ∷ 1 ∷ 8 ∷ 0 ∷ 1 ∷ 2 ∷ [])
    ∷ see (asked (7 ∷ 1 ∷ 2 ∷ []) (7 ∷ 9 ∷ 2 ∷ []) 0) (0 ∷ 1 ∷ 0 ∷ 7 ∷ 7 ∷ 0 ∷ 1 ∷ 2 ∷ [])
    ∷ see (asked (7 ∷ 1 ∷ 2 ∷ []) (7 ∷ 1 ∷ 3 ∷ []) 0) (0 ∷ 1 ∷ 0 ∷ 7 ∷ 7 ∷ 0 ∷ 1 ∷ 2 ∷ [])
    -- two differences: the first from the number asked on
    ∷ see (asked (6 ∷ 7 ∷ 1 ∷ 2 ∷ 7 ∷ 1 ∷ 2 ∷ 6 ∷ []) (6 ∷ 7 ∷ 9 ∷ 2 ∷ 6 ∷ 6 ∷ []) 0) (0 ∷ 1 ∷ 1 ∷ 7 ∷ 7 ∷ 0 ∷ 4 ∷ 2 ∷ [])
    ∷ see (asked (6 ∷ 7 ∷ 1 ∷ 2 ∷ 7 ∷ 1 ∷ 2 ∷ 6 ∷ []) (6 ∷ 7 ∷ 9 ∷ 2 ∷ 6 ∷ 6 ∷ []) 2) (0 ∷ 1 ∷ 2 ∷ 7 ∷ 6 ∷ 0 ∷ 4 ∷ 2 ∷ [])
    ∷ see (asked (6 ∷ 7 ∷ 1 ∷ 2 ∷ 7 ∷ 1 ∷ 2 ∷ 6 ∷ []) (6 ∷ 7 ∷ 9 ∷ 2 ∷ 6 ∷ 6 ∷ []) 3) (0 ∷ 0 ∷ 0 ∷ 4 ∷ 2 ∷ [])
    -- a record more in front: each is compared with the one of its number
    ∷ see (asked (6 ∷ 7 ∷ 1 ∷ 2 ∷ []) (7 ∷ 1 ∷ 2 ∷ []) 0) (0 ∷ 1 ∷ 0 ∷ 6 ∷ 7 ∷ 2 ∷ 1 ∷ 2 ∷ [])
    -- errors by side and by the place where the record begins
    ∷ see (asked (6 ∷ 9 ∷ []) (6 ∷ []) 0) (16 ∷ 1 ∷ 1 ∷ [])
    ∷ see (asked (6 ∷ []) (6 ∷ 6 ∷ 0 ∷ []) 0) (16 ∷ 2 ∷ 2 ∷ [])
    ∷ see (asked (6 ∷ 7 ∷ 1 ∷ []) (6 ∷ []) 0) (17 ∷ 1 ∷ 1 ∷ [])
    ∷ see (asked (6 ∷ []) (6 ∷ 6 ∷ 7 ∷ []) 0) (17 ∷ 2 ∷ 2 ∷ [])
    -- the first trace's, though the second's lies earlier; behind a difference; in both at once
    ∷ see (asked (6 ∷ 6 ∷ 7 ∷ 1 ∷ []) (9 ∷ []) 0) (17 ∷ 1 ∷ 2 ∷ [])
    ∷ see (asked (7 ∷ 1 ∷ 2 ∷ 0 ∷ []) (6 ∷ []) 0) (16 ∷ 1 ∷ 3 ∷ [])
    ∷ see (asked (9 ∷ []) (9 ∷ []) 0) (16 ∷ 1 ∷ 0 ∷ [])
    -- the rest: of the longer, whole, and of no one else
    ∷ see (rest_of (6 ∷ []) (6 ∷ 7 ∷ 1 ∷ 2 ∷ 6 ∷ [])) (7 ∷ 1 ∷ 2 ∷ 6 ∷ [])
    ∷ see (rest_of (6 ∷ 7 ∷ 1 ∷ 2 ∷ 6 ∷ []) (6 ∷ [])) (7 ∷ 1 ∷ 2 ∷ 6 ∷ [])
    ∷ see (rest_of [] (6 ∷ 6 ∷ [])) (6 ∷ 6 ∷ [])
    ∷ see (rest_of (6 ∷ 6 ∷ []) (6 ∷ 6 ∷ [])) []
    ∷ see (rest_of (7 ∷ 1 ∷ 2 ∷ []) (7 ∷ 1 ∷ 3 ∷ 6 ∷ [])) []
    ∷ see (rest_of (7 ∷ 1 ∷ 3 ∷ 6 ∷ []) (7 ∷ 1 ∷ 2 ∷ [])) []
    ∷ see (rest_of (6 ∷ 6 ∷ 9 ∷ []) (6 ∷ [])) []
    ∷ see (rest_of (6 ∷ []) (6 ∷ 6 ∷ 9 ∷ [])) []
    -- beside an error nothing else is told, though a record differs before it and one trace ends
    ∷ see (answer_values (compared (7 ∷ 1 ∷ 2 ∷ 0 ∷ []) (6 ∷ []) 0)) (0 ∷ [])
    ∷ see (answer_values (compared (6 ∷ []) (7 ∷ 1 ∷ 2 ∷ 7 ∷ []) 0)) (0 ∷ [])
    -- one step at places that lie apart: a pair that is the same and one that is not, each end, and whose record is refused
    ∷ see (step_numbers (step_at (7 ∷ 1 ∷ 2 ∷ 6 ∷ []) 3 (6 ∷ []) 0)) (1 ∷ 4 ∷ 1 ∷ [])
    ∷ see (step_numbers (step_at (6 ∷ 7 ∷ 1 ∷ 2 ∷ []) 1 (6 ∷ 6 ∷ 5 ∷ eight) 2)) (2 ∷ 7 ∷ 5 ∷ 4 ∷ 11 ∷ [])
    ∷ see (step_numbers (step_at (6 ∷ []) 1 (6 ∷ []) 0)) (3 ∷ [])
    ∷ see (step_numbers (step_at (6 ∷ []) 0 (6 ∷ []) 1)) (4 ∷ [])
    ∷ see (step_numbers (step_at (6 ∷ []) 1 (6 ∷ 6 ∷ []) 2)) (5 ∷ [])
    ∷ see (step_numbers (step_at (9 ∷ []) 0 (7 ∷ 1 ∷ []) 0)) (6 ∷ 1 ∷ 16 ∷ [])
    ∷ see (step_numbers (step_at (6 ∷ []) 0 (7 ∷ 1 ∷ []) 0)) (6 ∷ 2 ∷ 17 ∷ [])
    ∷ see (step_numbers (step_at (6 ∷ []) 1 (9 ∷ []) 0)) (6 ∷ 2 ∷ 16 ∷ [])
    ∷ see (step_numbers (step_at (6 ∷ []) 2 (6 ∷ []) 1)) (6 ∷ 1 ∷ 17 ∷ [])
    -- where whole records end, from any place on
    ∷ see (records_end (6 ∷ 7 ∷ 1 ∷ 2 ∷ 9 ∷ []) 1 ∷ records_end (6 ∷ 7 ∷ 1 ∷ 2 ∷ 9 ∷ []) 4 ∷ records_end (9 ∷ 6 ∷ 6 ∷ []) 1 ∷ records_end (6 ∷ 6 ∷ 7 ∷ []) 0 ∷ []) (4 ∷ 4 ∷ 3 ∷ 2 ∷ [])
    ∷ []
