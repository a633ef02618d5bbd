-- Refusal numbers: the number of each, and for each entry what it checks, in the table's order, or in that of the request which
-- adds it.
-- Assumes nothing.
use Rattle.std.specs.Prelude.{Bool, true, false, cond, not, ◌&&◌, ◌||◌, List, [], ◌∷◌, ◌++◌, ℕ, ◌+◌, eqb, leb, ltb, length, get_or, drop, Err, None, Ok, Some}
use Rattle.rules.specs.Numbers.{cost_most, queue_room, debt_most, elapsed_most, vtime_most, since_most, letter_I, letter_W, letter_D}
use Rattle.rules.specs.Cost.{rates_in_range, bio_in_range, cost_of}
use Rattle.rules.specs.Tree.{weight_in_range, tree_fault, newest_fault, is_thin, is_leaf, is_below_root, with_weight}
use Rattle.rules.specs.Budget.{row_at, queue_at, would_be}
use Rattle.rules.specs.Tick.{growth, waiting_all}
use Rattle.rules.specs.Plan.{vrate_in_range}
use Rattle.rules.specs.Trace.{is_kind, layout, kind_of, fields_of, record_bytes, fields_from, behind}
use Rattle.rules.specs.declared.units.Abs.{Abs}
use Rattle.rules.specs.declared.cost.Rates.{Rates}
use Rattle.rules.specs.declared.cost.Model.{Model}
use Rattle.rules.specs.declared.cost.Bio.{Bio}
use Rattle.rules.specs.declared.tree.Tree.{Tree}
use Rattle.rules.specs.declared.tree.Fault.{Fault}
use Rattle.rules.specs.declared.tree.Fault.TheVariants.{Count, Parent, Weight, Level}
use Rattle.rules.specs.declared.budget.Row.{Row}
use Rattle.rules.specs.declared.budget.Queue.{Queue}
use Rattle.rules.specs.declared.budget.Controller.{Controller}
use Rattle.rules.specs.declared.refusals.Refusal.{Refusal}
use Rattle.rules.specs.declared.refusals.Refusal.TheVariants.{BadTree, ThinTree, BadRate, NoLeaf, BadBio, TooDear, QueueFull, DebtFull, TimeBack, TimeFar, ClockFull, PlanDue, FewPlaces, NothingPassed, BadVrate, UnknownKind, CutShort, WrongPhase, NotBelowRoot, ShortBuffer}
use Rattle.rules.specs.declared.refusals.Answer.{Answer}
use Rattle.rules.specs.declared.refusals.Answer.TheVariants.{Issued, Waits, OnDebt}
use Rattle.rules.specs.declared.trace.Record.{Record}
use Rattle.rules.specs.Results.{Finding, Answered, Verdict, Count as Counted, Pricing, Costing, Read, Write}

-- request Two: "20 node count, 21 parent, 22 weight, 23 level"; a tree without a fault is not refused, so that has no number
-- (DECISIONS 63)
abbrev pub fault_number : Fault → ℕ
fault_number Count = 20
fault_number (Parent n) = 21
fault_number (Weight n) = 22
fault_number (Level n) = 23

-- ".. with the number of the first bad node"; "20 names node 0"
abbrev pub fault_node : Fault → ℕ
fault_node Count = 0
fault_node (Parent n) = n
fault_node (Weight n) = n
fault_node (Level n) = n

-- the number of each refusal in the table
abbrev pub number : Refusal → ℕ
number (BadTree f) = fault_number f
number ThinTree = 2
number BadRate = 3
number NoLeaf = 4
number BadBio = 5
number TooDear = 6
number QueueFull = 7
number DebtFull = 8
number TimeBack = 9
number TimeFar = 10
number ClockFull = 11
number PlanDue = 12
number FewPlaces = 13
number NothingPassed = 14
number BadVrate = 15
number UnknownKind = 16
number CutShort = 17
number WrongPhase = 18
number NotBelowRoot = 19
number ShortBuffer = 28

-- what a refusal names beside its number: a fault of the tree its node, and any other nothing (DECISIONS 64)
abbrev pub named : Refusal → List ℕ
named (BadTree f) = fault_node f ∷ []
named ThinTree = []
named BadRate = []
named NoLeaf = []
named BadBio = []
named TooDear = []
named QueueFull = []
named DebtFull = []
named TimeBack = []
named TimeFar = []
named ClockFull = []
named PlanDue = []
named FewPlaces = []
named NothingPassed = []
named BadVrate = []
named UnknownKind = []
named CutShort = []
named WrongPhase = []
named NotBelowRoot = []
named ShortBuffer = []

-- ---- "Where several hold in one call, .."
infix 25 ◌⇒◌
pub record Check : Type 0 where
  pub holds : Bool
  pub refusal : Refusal

abbrev pub ◌⇒◌ : Bool → Refusal → Check
b ⇒ x = record { holds = b; refusal = x }

abbrev pub first_of : List Check → Verdict
first_of [] = Ok tt
first_of (k ∷ ks) = cond k.holds (Err k.refusal) (first_of ks)

-- ---- what each answer says on paper: the number of its refusal, and 0 where it is none
abbrev pub verdict_number : Verdict → ℕ
verdict_number (Ok tt) = 0
verdict_number (Err x) = number x

abbrev pub answer_number : Answered → ℕ
answer_number (Ok a) = 0
answer_number (Err x) = number x

abbrev pub count_number : Counted → ℕ
count_number (Ok n) = 0
count_number (Err x) = number x

abbrev pub pricing_number : Pricing → ℕ
pricing_number (Ok m) = 0
pricing_number (Err x) = number x

abbrev pub costing_number : Costing → ℕ
costing_number (Ok cost) = 0
costing_number (Err x) = number x

abbrev pub read_number : Read → ℕ
read_number (Ok found) = 0
read_number (Err x) = number x

abbrev pub write_number : Write → ℕ
write_number (Ok n) = 0
write_number (Err x) = number x

-- ---- and its values, which of a refusal are what it names
-- the letter that the replay prints for it
abbrev pub letters_of : Answer → List ℕ
letters_of Issued = letter_I ∷ []
letters_of Waits = letter_W ∷ []
letters_of OnDebt = letter_D ∷ []

abbrev pub answer_values : Answered → List ℕ
answer_values (Ok a) = letters_of a
answer_values (Err x) = named x

-- how many were released
abbrev pub count_values : Counted → List ℕ
count_values (Ok n) = n ∷ []
count_values (Err x) = named x

-- what each direction costs: a page, and the bases
abbrev pub model_values : Model → List ℕ
model_values m =
    m.read.page.0 ∷ m.read.sequential.0 ∷ m.read.random.0
    ∷ m.write.page.0 ∷ m.write.sequential.0 ∷ m.write.random.0
    ∷ []

abbrev pub pricing_values : Pricing → List ℕ
pricing_values (Ok m) = model_values m
pricing_values (Err x) = named x

abbrev pub costing_values : Costing → List ℕ
costing_values (Ok cost) = cost.0 ∷ []
costing_values (Err x) = named x

-- the record, by its kind and its numbers, with the place behind it
abbrev pub read_values : Read → List ℕ
read_values (Ok (Some f)) = kind_of f.item ∷ fields_of f.item ++ (f.next ∷ [])
read_values (Ok None) = []
read_values (Err x) = named x

-- how many bytes were written
abbrev pub write_values : Write → List ℕ
write_values (Ok n) = n ∷ []
write_values (Err x) = named x

-- ---- both together: an answer as the paper has it
pub record Paper : Type 0 where
  pub number : ℕ
  pub values : List ℕ

abbrev pub paper : ℕ → List ℕ → Paper
paper n vs = record { number = n; values = vs }

abbrev pub answer_paper : Answered → Paper
answer_paper a = paper (answer_number a) (answer_values a)

abbrev pub count_paper : Counted → Paper
count_paper a = paper (count_number a) (count_values a)

abbrev pub pricing_paper : Pricing → Paper
pricing_paper a = paper (pricing_number a) (pricing_values a)

abbrev pub costing_paper : Costing → Paper
costing_paper a = paper (costing_number a) (costing_values a)

abbrev pub read_paper : Read → Paper
read_paper a = paper (read_number a) (read_values a)

abbrev pub write_paper : Write → Paper
write_paper a = paper (write_number a) (write_values a)

abbrev pub unless : Verdict → List ℕ → List ℕ
unless (Ok tt) vs = vs
unless (Err x) vs = named x

-- a verdict that accepts gives no value
abbrev pub verdict_paper : Verdict → Paper
verdict_paper v = paper (verdict_number v) (unless v [])

-- "Each returns its number": that of the first check that holds, and 0 where none does
abbrev pub due : List Check → ℕ
due ks = verdict_number (first_of ks)

-- what an entry says that has these checks, and these values to give where none holds
abbrev pub paper_of : List Check → List ℕ → Paper
paper_of ks vs = paper (due ks) (unless (first_of ks) vs)

-- the numbers of a list of checks, in its order
abbrev pub numbers_of : List Check → List ℕ
numbers_of [] = []
numbers_of (k ∷ ks) = number k.refusal ∷ numbers_of ks

-- ---- what a check asks of a tree or an answer
abbrev pub is_fault : Finding → Bool
is_fault (Ok tt) = false
is_fault (Err f) = true

-- the fault that is found; of a tree that has none, whose check does not hold, any stands here
abbrev pub fault_in : Finding → Fault
fault_in (Ok tt) = Count
fault_in (Err f) = f

abbrev pub is_wait : Answer → Bool
is_wait Issued = false
is_wait Waits = true
is_wait OnDebt = false

abbrev pub is_debt : Answer → Bool
is_debt Issued = false
is_debt Waits = false
is_debt OnDebt = true

-- ---- the checks of each entry
unfoldable pub tree_checks : Tree → List Check
tree_checks t = (is_fault (tree_fault t) ⇒ BadTree (fault_in (tree_fault t))) ∷ (is_thin t ⇒ ThinTree) ∷ []

-- a node record's own faults, by the function that finds a whole tree's
unfoldable pub node_checks : Tree → List Check
node_checks t = (is_fault (newest_fault t) ⇒ BadTree (fault_in (newest_fault t))) ∷ []

unfoldable pub rate_checks : Rates → List Check
rate_checks r = (not (rates_in_range r) ⇒ BadRate) ∷ []

unfoldable pub start_checks : Tree → Rates → List Check
start_checks t r = tree_checks t ++ rate_checks r

unfoldable pub cost_checks : Model → Row → Bio → List Check
cost_checks model row b = (not (bio_in_range b) ⇒ BadBio) ∷ (ltb cost_most (cost_of model row b).0 ⇒ TooDear) ∷ []

unfoldable pub room_checks : Answer → Abs → Row → Queue → List Check
room_checks answer cost row queue =
    (is_wait answer && leb queue_room queue.len ⇒ QueueFull)
    ∷ (is_debt answer && ltb debt_most (row.debt.0 + cost.0) ⇒ DebtFull)
    ∷ []

unfoldable pub submit_checks : Bio → Controller → List Check
submit_checks b c =
    (not (is_leaf c.tree b.node) ⇒ NoLeaf)
    ∷ cost_checks c.model (row_at c b.node) b
    ++ room_checks (would_be c b) (cost_of c.model (row_at c b.node) b) (row_at c b.node) (queue_at c b.node)

-- places is the length of the lent buffer
unfoldable pub tick_checks : ℕ → ℕ → Controller → List Check
tick_checks time places c =
    (ltb time c.clock.time ⇒ TimeBack)
    ∷ (ltb (c.clock.time + elapsed_most) time ⇒ TimeFar)
    ∷ (ltb vtime_most (c.clock.vtime.0 + (growth c.clock time).0) ⇒ ClockFull)
    ∷ (ltb since_most (c.clock.since.0 + (growth c.clock time).0) ⇒ PlanDue)
    ∷ (ltb places (waiting_all c) ⇒ FewPlaces)
    ∷ []

unfoldable pub plan_checks : Controller → List Check
plan_checks c = (eqb c.clock.since.0 0 ⇒ NothingPassed) ∷ []

unfoldable pub vrate_checks : ℕ → List Check
vrate_checks v = (not (vrate_in_range v) ⇒ BadVrate) ∷ []

-- request One: "Refusal 19 if .., then 1 .., then 2 .." (DECISIONS 59, 60); request Two: ".. becomes 22"
unfoldable pub weight_checks : ℕ → ℕ → Tree → List Check
weight_checks n w t =
    (not (is_below_root t n) ⇒ NotBelowRoot)
    ∷ (not (weight_in_range w) ⇒ BadTree (Weight n))
    ∷ (is_thin (with_weight n w t) ⇒ ThinTree)
    ∷ []

-- 16 and 17 of a place; at the end neither holds
unfoldable pub read_checks : List ℕ → ℕ → List Check
read_checks trace at =
    (ltb at (length trace) && not (is_kind (get_or trace at 0)) ⇒ UnknownKind)
    ∷ (ltb (length trace) at || ltb at (length trace) && ltb (length trace) (behind (get_or trace at 0) at) ⇒ CutShort)
    ∷ []

-- what a trace has at a place: a kind and its numbers, with the place behind them; at the end nothing
unfoldable pub values_at : List ℕ → ℕ → List ℕ
values_at trace at =
    cond (ltb at (length trace))
    (get_or trace at 0 ∷ fields_from (layout (get_or trace at 0)) (drop (at + 1) trace) ++ (behind (get_or trace at 0) at ∷ []))
    []

unfoldable pub write_checks : Record → List ℕ → List Check
write_checks r lent = (ltb (length lent) (length (record_bytes r)) ⇒ ShortBuffer) ∷ []
