-- Trace records, continued: the phases of a trace and the lines of the replay.
-- Assumes nothing.
use Rattle.std.specs.Prelude.{Bool, true, false, cond, ◌||◌, List, [], ◌∷◌, ◌++◌, ℕ, zero, suc, ◌+◌, ◌/◌, ◌%◌, eqb, leb, ltb, length, get_or, take, set, replicate, Err, None, Ok, Some}
use Rattle.rules.specs.Numbers.{nodes_most, leaf_most, waiting_most, letter_I, letter_W, letter_D}
use Rattle.rules.specs.Words.{join_to, has}
use Rattle.rules.specs.Budget.{fresh}
use Rattle.rules.specs.Refusals.{number, named, first_of, node_checks, rate_checks}
use Rattle.rules.specs.Entries.{no_tree, slowest, slowest_model, started, submitted, ticked, lent_of, planned, set_by}
use Rattle.rules.specs.Trace.{kind_of, read_at}
use Rattle.rules.specs.declared.cost.Rates.{Rates}
use Rattle.rules.specs.declared.cost.Bio.{Bio}
use Rattle.rules.specs.declared.tree.Tree.{Tree}
use Rattle.rules.specs.declared.budget.Controller.{Controller}
use Rattle.rules.specs.declared.refusals.Refusal.{Refusal}
use Rattle.rules.specs.declared.refusals.Refusal.TheVariants.{WrongPhase}
use Rattle.rules.specs.declared.refusals.Answer.TheVariants.{Issued, Waits, OnDebt}
use Rattle.rules.specs.declared.trace.Record.{Record}
use Rattle.rules.specs.declared.trace.Record.TheVariants.{Node, Model as ModelOf, Start, Bio as BioOf, Tick, Plan, Vrate, Weight}
use Rattle.rules.specs.declared.replay.Phase.{Phase}
use Rattle.rules.specs.declared.replay.Phase.TheVariants.{Setup, Priced, Running, Stopped}
use Rattle.rules.specs.declared.replay.Replay.{Replay}
use Rattle.rules.specs.declared.replay.Setting.{Setting}
use Rattle.rules.specs.declared.replay.Setting.TheVariants.{Vrate as SetVrate, Weight as SetWeight}
use Rattle.rules.specs.Results.{Answered, Verdict, Count as Counted, Read}

-- ---- lines: a letter, a blank before each number, the number's decimal digits, a line feed
unfoldable pub digits_in : ℕ → ℕ → List ℕ
digits_in zero n = []
digits_in (suc more) n = cond (ltb n 10) ((48 + n) ∷ []) (digits_in more (n / 10) ++ ((48 + n % 10) ∷ []))

-- a number of 64 bits has at most 20 digits
unfoldable pub digits : ℕ → List ℕ
digits n = digits_in 20 n

abbrev pub numbers : List ℕ → List ℕ
numbers [] = []
numbers (n ∷ ns) = 32 ∷ digits n ++ numbers ns

unfoldable pub line : ℕ → List ℕ → List ℕ
line letter ns = letter ∷ numbers ns ++ (10 ∷ [])

-- "The replay prints one line each: .."; a refusal that names a node says that too (DECISIONS 64)
unfoldable pub refusal_line : Refusal → List ℕ
refusal_line x = line 82 (number x ∷ named x)

unfoldable pub answer_line : Answered → ℕ → List ℕ
answer_line (Ok Issued) id = line letter_I (id ∷ [])
answer_line (Ok Waits) id = line letter_W (id ∷ [])
answer_line (Ok OnDebt) id = line letter_D (id ∷ [])
answer_line (Err x) id = refusal_line x

abbrev pub release_lines : List ℕ → List ℕ
release_lines [] = []
release_lines (id ∷ ids) = line 114 (id ∷ []) ++ release_lines ids

unfoldable pub tick_lines : Counted → List ℕ → List ℕ
tick_lines (Ok n) lent = release_lines (take n lent)
tick_lines (Err x) lent = refusal_line x

-- ---- the shares of the active leaves, by rising number
abbrev pub leaf_line : ℕ → ℕ → ℕ → List ℕ
leaf_line active n share = cond (has active n) (line 80 (n ∷ share ∷ [])) []

-- of the leaves up to m
unfoldable pub share_lines_to : ℕ → List ℕ → ℕ → List ℕ
share_lines_to active shares m = join_to (λ n. leaf_line active n (get_or shares n 0)) m

abbrev pub share_lines_of : ℕ → List ℕ → List ℕ
share_lines_of active shares = share_lines_to active shares leaf_most

unfoldable pub share_lines : Controller → List ℕ
share_lines c = share_lines_of c.active c.shares

unfoldable pub plan_lines : Verdict → Controller → List ℕ
plan_lines (Ok tt) c = share_lines c
plan_lines (Err x) c = refusal_line x

unfoldable pub verdict_lines : Verdict → List ℕ
verdict_lines (Ok tt) = []
verdict_lines (Err x) = refusal_line x

-- ---- phases: "Setup: 1 .., 2 .., 3 ... After start: 4 .. 7", and 8 with request One; "Exactly one model comes before start; .." (DECISIONS 16)
unfoldable pub in_phase : Phase → ℕ → Bool
in_phase Setup kind = eqb kind 1 || eqb kind 2
in_phase Priced kind = eqb kind 1 || eqb kind 3
in_phase Running kind = leb 4 kind
in_phase Stopped kind = false

abbrev pub is_stopped : Phase → Bool
is_stopped Setup = false
is_stopped Priced = false
is_stopped Running = false
is_stopped Stopped = true

-- ---- one record: the bytes that it prints, and the replay after it
pub record Step : Type 0 where
  pub bytes : List ℕ
  pub replay : Replay

abbrev pub within : Phase → Tree → Rates → Controller → Replay
within phase t r c = record { phase = phase; tree = t; rates = r; state = c }

-- "After R in setup, .."
abbrev pub stops_at : Refusal → Replay → Step
stops_at x s = record { bytes = refusal_line x; replay = within Stopped s.tree s.rates s.state }

abbrev pub silent : Replay → Step
silent s = record { bytes = []; replay = s }

-- "nodes are numbered from 1": the root is there before the first
abbrev pub root_tree : Tree
root_tree = record { count = 1; parents = replicate nodes_most 0; weights = replicate nodes_most 0 }

-- until start there is no state of the reader's: a refused start's stands in its place
abbrev pub beginning : Replay
beginning = within Setup root_tree slowest (fresh no_tree slowest_model 0)

abbrev pub grown : ℕ → ℕ → Tree → Tree
grown p w t = record { count = t.count + 1; parents = set t.parents t.count p; weights = set t.weights t.count w }

-- "In a trace a node record is checked .."
unfoldable pub node_step : Verdict → Tree → Replay → Step
node_step (Ok tt) t s = silent (within s.phase t s.rates s.state)
node_step (Err x) t s = stops_at x s

unfoldable pub model_step : Verdict → Rates → Replay → Step
model_step (Ok tt) r s = silent (within Priced s.tree r s.state)
model_step (Err x) r s = stops_at x s

-- ".. and start for too few nodes, then for 2": each node and the rates were checked when they came
unfoldable pub start_step : Verdict → Controller → Replay → Step
start_step (Ok tt) c s = silent (within Running s.tree s.rates c)
start_step (Err x) c s = stops_at x s

-- ---- a call on the controller: the bytes that it prints, and the state after it
pub record Called : Type 0 where
  pub bytes : List ℕ
  pub state : Controller

abbrev pub bio_call : Bio → Controller → Called
bio_call b c = record { bytes = answer_line (submitted b c).answer b.id; state = (submitted b c).state }

-- the replay lends a tick room for every bio that can wait (DECISIONS 17)
abbrev pub all_room : List ℕ
all_room = replicate waiting_most 0

abbrev pub tick_call : ℕ → Controller → Called
tick_call time c =
    record { bytes = tick_lines (ticked time all_room c).answer (lent_of time all_room c); state = (ticked time all_room c).state }

abbrev pub plan_call : Controller → Called
plan_call c = record { bytes = plan_lines (planned c).answer (planned c).state; state = (planned c).state }

abbrev pub set_call : Setting → Controller → Called
set_call x c = record { bytes = verdict_lines (set_by x c).answer; state = (set_by x c).state }

-- ".. otherwise it goes on"
abbrev pub goes_on : Called → Replay → Step
goes_on call s = record { bytes = call.bytes; replay = within s.phase s.tree s.rates call.state }

unfoldable pub record_step : Record → Replay → Step
record_step (Node p w) s = node_step (first_of (node_checks (grown p w s.tree))) (grown p w s.tree) s
record_step (ModelOf r) s = model_step (first_of (rate_checks r)) r s
record_step (Start time) s = start_step (started s.tree s.rates time).answer (started s.tree s.rates time).state s
record_step (BioOf b) s = goes_on (bio_call b s.state) s
record_step (Tick time) s = goes_on (tick_call time s.state) s
record_step Plan s = goes_on (plan_call s.state) s
record_step (Vrate v) s = goes_on (set_call (SetVrate v) s.state) s
record_step (Weight n w) s = goes_on (set_call (SetWeight n w) s.state) s

-- ---- what is read at a place: a record, which is checked for 18 and then for its own refusals, the end, or 16 or 17
unfoldable pub read_step : Read → Replay → Step
read_step (Ok (Some f)) s = cond (in_phase s.phase (kind_of f.item)) (record_step f.item s) (stops_at WrongPhase s)
read_step (Ok None) s = silent s
read_step (Err x) s = stops_at x s

-- where the next record begins; at the end, and where nothing can be read, there is none
abbrev pub next_place : Read → ℕ → ℕ
next_place (Ok (Some f)) place = f.next
next_place (Ok None) place = place
next_place (Err x) place = place

-- a replay that has stopped reads and prints no more
unfoldable pub stepped : Read → Replay → Step
stepped read s = cond (is_stopped s.phase) (silent s) (read_step read s)

-- ---- a whole trace: each record takes a byte at least, so its length bounds how many there are
unfoldable pub replay_from : ℕ → List ℕ → ℕ → Replay → List ℕ
replay_from zero trace place s = (stepped (read_at trace place) s).bytes
replay_from (suc more) trace place s =
    (stepped (read_at trace place) s).bytes
    ++ replay_from more trace (next_place (read_at trace place) place) (stepped (read_at trace place) s).replay

unfoldable pub replay : List ℕ → List ℕ
replay trace = replay_from (length trace) trace 0 beginning
