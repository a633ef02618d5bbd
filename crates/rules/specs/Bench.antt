-- Numbers on the bench: B1 to B12, shown of the rules themselves by one fact over a single list, and the whole case of a trace.
-- Assumes nothing.
pub mod Clocks
pub mod Edges
pub mod Faults
pub mod Flushes
pub mod Questions
pub mod Run
pub mod Shares
pub mod Weights
use Rattle.std.specs.Prelude.{◌≡◌, refl, Bool, true, false, ◌&&◌, List, [], ◌∷◌, ◌++◌, ℕ, ◌+◌, ◌-◌, eqb, get_or, Err, Ok}
use Rattle.rules.specs.Words.{sum_to, any_to, join_to, table_from, has, set_to, no_node}
use Rattle.rules.specs.Units.{abs, virt, relative}
use Rattle.rules.specs.Cost.{rates_in_range, page_cost, base_cost, price_of, priced, is_flush, is_near, is_sequential, cost_at, cost_of}
use Rattle.rules.specs.Tree.{parent, weight, last, level_in, level, count_in_range, weight_in_range, node_fault, fault_to, tree_fault, newest_fault, is_leaf, leaves_of, on_way_in, on_way, is_active, child_sum, share_in, share_of, base_share, base_shares, is_thin, is_below_root}
use Rattle.rules.specs.Budget.{empty_row, fresh_clock, fresh, row_at, queue_at, share_at, with_clock, with_sharing, with_books, with_times, with_rate, put_leaf, with_budget, rebudget, reshared, rebased, activated, entered, answer_to, row_after, queue_after, answer_in, applied, settled, submission, would_be, reweighted}
use Rattle.rules.specs.Tick.{hundredths, growth, left_over, advanced, repayment, repaid, release_in, released, capped, turn, turn_of, releases, lent_after, tick, waiting_all}
use Rattle.rules.specs.Plan.{usage_all, is_quiet, forgiveness, used_share, target_of, is_donor, is_taker, is_donation, sum_over, taken_of, is_lowest, remainder, share_given, donated, quiet_in, active_after, targets_in, donors_in, closed, shared, plan}
use Rattle.rules.specs.Refusals.{verdict_number, tree_checks, node_checks, rate_checks, start_checks, cost_checks, room_checks, submit_checks, tick_checks, plan_checks, vrate_checks, weight_checks}
use Rattle.rules.specs.Entries.{tree_verdict, costing, costing_by, started, started_by, submitted, submitted_by, ticked, ticked_by, lent_by, lent_of, planned, planned_by, vrated, vrated_by, weighted, weighted_by}
use Rattle.rules.specs.Question.{unless_refused, when_active, when_inactive, ruling_by, ruling, asked}
use Rattle.rules.specs.Trace.{bytes_of, number_of, is_kind, layout, fields_of, record_of, body_of, record_bytes, writing, fields_from, behind, read_kind, read_at}
use Rattle.rules.specs.Replay.{digits, digits_in, line, refusal_line, answer_line, tick_lines, share_lines_to, share_lines, plan_lines, verdict_lines, in_phase, node_step, model_step, start_step, record_step, read_step, stepped, replay_from, replay}
use Rattle.rules.specs.declared.cost.Rates.{Rates}
use Rattle.rules.specs.declared.cost.Model.{Model}
use Rattle.rules.specs.declared.cost.Bio.{Bio}
use Rattle.rules.specs.declared.tree.Tree.{Tree}
use Rattle.rules.specs.declared.budget.Row.{Row}
use Rattle.rules.specs.declared.budget.Clock.{Clock}
use Rattle.rules.specs.declared.budget.Controller.{Controller}
use Rattle.rules.specs.declared.refusals.Answer.{Answer}
use Rattle.rules.specs.declared.trace.Record.{Record}
use Rattle.rules.specs.declared.trace.Record.TheVariants.{Node, Model as ModelOf, Start, Bio as BioOf, Tick, Plan}
use Rattle.rules.specs.Results.{Costing, Answered}

-- every rule that the checker computes below: to unfold this is to unfold them all
unfoldable pub computed : Unit {0}
unfolding sum_to any_to join_to table_from has set_to relative rates_in_range page_cost base_cost price_of priced is_flush is_near is_sequential cost_at cost_of parent weight last level_in level count_in_range weight_in_range node_fault fault_to tree_fault is_leaf leaves_of on_way_in on_way is_active child_sum share_in share_of base_share base_shares is_thin rebudget reshared rebased activated entered answer_to row_after queue_after answer_in applied settled submission hundredths growth left_over advanced repayment repaid release_in released capped turn turn_of releases tick waiting_all usage_all is_quiet forgiveness used_share target_of is_donor is_taker is_donation sum_over taken_of is_lowest remainder share_given donated quiet_in active_after targets_in donors_in closed shared plan would_be tree_checks cost_checks room_checks submit_checks tick_checks plan_checks tree_verdict costing costing_by submitted submitted_by ticked ticked_by planned planned_by digits digits_in line refusal_line answer_line bytes_of number_of is_kind layout fields_of record_of body_of record_bytes writing fields_from behind read_kind read_at rate_checks vrate_checks lent_by lent_of lent_after vrated vrated_by tick_lines share_lines_to share_lines plan_lines verdict_lines in_phase newest_fault node_checks node_step model_step start_checks started_by started start_step record_step read_step stepped replay_from replay is_below_root weight_checks weighted weighted_by reweighted unless_refused when_active when_inactive ruling_by ruling asked
computed = tt

-- ---- an entry of the list: a bench number, what the rules give, what the bench has
pub record Case : Type 0 where
  pub bench : ℕ
  pub got : ℕ
  pub want : ℕ

abbrev pub B : ℕ → ℕ → ℕ → Case
B n g w = record { bench = n; got = g; want = w }

-- ---- model M, and M with another rate of sequential reads
abbrev pub rates_M : ℕ → Rates
rates_M rseqiops = record {
  rbps = 409600000;
  rseqiops = rseqiops;
  rrandiops = 10000;
  wbps = 204800000;
  wseqiops = 25000;
  wrandiops = 5000;
}

abbrev pub M : Model
M = priced (rates_M 50000)

-- ---- a bio of a leaf at sector 0: flags 0 is a read, 1 a write, 2 a forced read
abbrev pub bio : ℕ → ℕ → ℕ → Bio
bio node flags bytes = record { node = node; flags = flags; id = 7; sector = 0; bytes = bytes }

-- a leaf whose last bio ended at sector 0
abbrev pub at_zero : Row
at_zero = record { budget = virt 0; debt = abs 0; usage = abs 0; end = 0; begun = true; accepted = true }

abbrev pub cost_number : Costing → ℕ
cost_number (Ok cost) = cost.0
cost_number (Err x) = 0

-- ---- the trees of B5 to B8
abbrev pub tree : ℕ → List ℕ → List ℕ → Tree
tree count parents weights = record { count = count; parents = 0 ∷ parents; weights = 0 ∷ weights }

abbrev pub tree5 : Tree
tree5 = tree 3 (0 ∷ 0 ∷ []) (100 ∷ 300 ∷ [])

abbrev pub tree6 : Tree
tree6 = tree 4 (0 ∷ 0 ∷ 0 ∷ []) (100 ∷ 100 ∷ 100 ∷ [])

abbrev pub tree7 : ℕ → Tree
tree7 inside = tree 5 (0 ∷ 0 ∷ 1 ∷ 1 ∷ []) (1 ∷ 1023 ∷ 1 ∷ inside ∷ [])

-- the base share of a node with all leaves active
abbrev pub full : Tree → ℕ → ℕ
full t n = get_or (base_shares t (leaves_of t)) n 0

-- ---- a clock at this time, virtual time, E and vrate
abbrev pub clock_at : ℕ → ℕ → ℕ → ℕ → Clock
clock_at time vtime since vrate = with_rate vrate (with_times time (virt vtime) (virt since) (fresh_clock 0))

-- ---- a state with every leaf of a tree active at its base share, with these rows, E and time 0
abbrev pub running : Tree → List Row → ℕ → Controller
running t rows since =
    with_books (empty_row ∷ rows) (fresh t M 0).queues
    (with_sharing (leaves_of t) no_node (base_shares t (leaves_of t)) (with_clock (clock_at 0 since since 100) (fresh t M 0)))

abbrev pub saved : ℕ → Row
saved b = record { budget = virt b; debt = abs 0; usage = abs 0; end = 0; begun = false; accepted = true }

abbrev pub used : ℕ → Row
used u = record { budget = virt 0; debt = abs 0; usage = abs u; end = 0; begun = true; accepted = true }

-- ---- B9: leaf 1 of B5's tree, whose random read of 4,096 bytes costs 100,000
abbrev pub state9 : ℕ → Controller
state9 budget = running tree5 (saved budget ∷ saved 0 ∷ []) 0

-- the letter that the replay prints for an answer
abbrev pub letter : Answered → ℕ
letter a = get_or (answer_line a 7) 0 0

unfoldable pub on_debt9 : Controller
on_debt9 = (submitted (bio 1 2 4096) (state9 399999)).state

unfoldable pub tick9 : Controller
tick9 = (ticked 0 [] on_debt9).state

unfoldable pub later9 : Controller
later9 = (ticked 1 [] tick9).state

-- ---- B10 to B12
unfoldable pub plan10 : Controller
plan10 = (planned (running tree5 (used 25000000 ∷ used 30000000 ∷ []) 100000000)).state

unfoldable pub plan11 : Controller
plan11 = (planned (running tree6 (used 100000000 ∷ used 100000000 ∷ used 1000 ∷ []) 100000000)).state

-- B10's donor, with a budget, asks for more than that buys: the donation ends
unfoldable pub waits12 : Controller
waits12 = (submitted (bio 2 0 1048576) (put_leaf 2 (with_budget (virt 1000000) (row_at plan10 2)) (queue_at plan10 2) plan10)).state

unfoldable pub cases : List Case
cases =
    B 1 (cost_number (costing M empty_row (bio 1 0 512))) 100000
    ∷ B 1 (cost_number (costing M empty_row (bio 1 0 4096))) 100000
    ∷ B 1 (cost_number (costing M empty_row (bio 1 0 8192))) 110000
    ∷ B 2 (cost_number (costing M at_zero (bio 1 0 65536))) 170000
    ∷ B 3 (cost_number (costing M empty_row (bio 1 1 4096))) 200000
    ∷ B 4 (priced (rates_M 200000)).read.sequential.0 0
    ∷ B 5 (full tree5 1) 268435456
    ∷ B 5 (full tree5 2) 805306368
    ∷ B 6 (full tree6 1) 357913941
    ∷ B 6 (full tree6 2) 357913941
    ∷ B 6 (full tree6 3) 357913941
    ∷ B 6 (relative (abs 100000) (full tree6 3)).0 300001
    ∷ B 7 (full (tree7 1023) 3) 1024
    ∷ B 7 (verdict_number (tree_verdict (tree7 1023))) 0
    ∷ B 8 (full (tree7 1024) 3) 1023
    ∷ B 8 (verdict_number (tree_verdict (tree7 1024))) 2
    ∷ B 9 (share_at (state9 0) 1) 268435456
    ∷ B 9 (letter (submitted (bio 1 0 4096) (state9 400000)).answer) 73
    ∷ B 9 (row_at (submitted (bio 1 0 4096) (state9 400000)).state 1).budget.0 0
    ∷ B 9 (letter (submitted (bio 1 0 4096) (state9 399999)).answer) 87
    ∷ B 9 (letter (submitted (bio 1 2 4096) (state9 399999)).answer) 68
    ∷ B 9 (row_at on_debt9 1).debt.0 100000
    ∷ B 9 (row_at on_debt9 1).budget.0 399999
    ∷ B 9 (row_at tick9 1).usage.0 99999
    ∷ B 9 (row_at tick9 1).budget.0 3
    ∷ B 9 (row_at tick9 1).debt.0 1
    ∷ B 9 (row_at later9 1).budget.0 0
    ∷ B 9 (row_at later9 1).debt.0 0
    ∷ B 10 (share_at plan10 1) 671088639
    ∷ B 10 (share_at plan10 2) 402653185
    ∷ B 11 (share_at plan11 1) 536864201
    ∷ B 11 (share_at plan11 2) 536864200
    ∷ B 11 (share_at plan11 3) 13422
    ∷ B 12 (share_at waits12 2) 805306368
    ∷ B 12 (row_at waits12 2).budget.0 500000
    ∷ []

abbrev pub all_right : List Case → Bool
all_right [] = true
all_right (c ∷ cs) = eqb c.got c.want && all_right cs

-- ---- the whole case: a trace's bytes, and the bytes that its replay prints
abbrev pub bytes_of_all : List Record → List ℕ
bytes_of_all [] = []
bytes_of_all (r ∷ rs) = record_bytes r ++ bytes_of_all rs

unfoldable pub whole_trace : List ℕ
whole_trace =
    bytes_of_all (Node 0 100 ∷ Node 0 300 ∷ ModelOf (rates_M 50000) ∷ Start 0 ∷ BioOf (bio 1 0 4096) ∷ Tick 100000 ∷ Tick 400000 ∷ Plan ∷ [])

-- W 7, r 7, P 1 1073741824
unfoldable pub whole_output : List ℕ
whole_output =
    87 ∷ 32 ∷ 55 ∷ 10
    ∷ 114 ∷ 32 ∷ 55 ∷ 10
    ∷ 80 ∷ 32 ∷ 49 ∷ 32 ∷ 49 ∷ 48 ∷ 55 ∷ 51 ∷ 55 ∷ 52 ∷ 49 ∷ 56 ∷ 50 ∷ 52 ∷ 10
    ∷ []
