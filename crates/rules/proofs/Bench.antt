-- Numbers on the bench: B1 to B12, shown of the rules themselves by one fact over a single list, and the whole case of a trace.
-- Assumes nothing.
pub mod Clocks
pub mod Edges
pub mod Faults
pub mod Flushes
pub mod Questions
pub mod Run
pub mod Shares
pub mod Weights
use Rattle.std.specs.Prelude.{◌≡◌, refl, Bool, true, false, ◌&&◌, List, [], ◌∷◌, ◌++◌, ℕ, ◌+◌, ◌-◌, eqb, get_or}
use Rattle.rules.specs.Words.{sum_to, any_to, join_to, table_from, has, set_to, no_node}
use Rattle.rules.specs.Units.{abs, virt, relative}
use Rattle.rules.specs.Cost.{rates_in_range, page_cost, base_cost, price_of, priced, is_flush, is_near, is_sequential, cost_at, cost_of}
use Rattle.rules.specs.Tree.{parent, weight, last, level_in, level, count_in_range, weight_in_range, node_fault, fault_to, tree_fault, newest_fault, is_leaf, leaves_of, on_way_in, on_way, is_active, child_sum, share_in, share_of, base_share, base_shares, is_thin, is_below_root}
use Rattle.rules.specs.Budget.{empty_row, fresh_clock, fresh, row_at, queue_at, share_at, with_clock, with_sharing, with_books, with_times, with_rate, put_leaf, with_budget, rebudget, reshared, rebased, activated, entered, answer_to, row_after, queue_after, answer_in, applied, settled, submission, would_be, reweighted}
use Rattle.rules.specs.Tick.{hundredths, growth, left_over, advanced, repayment, repaid, release_in, released, capped, turn, turn_of, releases, lent_after, tick, waiting_all}
use Rattle.rules.specs.Plan.{usage_all, is_quiet, forgiveness, used_share, target_of, is_donor, is_taker, is_donation, sum_over, taken_of, is_lowest, remainder, share_given, donated, quiet_in, active_after, targets_in, donors_in, closed, shared, plan}
use Rattle.rules.specs.Refusals.{verdict_number, tree_checks, node_checks, rate_checks, start_checks, cost_checks, room_checks, submit_checks, tick_checks, plan_checks, vrate_checks, weight_checks}
use Rattle.rules.specs.Entries.{tree_verdict, costing, costing_by, started, started_by, submitted, submitted_by, ticked, ticked_by, lent_by, lent_of, planned, planned_by, vrated, vrated_by, weighted, weighted_by}
use Rattle.rules.specs.Question.{unless_refused, when_active, when_inactive, ruling_by, ruling, asked}
use Rattle.rules.specs.Trace.{bytes_of, number_of, is_kind, layout, fields_of, record_of, body_of, record_bytes, writing, fields_from, behind, read_kind, read_at}
use Rattle.rules.specs.Replay.{digits, digits_in, line, refusal_line, answer_line, tick_lines, share_lines_to, share_lines, plan_lines, verdict_lines, in_phase, node_step, model_step, start_step, record_step, read_step, stepped, replay_from, replay}
use Rattle.rules.specs.declared.cost.Rates.{Rates}
use Rattle.rules.specs.declared.cost.Model.{Model}
use Rattle.rules.specs.declared.cost.Bio.{Bio}
use Rattle.rules.specs.declared.tree.Tree.{Tree}
use Rattle.rules.specs.declared.budget.Row.{Row}
use Rattle.rules.specs.declared.budget.Clock.{Clock}
use Rattle.rules.specs.declared.budget.Controller.{Controller}
use Rattle.rules.specs.declared.refusals.Answer.{Answer}
use Rattle.rules.specs.declared.trace.Record.{Record}
use Rattle.rules.specs.declared.trace.Record.TheVariants.{Node, Model as ModelOf, Start, Bio as BioOf, Tick, Plan}
use Rattle.rules.specs.Bench.{B, Case, M, all_right, at_zero, bio, bytes_of_all, cases, clock_at, computed, cost_number, full, later9, letter, on_debt9, plan10, plan11, rates_M, running, saved, state9, tick9, tree, tree5, tree6, tree7, used, waits12, whole_output, whole_trace}
use Rattle.rules.specs.Results.{Costing}

pub bench : all_right cases ≡ true
unfolding computed cases on_debt9 tick9 later9 plan10 plan11 waits12
bench = refl

pub whole_case_lem : replay whole_trace ≡ whole_output
unfolding computed whole_trace whole_output
whole_case_lem = refl
