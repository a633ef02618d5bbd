-- The steps of a plan as they are worked out: over the rows and the queues of all leaves.
-- Assumes nothing.
use Rattle.std.specs.Prelude.{Bool, ◌&&◌, ◌||◌, leb, List, ℕ, ◌*◌, ◌≤◌, ◌<◌, get_or}
use Rattle.rules.specs.Numbers.{leaf_most, nodes_most}
use Rattle.rules.specs.Words.{sum_to, table, has, set_of}
use Rattle.rules.specs.Units.{abs}
use Rattle.rules.specs.Budget.{empty_row, empty_queue, length_only, with_budget, rebudget}
use Rattle.rules.specs.Plan.{forgiven, stays, rested, restarted, target_of, is_donor}
use Rattle.rules.specs.Invariant.{worth_most}
use Rattle.rules.specs.declared.units.Abs.{Abs}
use Rattle.rules.specs.declared.units.Virt.{Virt}
use Rattle.rules.specs.declared.budget.Row.{Row}
use Rattle.rules.specs.declared.budget.Queue.{Queue}

-- ---- what is worked out of one leaf
abbrev pub usage : Row → ℕ
usage row = row.usage.0

abbrev pub usage_at : List Row → ℕ → ℕ
usage_at rows n = usage (get_or rows n empty_row)

abbrev pub keeps_at : Bool → List Row → List Queue → ℕ → Bool
keeps_at quiet rows queues n = stays (forgiven quiet (get_or rows n empty_row)) (get_or queues n empty_queue)

abbrev pub stays_at : ℕ → Bool → List Row → List Queue → ℕ → Bool
stays_at active quiet rows queues n = has active n && keeps_at quiet rows queues n

-- of the active nodes before n those are left that p holds of, and from n on all
abbrev pub left_at : ℕ → (ℕ → Bool) → ℕ → ℕ → Bool
left_at active p n k = has active k && (leb n k || p k)

abbrev pub gives_at : ℕ → Bool → List ℕ → List ℕ → List Row → List Queue → ℕ → Bool
gives_at active quiet bases targets rows queues n =
    has active n && is_donor (get_or targets n 0) (get_or bases n 0) (forgiven quiet (get_or rows n empty_row)) (get_or queues n empty_queue)

-- a row when the plan is over, except that its budget does not yet follow the new share
abbrev pub closed_row : Bool → Bool → Row → Row
closed_row quiet stay row = restarted (rested stay (forgiven quiet row))

abbrev pub planned_row : Bool → Bool → ℕ → ℕ → Row → Row
planned_row quiet stay before after row =
    with_budget (rebudget before after (closed_row quiet stay row).budget) (closed_row quiet stay row)

abbrev pub planned_at : Bool → ℕ → List ℕ → List ℕ → List Row → ℕ → Row
planned_at quiet active before after rows n =
    planned_row quiet (has active n) (get_or before n 0) (get_or after n 0) (get_or rows n empty_row)

-- ---- the same of all
-- "the usage of all leaves"
abbrev pub usage_of : List Row → Abs
usage_of rows = abs (sum_to (usage_at rows) leaf_most)

-- those that do not become inactive
abbrev pub staying_of : ℕ → Bool → List Row → List Queue → ℕ
staying_of active quiet rows queues = set_of (stays_at active quiet rows queues)

abbrev pub targets_of : Virt → List Row → List ℕ
targets_of since rows = table (λ n. target_of since (get_or rows n empty_row).usage)

abbrev pub donors_of : ℕ → Bool → List ℕ → List ℕ → List Row → List Queue → ℕ
donors_of active quiet bases targets rows queues = set_of (gives_at active quiet bases targets rows queues)

abbrev pub planned_rows : Bool → ℕ → List ℕ → List ℕ → List Row → List Row
planned_rows quiet active before after rows = table (planned_at quiet active before after rows)

-- queues that say how many wait and hold none of them
abbrev pub bare_queues : List ℕ → List Queue
bare_queues waiting = table (λ n. length_only (get_or waiting n 0))

-- no budget is worth too much to follow a new share
pub record CanFollow (quiet : Bool) (active : ℕ) (before : List ℕ) (rows : List Row) : Type 0 where
  pub worthy : (n : ℕ) → n < nodes_most → (closed_row quiet (has active n) (get_or rows n empty_row)).budget.0 * get_or before n 0 ≤ worth_most
