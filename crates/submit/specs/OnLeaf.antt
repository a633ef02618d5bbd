-- A bio on its own leaf: what a step asks of the leaf, and what an accepted bio leaves there once the leaf is active.
-- Assumes nothing.
use Rattle.std.specs.Prelude.{◌≡◌, true, ℕ, ◌≤◌, Ok, Option, Some, None}
use Rattle.rules.specs.Numbers.{cost_most}
use Rattle.rules.specs.Cost.{bio_in_range}
use Rattle.rules.specs.Budget.{pushed, noted, row_after}
use Rattle.rules.specs.Invariant.{SoundModel}
use Rattle.rules.specs.declared.units.Abs.{Abs}
use Rattle.rules.specs.declared.cost.Bio.{Bio}
use Rattle.rules.specs.declared.budget.Row.{Row}
use Rattle.rules.specs.declared.budget.Own.{Own}
use Rattle.rules.specs.declared.budget.Queue.{Queue}
use Rattle.rules.specs.declared.refusals.Answer.{Answer}
use Rattle.rules.specs.declared.refusals.Answer.TheVariants.{Issued, Waits, OnDebt}
use Rattle.leaf.specs.Fit.{FitRow, CanTake}

-- a cost that an active leaf can be asked to pay
pub record CanAnswer (cost : Abs) (share : ℕ) (row : Row) : Type 0 where
  pub books : FitRow share row
  pub cheap : cost.0 ≤ cost_most

-- what a sound state has of a node
pub record CanRule (o : Own) : Type 0 where
  pub prices : SoundModel o.model
  pub fit : o.active ≡ true → FitRow o.share o.row

-- "Else it waits.": the cost at which a bio joins the queue, and the queue after it
unfoldable pub queueing : Answer → Abs → Option Abs
queueing Waits cost = Some cost
queueing Issued cost = None
queueing OnDebt cost = None

unfoldable pub queued : Option Abs → ℕ → Queue → Queue
queued None id queue = queue
queued (Some cost) id queue = pushed id cost queue

-- ---- what an answer leaves of a leaf that is active
-- a bio in range that is accepted, with its cost
pub record CanBook (b : Bio) (answer : Answer) (cost : Abs) (share : ℕ) (row : Row) : Type 0 where
  pub range : bio_in_range b ≡ true
  pub takes : CanTake (Ok answer) cost share row

abbrev pub booked_by : Answer → Bio → Abs → ℕ → Row → Row
booked_by answer b cost share row = noted b (row_after answer cost share row)
