-- What each entry answers, and the state that it leaves: a refusal, with nothing changed, or the rule of its section.
-- Assumes nothing.
use Rattle.std.specs.Prelude.{List, ℕ, length, replicate, Err, Ok}
use Rattle.rules.specs.Numbers.{nodes_most, bps_least, iops_least}
use Rattle.rules.specs.Cost.{priced, cost_of}
use Rattle.rules.specs.Budget.{fresh, submission, reweighted}
use Rattle.rules.specs.Tick.{growth, releases, lent_after, tick}
use Rattle.rules.specs.Plan.{plan, with_vrate}
use Rattle.rules.specs.Refusals.{first_of, rate_checks, tree_checks, cost_checks, start_checks, submit_checks, tick_checks, plan_checks, vrate_checks, weight_checks}
use Rattle.rules.specs.declared.cost.Rates.{Rates}
use Rattle.rules.specs.declared.cost.Model.{Model}
use Rattle.rules.specs.declared.cost.Bio.{Bio}
use Rattle.rules.specs.declared.tree.Tree.{Tree}
use Rattle.rules.specs.declared.budget.Row.{Row}
use Rattle.rules.specs.declared.budget.Controller.{Controller}
use Rattle.rules.specs.declared.replay.Setting.{Setting}
use Rattle.rules.specs.declared.replay.Setting.TheVariants.{Vrate, Weight}
use Rattle.rules.specs.Results.{Submitted, Ticked, Judged, Pricing, Costing, Verdict}

-- ---- price a model
unfoldable pub pricing_by : Verdict → Rates → Pricing
pricing_by (Ok tt) r = Ok (priced r)
pricing_by (Err x) r = Err x

unfoldable pub pricing : Rates → Pricing
pricing r = pricing_by (first_of (rate_checks r)) r

-- ---- check a tree
unfoldable pub tree_verdict : Tree → Verdict
tree_verdict t = first_of (tree_checks t)

-- ---- the cost of a bio
unfoldable pub costing_by : Verdict → Model → Row → Bio → Costing
costing_by (Ok tt) model row b = Ok (cost_of model row b)
costing_by (Err x) model row b = Err x

unfoldable pub costing : Model → Row → Bio → Costing
costing model row b = costing_by (first_of (cost_checks model row b)) model row b

-- ---- start
-- a refused start has no state to keep: it hands out a fresh one with no node, which refuses every bio (DECISIONS 5)
abbrev pub no_tree : Tree
no_tree = record { count = 0; parents = replicate nodes_most 0; weights = replicate nodes_most 0 }

abbrev pub slowest : Rates
slowest = record {
  rbps = bps_least;
  rseqiops = iops_least;
  rrandiops = iops_least;
  wbps = bps_least;
  wseqiops = iops_least;
  wrandiops = iops_least;
}

abbrev pub slowest_model : Model
slowest_model = priced slowest

unfoldable pub started_by : Verdict → Tree → Rates → ℕ → Judged
started_by (Ok tt) t r time = record { answer = Ok tt; state = fresh t (priced r) time }
started_by (Err x) t r time = record { answer = Err x; state = fresh no_tree slowest_model 0 }

unfoldable pub started : Tree → Rates → ℕ → Judged
started t r time = started_by (first_of (start_checks t r)) t r time

-- ---- submit
unfoldable pub submitted_by : Verdict → Bio → Controller → Submitted
submitted_by (Ok tt) b c = submission b c
submitted_by (Err x) b c = record { answer = Err x; state = c }

unfoldable pub submitted : Bio → Controller → Submitted
submitted b c = submitted_by (first_of (submit_checks b c)) b c

-- ---- tick, with the lent buffer before it and after
unfoldable pub ticked_by : Verdict → ℕ → Controller → Ticked
ticked_by (Ok tt) time c =
    record { answer = Ok (length (releases (growth c.clock time) c)); state = tick time c }
ticked_by (Err x) time c = record { answer = Err x; state = c }

unfoldable pub ticked : ℕ → List ℕ → Controller → Ticked
ticked time lent c = ticked_by (first_of (tick_checks time (length lent) c)) time c

unfoldable pub lent_by : Verdict → ℕ → List ℕ → Controller → List ℕ
lent_by (Ok tt) time lent c = lent_after (releases (growth c.clock time) c) lent
lent_by (Err x) time lent c = lent

unfoldable pub lent_of : ℕ → List ℕ → Controller → List ℕ
lent_of time lent c = lent_by (first_of (tick_checks time (length lent) c)) time lent c

-- ---- plan
unfoldable pub planned_by : Verdict → Controller → Judged
planned_by (Ok tt) c = record { answer = Ok tt; state = plan c }
planned_by (Err x) c = record { answer = Err x; state = c }

unfoldable pub planned : Controller → Judged
planned c = planned_by (first_of (plan_checks c)) c

-- ---- vrate
unfoldable pub vrated_by : Verdict → ℕ → Controller → Judged
vrated_by (Ok tt) v c = record { answer = Ok tt; state = with_vrate v c }
vrated_by (Err x) v c = record { answer = Err x; state = c }

unfoldable pub vrated : ℕ → Controller → Judged
vrated v c = vrated_by (first_of (vrate_checks v)) v c

-- ---- weight
unfoldable pub weighted_by : Verdict → ℕ → ℕ → Controller → Judged
weighted_by (Ok tt) n w c = record { answer = Ok tt; state = reweighted n w c }
weighted_by (Err x) n w c = record { answer = Err x; state = c }

unfoldable pub weighted : ℕ → ℕ → Controller → Judged
weighted n w c = weighted_by (first_of (weight_checks n w c.tree)) n w c

-- ---- a call that sets one thing, and charges nothing
abbrev pub set_by : Setting → Controller → Judged
set_by (Vrate v) c = vrated v c
set_by (Weight n w) c = weighted n w c
