-- `vrate_verdict` meets its contract: the one check of the rule.
-- Assumes nothing.
use mathlib.Core.Path.{◌≡◌, sym, ◌∙◌}
use mathlib.Core.Bool.{true, false}
use Rattle.rules.specs.Plan.{vrate_in_range}
use Rattle.rules.specs.Refusals.{vrate_checks}
use Rattle.controller.proofs.start.vrate_verdict.Goals as goal

pub returns-then-in_range : goal.returns-then-in_range
unfolding vrate_checks
returns-then-in_range c =
    let e : vrate_in_range c.args.v ≡ true = sym c.in_range.ensures ∙ c.if-in_range.true in rw e

pub returns-else-in_range : goal.returns-else-in_range
unfolding vrate_checks
returns-else-in_range c =
    let e : vrate_in_range c.args.v ≡ false = sym c.in_range.ensures ∙ c.if-in_range.false in rw e
