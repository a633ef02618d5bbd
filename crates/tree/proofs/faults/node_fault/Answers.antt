-- `faults::node_fault` meets its contract: its three tests are those of the rule, in its order.
-- Assumes nothing.
use mathlib.Core.Path.{sym, ◌∙◌}
use native.Mathlib.Omega.{arith}
use Rattle.tree.proofs.First.{parent_fault, weight_fault, level_fault, no_fault}
use Rattle.tree.proofs.faults.node_fault.Goals as goal

pub returns-then-node-from : goal.returns-then-node-from
returns-then-node-from c = parent_fault c.args.tree.now c.args.node c.requires.1 c.from.ensures (omega arith)

pub returns-then-not-weight_in_range : goal.returns-then-not-weight_in_range
returns-then-not-weight_in_range c =
    weight_fault c.args.tree.now c.args.node c.requires.1 c.from.ensures (omega arith)
    (sym c.weight_in_range.ensures ∙ c.if-not-weight_in_range.true)

pub returns-then-level_of-gt-LEVEL_MOST : goal.returns-then-level_of-gt-LEVEL_MOST
returns-then-level_of-gt-LEVEL_MOST c =
    level_fault c.args.tree.now c.args.node c.requires.1 c.from.ensures (omega arith)
    (sym c.weight_in_range.ensures ∙ c.if-not-weight_in_range.false) c.level_of.ensures.0 (omega arith)

pub returns : goal.returns
returns c =
    no_fault c.args.tree.now c.args.node c.requires.1 c.from.ensures (omega arith)
    (sym c.weight_in_range.ensures ∙ c.if-not-weight_in_range.false) c.level_of.ensures.0 (omega arith)
