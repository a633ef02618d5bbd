-- `leafless` meets its contract: a tree with no node has no leaf.
-- Assumes nothing.
use mathlib.Core.Path.{◌∙◌}
use Rattle.rules.specs.Words.{any_to, set_to}
use Rattle.rules.specs.Tree.{last, is_leaf, leaves_of}
use Rattle.controller.proofs.start.leafless.Goals as goal

pub returns : goal.returns
unfolding leaves_of set_to is_leaf last any_to
returns c = c.new.ensures.value ∙ rw c.slowest.ensures
