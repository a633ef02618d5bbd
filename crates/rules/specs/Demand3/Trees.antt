-- The tree in force: that of start with the weights that were accepted since, each in the place of the one before. The base shares
-- of demand 3 are those of this tree, and no call moves a node.
-- Assumes nothing.
use Rattle.std.specs.Prelude.{◌≡◌, List, [], ◌∷◌, ℕ, Err, Ok}
use Rattle.rules.specs.Tree.{with_weight}
use Rattle.rules.specs.Refusals.{first_of, weight_checks}
use Rattle.rules.specs.Ledger.{Call}
use Rattle.rules.specs.declared.tree.Tree.{Tree}
use Rattle.rules.specs.declared.replay.Setting.TheVariants.{Vrate, Weight}
use Rattle.rules.specs.Results.{Verdict}

-- ---- one call: a weight that is not refused is set, and no other call touches the tree
abbrev pub weight_by : Verdict → ℕ → ℕ → Tree → Tree
weight_by (Ok tt) n w t = with_weight n w t
weight_by (Err x) n w t = t

abbrev pub tree_after : Call → Tree → Tree
tree_after (Call.submit b) t = t
tree_after (Call.ask b) t = t
tree_after (Call.tick time lent) t = t
tree_after Call.plan t = t
tree_after (Call.set (Vrate v)) t = t
tree_after (Call.set (Weight n w)) t = weight_by (first_of (weight_checks n w t)) n w t

-- ---- any list of calls
abbrev pub tree_in : List Call → Tree → Tree
tree_in [] t = t
tree_in (k ∷ ks) t = tree_in ks (tree_after k t)

-- ---- parents and count stay start's
pub record SameNodes (t u : Tree) : Type 0 where
  pub count : u.count ≡ t.count
  pub parents : u.parents ≡ t.parents
