-- The tree in force: that of start with the weights that were accepted since, each in the place of the one before. The base shares
-- of demand 3 are those of this tree, and no call moves a node.
-- Assumes nothing.
use Rattle.std.specs.Prelude.{◌≡◌, refl, List, [], ◌∷◌, length, Err, Ok}
use Rattle.std.proofs.Common.{ap, ◌∙◌}
use Rattle.rules.specs.Budget.{reshared, rebased, reweighted}
use Rattle.rules.specs.Tick.{tick as ticking}
use Rattle.rules.specs.Refusals.{first_of, submit_checks, tick_checks, plan_checks, vrate_checks, weight_checks}
use Rattle.rules.specs.Entries.{submitted, ticked, ticked_by, planned, vrated, vrated_by, weighted, weighted_by}
use Rattle.rules.specs.Ledger.{Call, after}
use Rattle.rules.proofs.Demand3.Heads.{submitting_keeps_both, planning_keeps_the_tree}
use Rattle.rules.specs.Demand3.Sentences.{run}
use Rattle.rules.specs.declared.tree.Tree.{Tree}
use Rattle.rules.specs.declared.budget.Controller.{Controller}
use Rattle.rules.specs.declared.replay.Setting.TheVariants.{Vrate, Weight}
use Rattle.rules.specs.Demand3.Trees.{SameNodes, tree_after, tree_in, weight_by}
use Rattle.rules.specs.Results.{Verdict}

pub only_a_weight_moves_the_tree : (k : Call) (c : Controller) → (after k c).tree ≡ tree_after k c.tree
unfolding submitted ticked ticked_by ticking planned vrated vrated_by weighted weighted_by reweighted rebased reshared
only_a_weight_moves_the_tree (Call.submit b) c = (submitting_keeps_both b c (first_of (submit_checks b c))).tree
only_a_weight_moves_the_tree (Call.ask b) c = refl
only_a_weight_moves_the_tree (Call.tick time lent) c = go (first_of (tick_checks time (length lent) c))
  where
    go : (v : Verdict) → (ticked_by v time c).state.tree ≡ c.tree
    go (Ok tt) = refl
    go (Err x) = refl
only_a_weight_moves_the_tree Call.plan c = planning_keeps_the_tree c (first_of (plan_checks c))
only_a_weight_moves_the_tree (Call.set (Vrate v)) c = go (first_of (vrate_checks v))
  where
    go : (t : Verdict) → (vrated_by t v c).state.tree ≡ c.tree
    go (Ok tt) = refl
    go (Err x) = refl
only_a_weight_moves_the_tree (Call.set (Weight n w)) c = go (first_of (weight_checks n w c.tree))
  where
    go : (t : Verdict) → (weighted_by t n w c).state.tree ≡ weight_by t n w c.tree
    go (Ok tt) = refl
    go (Err x) = refl

pub the_tree_in_force : (ks : List Call) (c : Controller) → (run ks c).tree ≡ tree_in ks c.tree
the_tree_in_force [] c = refl
the_tree_in_force (k ∷ ks) c = the_tree_in_force ks (after k c) ∙ ap (tree_in ks) (only_a_weight_moves_the_tree k c)

a_call_keeps_the_nodes : (k : Call) (t : Tree) → SameNodes t (tree_after k t)
a_call_keeps_the_nodes (Call.submit b) t = record { count = refl; parents = refl }
a_call_keeps_the_nodes (Call.ask b) t = record { count = refl; parents = refl }
a_call_keeps_the_nodes (Call.tick time lent) t = record { count = refl; parents = refl }
a_call_keeps_the_nodes Call.plan t = record { count = refl; parents = refl }
a_call_keeps_the_nodes (Call.set (Vrate v)) t = record { count = refl; parents = refl }
a_call_keeps_the_nodes (Call.set (Weight n w)) t = go (first_of (weight_checks n w t))
  where
    go : (v : Verdict) → SameNodes t (weight_by v n w t)
    go (Ok tt) = record { count = refl; parents = refl }
    go (Err x) = record { count = refl; parents = refl }

pub no_call_moves_a_node : (ks : List Call) (t : Tree) → SameNodes t (tree_in ks t)
no_call_moves_a_node [] t = record { count = refl; parents = refl }
no_call_moves_a_node (k ∷ ks) t =
    let one = a_call_keeps_the_nodes k t in
    let more = no_call_moves_a_node ks (tree_after k t) in
    record { count = more.count ∙ one.count; parents = more.parents ∙ one.parents }
