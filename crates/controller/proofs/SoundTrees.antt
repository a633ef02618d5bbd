-- What start and a node record can be refused where the tree has no fault: none of 20 to 23 stands among the numbers, since the check
-- of the fault does not hold.
-- Assumes nothing.
use Rattle.std.specs.Prelude.{◌≡◌, refl, List, [], ◌∷◌, ℕ, Ok}
use Rattle.rules.specs.Tree.{tree_fault, newest_fault, is_thin}
use Rattle.rules.specs.Refusals.{◌⇒◌, first_of, numbers_of, tree_checks, node_checks, rate_checks, start_checks}
use Rattle.rules.specs.Results.{Verdict}
use Rattle.rules.specs.declared.cost.Rates.{Rates}
use Rattle.rules.specs.declared.tree.Tree.{Tree}
use Rattle.rules.specs.declared.refusals.Refusal.TheVariants.{ThinTree}

pub sound_tree_refusals : (t : Tree) (r : Rates) → tree_fault t ≡ Ok tt
    → (first_of (start_checks t r) ≡ first_of ((is_thin t ⇒ ThinTree) ∷ rate_checks r))
    × (numbers_of ((is_thin t ⇒ ThinTree) ∷ rate_checks r) ≡ 2 ∷ 3 ∷ [])
unfolding start_checks tree_checks rate_checks
sound_tree_refusals t r e = rw e (refl, refl)

pub sound_node_refusals : (t : Tree) → newest_fault t ≡ Ok tt → ◌≡◌ {A = Verdict} (first_of (node_checks t)) (Ok tt)
unfolding node_checks
sound_node_refusals t e = rw e refl
