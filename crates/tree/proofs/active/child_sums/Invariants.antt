-- `active::child_sums` meets its contract: at the loop's head the sums lack what the nodes before weigh.
-- Assumes nothing.
use Rattle.std.proofs.Common.{◌≡◌, List, ℕ, ◌+◌, ◌-◌, ◌*◌, ◌≤◌, ◌<◌, length, get_or}
use Rattle.rules.specs.declared.tree.Tree.{Tree}
use Rattle.tree.specs.View.{child_sum_in}
use Rattle.tree.proofs.Lit.{sum_up_to}
use Rattle.tree.proofs.active.child_sums.Given as goal

-- the sums over the nodes from n on
abbrev pub Sums : Tree → ℕ → List ℕ → ℕ → Type 0
Sums t nodes sums n =
    (p : ℕ) → p < 64
    → (get_or sums p 0 ≤ 65536 * (t.count - n)) × (get_or sums p 0 + sum_up_to t nodes p (n - 1) ≡ child_sum_in t nodes p)

abbrev pub invariant-loop-node : goal.invariant-loop-node
invariant-loop-node l =
    (l.node ≤ l.tree.count) × (length l.sums ≡ 64) × Sums l.tree l.nodes l.sums l.node
