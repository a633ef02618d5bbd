-- What helpers may ask of a tree, and what they find of it.
-- Assumes nothing.
use Rattle.std.specs.Prelude.{◌≡◌, ◌&&◌, List, ℕ, ◌<◌, ◌≤◌, get_or}
use Rattle.rules.specs.Words.{has, set_of}
use Rattle.rules.specs.Tree.{last, fault_to, is_leaf, is_active, child_sum, share_of}
use Rattle.rules.specs.Invariant.{SoundTree}
use Rattle.rules.specs.declared.tree.Tree.{Tree}
use Rattle.rules.specs.Results.{Finding}

abbrev pub tree_of : ℕ → List ℕ → List ℕ → Tree
tree_of count ps ws = record { count = count; parents = ps; weights = ws }

-- the nodes 1 to m have a parent with a smaller number
abbrev pub Climbs : List ℕ → ℕ → Type 0
Climbs ps m = (k : ℕ) → 0 < k → k ≤ m → get_or ps k 0 < k

-- the first fault of its nodes
abbrev pub first_fault : Tree → Finding
first_fault t = fault_to t (last t)

-- the leaves in a set of nodes
abbrev pub leaves_in : Tree → ℕ → ℕ
leaves_in t nodes = set_of (λ n. is_leaf t n && has nodes n)

-- a sound tree with the set of its active nodes
pub record Lit (t : Tree) (nodes : ℕ) : Type 0 where
  pub sound : SoundTree t
  pub all : nodes ≡ set_of (is_active t (leaves_in t nodes))

-- the sum of the weights of p's active children, and the share of n, by the set of the active nodes
abbrev pub child_sum_in : Tree → ℕ → ℕ → ℕ
child_sum_in t nodes p = child_sum t (leaves_in t nodes) p

abbrev pub share_among : Tree → ℕ → ℕ → ℕ
share_among t nodes n = share_of t (leaves_in t nodes) n
