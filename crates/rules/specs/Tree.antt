-- Tree and base shares.
-- Assumes nothing.
use Rattle.std.specs.Prelude.{Bool, cond, not, ◌&&◌, ◌||◌, List, ℕ, zero, suc, ◌-◌, ◌*◌, eqb, leb, ltb, get_or, set, Ok, Err}
use Rattle.rules.specs.Numbers.{whole, nodes_least, nodes_most, weight_least, weight_most, level_most, share_floor}
use Rattle.rules.specs.Words.{sum_to, any_to, table, has, set_of}
use Rattle.rules.specs.Units.{floor_of}
use Rattle.rules.specs.declared.tree.Tree.{Tree}
use Rattle.rules.specs.declared.tree.Fault.TheVariants.{Count, Parent, Weight, Level}
use Rattle.rules.specs.Results.{Finding}

-- "Node 0 is the root": it has no parent, and climbing stops there
unfoldable pub parent : Tree → ℕ → ℕ
parent t zero = 0
parent t (suc n) = get_or t.parents (suc n) 0

unfoldable pub weight : Tree → ℕ → ℕ
weight t n = get_or t.weights n 0

-- the largest number of a node
unfoldable pub last : Tree → ℕ
last t = t.count - 1

-- how many levels a node lies below the root. A parent's number is smaller, so a node's own number bounds its level
unfoldable pub level_in : ℕ → Tree → ℕ → ℕ
level_in zero t n = 0
level_in (suc f) t zero = 0
level_in (suc f) t (suc n) = suc (level_in f t (parent t (suc n)))

unfoldable pub level : Tree → ℕ → ℕ
level t n = level_in n t n

-- "There are .."
unfoldable pub count_in_range : ℕ → Bool
count_in_range count = leb nodes_least count && leb count nodes_most

-- a weight by itself
unfoldable pub weight_in_range : ℕ → Bool
weight_in_range w = leb weight_least w && leb w weight_most

-- "each other node has .."
unfoldable pub node_fault : Tree → ℕ → Finding
node_fault t n =
    cond (leb n (parent t n)) (Err (Parent n))
    (cond (not (weight_in_range (weight t n))) (Err (Weight n)) (cond (ltb level_most (level t n)) (Err (Level n)) (Ok tt)))

abbrev pub earlier_fault : Finding → Finding → Finding
earlier_fault (Ok tt) g = g
earlier_fault (Err f) g = Err f

-- the first fault of the nodes 1 to m
unfoldable pub fault_to : Tree → ℕ → Finding
fault_to t zero = Ok tt
fault_to t (suc m) = earlier_fault (fault_to t m) (node_fault t (suc m))

unfoldable pub tree_fault : Tree → Finding
tree_fault t = cond (count_in_range t.count) (fault_to t (last t)) (Err Count)

-- the fault of the newest node, as nodes come one by one: a 65th node breaks the count
unfoldable pub newest_fault : Tree → Finding
newest_fault t = cond (leb t.count nodes_most) (node_fault t (last t)) (Err Count)

-- "A leaf is .."
unfoldable pub is_leaf : Tree → ℕ → Bool
is_leaf t n = ltb 0 n && leb n (last t) && not (any_to (λ k. eqb (parent t k) n) (last t))

unfoldable pub leaves_of : Tree → ℕ
leaves_of t = set_of (is_leaf t)

-- does n lie on the way from k to the root, k itself included?
unfoldable pub on_way_in : ℕ → Tree → ℕ → ℕ → Bool
on_way_in zero t k n = eqb k n
on_way_in (suc f) t k n = eqb k n || on_way_in f t (parent t k) n

unfoldable pub on_way : Tree → ℕ → ℕ → Bool
on_way t k n = on_way_in k t k n

-- "An inner node is active .."; a leaf is, when it is in the set of active leaves
unfoldable pub is_active : Tree → ℕ → ℕ → Bool
is_active t active n = any_to (λ k. has active k && on_way t k n) (last t)

-- what the share of a child of p is divided by
unfoldable pub child_sum : Tree → ℕ → ℕ → ℕ
child_sum t active p = sum_to (λ k. cond (eqb (parent t k) p && is_active t active k) (weight t k) 0) (last t)

-- "The root's share is .."; "The share of an active node is .."
unfoldable pub share_in : ℕ → Tree → ℕ → ℕ → ℕ
share_in zero t active n = whole
share_in (suc f) t active zero = whole
share_in (suc f) t active (suc n) =
    floor_of (share_in f t active (parent t (suc n)) * weight t (suc n)) (child_sum t active (parent t (suc n)))

unfoldable pub share_of : Tree → ℕ → ℕ → ℕ
share_of t active n = share_in n t active n

-- the base share of each active leaf; a node that is no active leaf has none
unfoldable pub base_share : Tree → ℕ → ℕ → ℕ
base_share t active n = cond (has active n) (share_of t active n) 0

unfoldable pub base_shares : Tree → ℕ → List ℕ
base_shares t active = table (base_share t active)

-- "A tree is thin if .."
unfoldable pub is_thin : Tree → Bool
is_thin t = any_to (λ n. is_leaf t n && ltb (share_of t (leaves_of t) n) share_floor) (last t)

-- ---- request One: a node that has a weight, which is neither the root nor absent, and the tree with another weight there
unfoldable pub is_below_root : Tree → ℕ → Bool
is_below_root t n = ltb 0 n && ltb n t.count

abbrev pub with_weight : ℕ → ℕ → Tree → Tree
with_weight n w t = record { count = t.count; parents = t.parents; weights = set t.weights n w }
