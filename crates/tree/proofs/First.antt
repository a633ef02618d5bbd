-- The first fault of a tree, as it is found node by node.
-- Assumes nothing.
use mathlib.Core.Path.{◌≡◌, sym, ap, ◌∙◌}
use mathlib.Core.Bool.{true, false}
use Rattle.std.specs.Prelude.{Ok, Err}
use mathlib.Core.Logic.{⊎_elim}
use Prim.Native.Nat.{ℕ, zero, suc, ◌-◌, ◌≤◌, ◌<◌}
use native.Mathlib.Nat.{eq-or-lt_of_le}
use native.Mathlib.Omega.{arith}
use lib.ListN.{get_or}
use borrow.Author.Tests.{le-leb, lt-leb, lt-ltb, le-ltb}
use lib.Dec.{leb}
use Rattle.rules.specs.Numbers.{nodes_least, nodes_most, level_most}
use Rattle.rules.specs.Tree.{last, level, count_in_range, weight_in_range, node_fault, fault_to, tree_fault, newest_fault}
use Rattle.rules.specs.Refusals.{is_fault}
use Rattle.rules.specs.declared.tree.Tree.{Tree}
use Rattle.rules.specs.declared.tree.Fault.{Fault}
use Rattle.rules.specs.Results.{Finding}
use Rattle.rules.specs.declared.tree.Fault.TheVariants.{Count, Parent, Weight, Level}
use Rattle.rules.proofs.Laws.Bools.{and_not_right}
use Rattle.rules.proofs.Laws.Trees.{nodes_sound}
use Rattle.rules.proofs.Laws.Faults.{earlier_kept}
use Rattle.tree.specs.View.{Climbs}
use Rattle.tree.proofs.View.{parent_at, weight_at, last_at}

-- ---- one node: q is the number that stands as its parent
module _ (t : Tree) (n : ℕ) (pos : 0 < n) {q : ℕ} (e : q ≡ get_or t.parents n 0) where
  pub parent_fault : n ≤ q → Err (Parent n) ≡ node_fault t n
  unfolding node_fault
  parent_fault l = rw (parent_at t n pos, ← e, le-leb n q l)

  module _ (small : q < n) where
    pub weight_fault : weight_in_range (get_or t.weights n 0) ≡ false → Err (Weight n) ≡ node_fault t n
    unfolding node_fault
    weight_fault i = rw (parent_at t n pos, ← e, lt-leb n q small, weight_at t n, i)

    module _ (fair : weight_in_range (get_or t.weights n 0) ≡ true) {r : ℕ} (levels : r ≡ level t n) where
      pub level_fault : level_most < r → Err (Level n) ≡ node_fault t n
      unfolding node_fault
      level_fault l = rw (parent_at t n pos, ← e, lt-leb n q small, weight_at t n, fair, ← levels, lt-ltb level_most r l)

      pub no_fault : r ≤ level_most → Ok tt ≡ node_fault t n
      unfolding node_fault
      no_fault l = rw (parent_at t n pos, ← e, lt-leb n q small, weight_at t n, fair, ← levels, le-ltb level_most r l)

-- ---- node after node
-- past nodes with no fault, the next one's is the first
fault_next : (t : Tree) (n m : ℕ) → n ≡ suc m → fault_to t m ≡ Ok tt → fault_to t n ≡ node_fault t n
unfolding fault_to
fault_next t n m e s = rw (e, s)

-- a fault that is found stays the first
fault_kept : (t : Tree) (m k : ℕ) → is_fault (fault_to t m) ≡ true → m ≤ k → fault_to t k ≡ fault_to t m
unfolding fault_to
fault_kept t m zero f l = let e : m ≡ 0 = omega arith in rw e
fault_kept t m (suc k) f l =
    ⊎_elim
    (λ (e : m ≡ suc k). rw e)
    (λ (q : m < suc k).
    let i : fault_to t k ≡ fault_to t m = fault_kept t m k f (omega arith) in
    rw i (earlier_kept (fault_to t m) (node_fault t (suc k)) f))
    (eq-or-lt_of_le l)

-- what the loop over the nodes below count has at its head: those before n are sound
module _ (t : Tree) (n : ℕ) (pos : 0 < n) (sound : fault_to t (n - 1) ≡ Ok tt) where
  pub sound_so_far : Climbs t.parents (n - 1)
  sound_so_far k p l = rw (parent_at t k p) at (nodes_sound t (n - 1) sound k p l).up

  pub here : fault_to t n ≡ node_fault t n
  here = fault_next t n (n - 1) (omega arith) sound

  pub stops : {f : Fault} → Err f ≡ node_fault t n → n < t.count → Err f ≡ fault_to t (last t)
  stops e l =
      let i : fault_to t n ≡ Err _ = here ∙ sym e in
      sym (fault_kept t n (last t) (ap is_fault i) (rw (last_at t) (omega arith)) ∙ i)

pub ended : (t : Tree) (n : ℕ) → fault_to t (n - 1) ≡ Ok tt → n ≡ t.count → Ok tt ≡ fault_to t (last t)
ended t n sound e = rw (last_at t) (sym (rw e at sound))

-- ---- the count
module _ (t : Tree) where
  pub too_few : t.count < nodes_least → Err Count ≡ tree_fault t
  unfolding tree_fault count_in_range
  too_few l = rw (lt-leb nodes_least t.count l)

  pub too_many : nodes_most < t.count → Err Count ≡ tree_fault t
  unfolding tree_fault count_in_range
  too_many l = rw (and_not_right (leb nodes_least t.count) (leb t.count nodes_most) (lt-leb t.count nodes_most l))

  pub in_range : nodes_least ≤ t.count → t.count ≤ nodes_most → {f : Finding} → f ≡ fault_to t (last t) → f ≡ tree_fault t
  unfolding tree_fault count_in_range
  in_range l m e = rw (le-leb nodes_least t.count l, le-leb t.count nodes_most m) e

-- ---- the newest node alone
module _ (t : Tree) (most : t.count ≤ nodes_most) where
  -- the nodes before it, from the last but one on down
  pub climbs_before : Climbs t.parents (last t - 1) → Climbs t.parents (t.count - 1 - 1)
  unfolding last
  climbs_before up = up

  pub newest_at : {r : Finding} → r ≡ node_fault t (t.count - 1) → r ≡ newest_fault t
  unfolding newest_fault last
  newest_at h = rw (le-leb t.count nodes_most most) h
