-- `active::child_sums` meets its contract: at the loop's head the sums lack what the nodes before weigh.
-- Assumes nothing.
use Rattle.std.proofs.Common.{◌≡◌, refl, sym, ◌∙◌, Bool, true, false, List, ℕ, ◌+◌, ◌-◌, ◌*◌, ◌≤◌, ◌<◌, arith, length, get_or}
use lib.Dec.{eqb}
use lib.ListN.{set, length-set, get_or-replicate}
use lib.Seq.{get_or-set_same, get_or-set_other}
use borrow.Author.Tests.{eqb-true, eqb-false}
use Rattle.rules.specs.Words.{has}
use Rattle.rules.specs.declared.tree.Tree.{Tree}
use Rattle.tree.specs.View.{Lit, child_sum_in}
use Rattle.tree.proofs.Lit.{sum_up_to, sum_starts, sum_adds, sum_strange, sum_idle, sum_ends, Child, child_below, parent_inside}
use Rattle.tree.proofs.active.child_sums.Invariants.{Sums}
use Rattle.tree.proofs.active.child_sums.Goals as goal

module _ (t : Tree) {nodes : ℕ} (lit : Lit t nodes) (n : ℕ) (more : 1 < n) (within : n ≤ t.count)
    (sums : List ℕ) (s : Sums t nodes sums n) where
  idle : has nodes (n - 1) ≡ false → Sums t nodes sums (n - 1)
  idle off p l = (
    omega (arith, (s p l).0),
    rw (sum_idle t lit p (n - 1) (omega arith) (omega arith) refl off) (s p l).1,
  )

  adds : {q w : ℕ} → length sums ≡ 64 → q < 64 → q ≡ get_or t.parents (n - 1) 0 → w ≡ get_or t.weights (n - 1) 0 → w < 65536 → has nodes (n - 1) ≡ true
      → Sums t nodes (set sums q (get_or sums q 0 + w)) (n - 1)
  adds {q} {w} all small e f light on p l = go (eqb q p) refl
    where
      go : (b : Bool) → eqb q p ≡ b
          → (get_or (set sums q (get_or sums q 0 + w)) p 0 ≤ 65536 * (t.count - (n - 1)))
          × (get_or (set sums q (get_or sums q 0 + w)) p 0 + sum_up_to t nodes p (n - 1 - 1) ≡ child_sum_in t nodes p)
      go true b =
          let i : q ≡ p = eqb-true q p b in
          let r : get_or (set sums q (get_or sums q 0 + w)) p 0 ≡ get_or sums p 0 + w = rw (← i) (get_or-set_same sums q (get_or sums q 0 + w) 0 (omega arith)) in
          (omega (arith, r, (s p l).0), omega (arith, r, (s p l).1, sum_adds t lit p (n - 1) (omega arith) (omega arith) refl e f i on))
      go false b =
          let i : (q ≡ p → ⊥) = eqb-false q p b in
          let r : get_or (set sums q (get_or sums q 0 + w)) p 0 ≡ get_or sums p 0 = get_or-set_other sums q p (get_or sums q 0 + w) 0 (λ x. i (sym x)) in
          (omega (arith, r, (s p l).0), omega (arith, r, (s p l).1, sum_strange t lit p (n - 1) (omega arith) (omega arith) refl e i))

-- the node before n, where it is active, as a child of its parent
child : (t : Tree) {nodes : ℕ} → Lit t nodes → (n : ℕ) → 1 < n → has nodes (n - 1) ≡ true
    → {q : ℕ} → q ≡ get_or t.parents (n - 1) 0 → Child t nodes (n - 1) q
child t lit n more on is = child_below t lit (n - 1) on (λ e. absurd (omega arith)) is

pub loop-node-init : goal.loop-node-init
loop-node-init c = (
  omega arith,
  refl,
  λ p l.
      let z = get_or-replicate {A = ℕ} 64 p 0 0 l in
      (omega (arith, z), omega (arith, z, sum_ends c.args.tree.now c.args.nodes p (c.args.tree.now.count - 1) refl refl)),
)

pub bounds-sums-from : goal.bounds-sums-from
bounds-sums-from c =
    parent_inside (child c.args.tree.now c.requires c.loop-node.node (omega arith) (sym c.has.ensures ∙ c.if-has.true) c.from-then-has.ensures)

pub bounds-sums-from-then-has : goal.bounds-sums-from-then-has
bounds-sums-from-then-has c =
    parent_inside (child c.args.tree.now c.requires c.loop-node.node (omega arith) (sym c.has.ensures ∙ c.if-has.true) c.from-then-has.ensures)

pub loop-node-preserved-then-has : goal.loop-node-preserved-then-has
loop-node-preserved-then-has c =
    let on = sym c.has.ensures ∙ c.if-has.true in
    let k = child c.args.tree.now c.requires c.loop-node.node (omega arith) on c.from-then-has.ensures in (
      omega arith,
      length-set c.loop-node.sums c.from-then-has.result _ ∙ c.loop-node.invariant.1,
      adds c.args.tree.now c.requires c.loop-node.node (omega arith) c.loop-node.invariant.0 c.loop-node.sums c.loop-node.invariant.2
          c.loop-node.invariant.1 (parent_inside k) c.from-then-has.ensures c.from.ensures (omega arith) on,
    )

pub loop-node-preserved : goal.loop-node-preserved
loop-node-preserved c = (
  omega arith,
  c.loop-node.invariant.1,
  idle c.args.tree.now c.requires c.loop-node.node (omega arith) c.loop-node.invariant.0 c.loop-node.sums c.loop-node.invariant.2
      (sym c.has.ensures ∙ c.if-has.false),
)

pub returns : goal.returns
returns c =
    let t = c.args.tree.now in
    let nodes = c.args.nodes in
    λ p s.
    let none : c.loop-node.node - 1 ≡ 0 = omega arith in
    let left : get_or c.loop-node.sums p 0 + sum_up_to t nodes p 0 ≡ child_sum_in t nodes p = rw none at (c.loop-node.invariant.2 p s).1 in
    omega (arith, left, sum_starts t nodes p)
