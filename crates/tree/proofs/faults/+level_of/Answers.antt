-- `faults::level_of` meets its contract: one level more than the parent, whose number is smaller.
-- Assumes nothing.
use mathlib.Core.Path.{◌≡◌, sym, ap, ◌∙◌}
use Prim.Native.Nat.{ℕ, ◌+◌, ◌≤◌, ◌<◌}
use native.Mathlib.Omega.{arith}
use lib.ListN.{get_or}
use Rattle.rules.specs.Tree.{level}
use Rattle.rules.specs.declared.tree.Tree.{Tree}
use Rattle.rules.proofs.Laws.Trees.{level_root}
use Rattle.tree.specs.View.{Climbs}
use Rattle.tree.proofs.View.{level_at}
use Rattle.tree.proofs.faults.+level_of.Goals as goal

module _ (t : Tree) (n : ℕ) where
  at_root : n ≡ 0 → (0 ≡ level t n) × (0 ≤ n)
  at_root e = (sym (ap (level t) e ∙ level_root t), omega arith)

  module _ (up : Climbs t.parents n) (below : (n ≡ 0) → ⊥) {q : ℕ} (e : q ≡ get_or t.parents n 0) where
    stepped : {r : ℕ} → (r ≡ level t q) × (r ≤ q) → (r + 1 ≡ level t n) × (r + 1 ≤ n)
    stepped {r} h =
        let l : get_or t.parents n 0 < n = up n (omega arith) (omega arith) in
        (level_at t n q r up (omega arith) e h.0, omega arith)

pub returns-then-node-eq0 : goal.returns-then-node-eq0
returns-then-node-eq0 t c = at_root c.args.tree.now c.args.node c.if-node-eq0.true

pub returns : goal.returns
returns t c = stepped c.args.tree.now c.args.node c.requires.0 c.if-node-eq0.false c.from.ensures c.level_of.ensures
