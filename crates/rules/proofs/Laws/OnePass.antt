-- Request Five: the root's share, and each share from the parent's, fix the share of every active node. So whatever works shares out
-- like that, in any order, works out those of the rules.
-- Assumes nothing.
use Rattle.std.specs.Prelude.{◌≡◌, true, ℕ, zero, suc, ◌*◌, ◌≤◌, ◌<◌}
use Rattle.std.proofs.Common.{sym, ◌∙◌, le_refl, arith}
use Rattle.rules.specs.Numbers.{whole}
use Rattle.rules.specs.Units.{floor_of}
use Rattle.rules.specs.Tree.{parent, weight, last, is_active, child_sum, share_of}
use Rattle.rules.specs.Invariant.{SoundTree}
use Rattle.rules.specs.declared.tree.Tree.{Tree}
use Rattle.rules.proofs.Laws.Trees.{active_up, active_last, share_root, share_step}

-- "The root's share is WHOLE. The share of an active node is FLOOR(..)", of numbers given to the nodes
pub record FromParents (t : Tree) (active : ℕ) (f : ℕ → ℕ) : Type 0 where
  pub root : f 0 ≡ whole
  pub each : (n : ℕ) → 0 < n → is_active t active n ≡ true
      → f n ≡ floor_of (f (parent t n) * weight t n) (child_sum t active (parent t n))

module _ {t : Tree} (sound : SoundTree t) (active : ℕ) where
  pub shares_come_from_parents : FromParents t active (share_of t active)
  shares_come_from_parents = record {
    root = share_root t active;
    each = λ n p e. share_step sound active n p (active_last sound active n e);
  }

  module _ {f : ℕ → ℕ} (p : FromParents t active f) where
    -- by rising number: of the nodes up to m, then of m
    up_to : (m n : ℕ) → n ≤ m → is_active t active n ≡ true → f n ≡ share_of t active n
    up_to zero n l e = let z : n ≡ 0 = omega arith in rw z (p.root ∙ sym (share_root t active))
    up_to (suc m) zero l e = p.root ∙ sym (share_root t active)
    up_to (suc m) (suc n) l e =
        let in_tree : suc n ≤ last t = active_last sound active (suc n) e in
        let above : parent t (suc n) < suc n = sound.up (suc n) (omega arith) in_tree in
        let same : f (parent t (suc n)) ≡ share_of t active (parent t (suc n)) =
        up_to m (parent t (suc n)) (omega arith) (active_up sound active (suc n) (omega arith) in_tree e) in
        p.each (suc n) (omega arith) e ∙ rw same (sym (share_step sound active (suc n) (omega arith) in_tree))

    pub nothing_else_does : (n : ℕ) → is_active t active n ≡ true → f n ≡ share_of t active n
    nothing_else_does n = up_to n n (le_refl n)
