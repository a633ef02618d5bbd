-- `shares::thin` meets its contract: each leaf is asked for its share among the active nodes, with all leaves active.
-- Assumes nothing.
use Rattle.std.proofs.Common.{◌≡◌, refl, true, ℕ, rules, tests, ltb}
use Rattle.rules.specs.Numbers.{share_floor}
use Rattle.rules.specs.Words.{has, set_of}
use Rattle.rules.specs.Tree.{leaves_of, is_active, share_of}
use Rattle.rules.specs.Invariant.{SoundTree}
use Rattle.rules.specs.declared.tree.Tree.{Tree}
use Rattle.rules.proofs.Laws.Sets.{has_node}
use Rattle.sets.proofs.Asked.{asked_of_members, any_of_members}
use Rattle.tree.specs.View.{share_among}
use Rattle.tree.proofs.Leaves.{leaf_asks, leaf_share, leaves_only, leaves_fit, thin_by}
use Rattle.tree.proofs.shares.thin.Goals as goal

module _ {t : Tree} (sound : SoundTree t) {all nodes : ℕ} (e : all ≡ leaves_of t) (are_active : nodes ≡ set_of (is_active t all))
    (n : ℕ) (leaf : has all n ≡ true) where
  asked : has nodes n ≡ true
  asked = (leaf_asks sound all (leaves_only t e) (leaves_fit t e) are_active n leaf (has_node all n (leaves_fit t e) leaf)).1

  share : {s : Tree} → s ≡ t → share_among s nodes n ≡ share_of t all n
  share same = rw same (leaf_share sound all (leaves_only t e) (leaves_fit t e) are_active n leaf refl)

pub of-lit-requires : goal.of-lit-requires
of-lit-requires c = (c.requires, leaves_only c.args.tree.now c.leaves-all.ensures)

pub any-requires-clause-callable : goal.any-requires-clause-callable
any-requires-clause-callable c =
    asked_of_members (leaves_fit c.args.tree.now c.leaves-all.ensures) (λ x q k. search rules)
    (λ x on. let it = asked c.requires c.leaves-all.ensures c.of-lit.ensures.1 x on in search rules)

pub returns : goal.returns
returns c =
    let t = c.args.tree.now in
    let all = c.leaves-all.result in
    let a =
    any_of_members _ _ (λ n. ltb (share_of t all n) share_floor) all
    (λ x b h on k. rw (← share c.requires c.leaves-all.ensures c.of-lit.ensures.1 x on c.of-lit.ensures.0) (search (rules, tests)))
    (leaves_fit t c.leaves-all.ensures) c.any.ensures.ran in
    thin_by t c.leaves-all.ensures c.requires c.any.result a.some a.none
