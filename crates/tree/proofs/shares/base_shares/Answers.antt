-- `shares::base_shares` meets its contract: at the loop's head the active nodes before have their shares, and the active leaves
-- among them their places.
-- Assumes nothing.
use Rattle.std.proofs.Common.{◌≡◌, refl, sym, ◌∙◌, Bool, true, false, cond, List, ℕ, ◌+◌, ◌-◌, ◌*◌, ◌^◌, ◌≤◌, ◌<◌, arith, length, get_or}
use lib.Dec.{eqb}
use lib.ListN.{set, replicate, length-set, get_or-replicate}
use lib.Seq.{get_or-set_same, get_or-set_other}
use borrow.Author.Tests.{eqb-true, eqb-false}
use Rattle.rules.specs.Words.{has, set_of, table}
use Rattle.rules.specs.Units.{floor_of}
use Rattle.rules.specs.Invariant.{SoundTree, Within}
use Rattle.rules.specs.Tree.{is_active, share_of, base_share, base_shares}
use Rattle.rules.specs.declared.tree.Tree.{Tree}
use Rattle.rules.proofs.Laws.Bools.{true_not_false, is_false}
use Rattle.rules.proofs.Laws.Sweeps.{swept, place_put, place_skip, places_rest}
use Rattle.rules.proofs.Laws.Trees.{no_root_within, leaf_last}
use Rattle.rules.proofs.Laws.Shares.{no_base_share}
use Rattle.tree.specs.View.{Lit, child_sum_in, share_among}
use Rattle.tree.proofs.View.{last_at}
use Rattle.tree.proofs.Lit.{lit_here, root_share, Child, child_below, parent_asks, parent_inside, share_fits, some_weight, share_stepped, share_most}
use Rattle.tree.proofs.Leaves.{leaf_asks, leaf_share}
use Rattle.tree.proofs.shares.base_shares.Invariants.{Shared}
use Rattle.tree.proofs.shares.base_shares.Goals as goal
use Rattle.tree.proofs.shares.base_shares.Goals.{then-has, else-has}

module _ (t : Tree) (nodes : ℕ) (held : List ℕ) (n : ℕ) (s : Shared t nodes held n) where
  idle : has nodes n ≡ false → Shared t nodes held (n + 1)
  idle off k l on = go (eqb k n) refl
    where
      go : (b : Bool) → eqb k n ≡ b → get_or held k 0 ≡ share_among t nodes k
      go true b = let e : k ≡ n = eqb-true k n b in absurd (true_not_false on (rw e off))
      go false b = let i : (k ≡ n → ⊥) = eqb-false k n b in s k (omega arith) on

  puts : (r : ℕ) → n < length held → r ≡ share_among t nodes n → Shared t nodes (set held n r) (n + 1)
  puts r h e k l on = go (eqb k n) refl
    where
      go : (b : Bool) → eqb k n ≡ b → get_or (set held n r) k 0 ≡ share_among t nodes k
      go true b = let i : k ≡ n = eqb-true k n b in rw i (get_or-set_same held n r 0 h ∙ e)
      go false b = let i : (k ≡ n → ⊥) = eqb-false k n b in get_or-set_other held n k r 0 i ∙ s k (omega arith) on

-- ---- what is known once the active nodes are
module _ {t : Tree} (sound : SoundTree t) {active nodes : ℕ} (inside : Within t active) (fits : active < 2 ^ 64)
    (are_active : nodes ≡ set_of (is_active t active)) where
  lit : Lit t nodes
  lit = lit_here sound active inside fits are_active

  -- a node that is not active is no active leaf
  no_leaf : (n : ℕ) → n < 64 → has nodes n ≡ false → has active n ≡ false
  no_leaf n l off = is_false (has active n) (λ on. true_not_false (leaf_asks sound active inside fits are_active n on l).1 off)

  -- the share among the active nodes is the base share
  base_is : (n : ℕ) {r x : ℕ} → x ≡ share_among t nodes n → r ≡ cond (has active n) x 0 → r ≡ base_share t active n
  unfolding base_share
  base_is n {r} {x} e f = f ∙ go (has active n) refl
    where
      go : (b : Bool) → has active n ≡ b → cond b x 0 ≡ cond b (share_of t active n) 0
      go true on = leaf_share sound active inside fits are_active n on e
      go false off = refl

  -- ---- once the parent of an active node is read
  module _ (n : ℕ) (pos : 0 < n) (on : has nodes n ≡ true) {q : ℕ} (e : q ≡ get_or t.parents n 0) where
    child : Child t nodes n q
    child = child_below t lit n on (λ z. absurd (omega arith)) e

    parent_small : q < 64
    parent_small = parent_inside child

    share_small : {r : ℕ} → r ≡ share_among t nodes n → r < 2 ^ 32
    share_small g = omega (arith, share_most child g)

    module _ (held sums : List ℕ) (s : Shared t nodes held n) (each : (p : ℕ) → p < 64 → get_or sums p 0 ≡ child_sum_in t nodes p) where
      above_is : get_or held q 0 ≡ share_among t nodes q
      above_is = let p = parent_asks child refl in s q p.0 p.1.1

      sum_is : get_or sums q 0 ≡ child_sum_in t nodes q
      sum_is = each q (parent_inside child)

      asks : {w : ℕ} → w < 65536 → (get_or held q 0 * w < 2 ^ 64) × (0 < get_or sums q 0)
      asks l = (share_fits child above_is l, some_weight child sum_is)

      -- the node's share
      share : {w r : ℕ} → w ≡ get_or t.weights n 0 → r ≡ floor_of (get_or held q 0 * w) (get_or sums q 0) → r ≡ share_among t nodes n
      share f g = share_stepped child above_is f sum_is g

-- the sums of the lent tree are those of the tree
sums_of : {s t : Tree} → s ≡ t → (nodes : ℕ) (sums : List ℕ) → ((p : ℕ) → p < 64 → get_or sums p 0 ≡ child_sum_in s nodes p)
    → (p : ℕ) → p < 64 → get_or sums p 0 ≡ child_sum_in t nodes p
sums_of e nodes sums each p l = rw e at (each p l)

-- above the needs that a lie about it may leave true: the first error is what is false
pub loop-n-preserved : goal.loop-n-preserved
loop-n-preserved c =
    let t = c.args.tree in
    let active = c.args.active in
    let nodes = c.of-lit.result.nodes in
    let n = c.loop-n.n in
    let small : n < 64 = omega (arith, c.requires.0.most) in
    let pos : 0 < n = omega arith in
    let each = sums_of c.of-lit.ensures.0 nodes _ c.of-lit.result.summed in
    let step : (length c.if-has.held ≡ 64)
    × Shared t nodes c.if-has.held (n + 1)
    × (c.if-has.shares ≡ swept (table (base_share t active)) (replicate 64 0) (n + 1)) =
    elim c.if-has.branch [
      | then-has w ↦
          let its : w.portion-share.result ≡ share_among t nodes n =
          share c.requires.0 c.requires.1 c.ranges.active.fits c.of-lit.ensures.1 n pos (sym c.has.ensures ∙ w.if-has.true) w.from-parent.ensures c.loop-n.held c.of-lit.result.sums
          c.loop-n.invariant.1 each refl w.portion-share.ensures in
          rw (w.held-is, w.shares-is) (
            length-set c.loop-n.held n _ ∙ c.loop-n.invariant.0,
            puts t nodes c.loop-n.held n c.loop-n.invariant.1 _ (omega (arith, c.loop-n.invariant.0)) its,
            place_put (base_share t active) (replicate 64 0) c.loop-n.shares n 0 refl c.loop-n.invariant.2 small w.base_share.result
                (base_is c.requires.0 c.requires.1 c.ranges.active.fits c.of-lit.ensures.1 n its w.base_share.ensures),
          )
      | else-has w ↦
          let off : has nodes n ≡ false = sym c.has.ensures ∙ w.if-has.false in
          rw (w.held-is, w.shares-is) (
            c.loop-n.invariant.0,
            idle t nodes c.loop-n.held n c.loop-n.invariant.1 off,
            place_skip (base_share t active) (replicate 64 0) c.loop-n.shares n 0 refl c.loop-n.invariant.2 small
                (get_or-replicate 64 n 0 0 small ∙ sym (no_base_share t active n (no_leaf c.requires.0 c.requires.1 c.ranges.active.fits c.of-lit.ensures.1 n small off))),
          )
    ] in
    (step.0, step.1, step.2, omega arith)

pub loop-n-init : goal.loop-n-init
loop-n-init c =
    let t = c.args.tree in
    let active = c.args.active in (
      refl,
      λ k l on. let z : k ≡ 0 = omega arith in rw z (root_share t c.of-lit.result.nodes 0 refl),
      place_skip (base_share t active) (replicate 64 0) (replicate 64 0) 0 0 refl refl (omega arith)
          (sym (no_base_share t active 0 (no_root_within t active c.requires.1))),
      omega arith,
    )

pub bounds-held-parent : goal.bounds-held-parent
bounds-held-parent c =
    parent_small c.requires.0 c.requires.1 c.ranges.active.fits c.of-lit.ensures.1 c.loop-n.n (omega arith) (sym c.has.ensures ∙ c.if-has.true) c.from-parent.ensures

pub bounds-lit-parent : goal.bounds-lit-parent
bounds-lit-parent c =
    parent_small c.requires.0 c.requires.1 c.ranges.active.fits c.of-lit.ensures.1 c.loop-n.n (omega arith) (sym c.has.ensures ∙ c.if-has.true) c.from-parent.ensures

pub portion-share-requires : goal.portion-share-requires
portion-share-requires c =
    asks c.requires.0 c.requires.1 c.ranges.active.fits c.of-lit.ensures.1 c.loop-n.n (omega arith) (sym c.has.ensures ∙ c.if-has.true) c.from-parent.ensures c.loop-n.held c.of-lit.result.sums
    c.loop-n.invariant.1 (sums_of c.of-lit.ensures.0 c.of-lit.result.nodes _ c.of-lit.result.summed) (omega arith)

pub base_share-requires : goal.base_share-requires
base_share-requires c =
    let n = c.loop-n.n in
    let pos : 0 < n = omega arith in
    let on = sym c.has.ensures ∙ c.if-has.true in (
      omega (arith, c.requires.0.most),
      share_small c.requires.0 c.requires.1 c.ranges.active.fits c.of-lit.ensures.1 n pos on c.from-parent.ensures
          (share c.requires.0 c.requires.1 c.ranges.active.fits c.of-lit.ensures.1 n pos on c.from-parent.ensures c.loop-n.held c.of-lit.result.sums c.loop-n.invariant.1
          (sums_of c.of-lit.ensures.0 c.of-lit.result.nodes _ c.of-lit.result.summed) refl c.portion-share.ensures),
    )

pub returns : goal.returns
unfolding base_shares
returns c =
    let t = c.args.tree in
    let active = c.args.active in
    let n = c.loop-n.n in
    places_rest (base_share t active) (replicate 64 0) 0 refl (64 - n) n (omega (arith, c.loop-n.invariant.3))
    (λ k m small.
    get_or-replicate 64 k 0 0 small
    ∙ sym (no_base_share t active k (is_false (has active k) (λ on.
    let z : k ≤ t.count - 1 = rw (last_at t) at (leaf_last t k (c.requires.1 k on)) in
    omega (arith, z)))))
    c.loop-n.shares c.loop-n.invariant.2
