-- Another weight at one node: what the tree keeps, that the state stays sound, and that nothing is saved by it.
-- Assumes nothing.
use Rattle.std.specs.Prelude.{◌≡◌, Bool, true, false, ◌&&◌, ◌≢◌, set, Err, Ok}
use Rattle.std.proofs.Math.Path.{refl, sym, ap}
use Rattle.std.proofs.Common.{◌∙◌, lt_of_not-le, le_of_suc-le-suc, arith}
use Rattle.std.proofs.Math.Bool.{not}
use mathlib.Core.List.{List, [], ◌∷◌}
use Rattle.std.proofs.Math.Logic.{dite}
use Prim.Native.Nat.{ℕ, zero, suc, ◌≤◌, ◌<◌}
use Rattle.std.proofs.Math.Decide.{ℕ_discrete, dec_lt}
use Rattle.std.proofs.Math.Dec.{eqb, leb, ltb}
use Rattle.std.proofs.Math.ListN.{length, get_or}
use Rattle.std.proofs.Math.Seq.{get_or-set_same, get_or-set_other}
use borrow.Author.Tests.{ltb-true}
use Rattle.rules.specs.Numbers.{nodes_most, leaf_most, weight_least, weight_most}
use Rattle.rules.specs.Words.{no_node}
use Rattle.rules.specs.Tree.{parent, weight, last, level_in, level, weight_in_range, is_leaf, leaves_of, base_shares, is_thin, is_below_root, with_weight}
use Rattle.rules.specs.Budget.{empty_queue, row_at, share_at, with_tree, with_budget, rebudget, reshared, rebased, reweighted}
use Rattle.rules.specs.Refusals.{first_of, weight_checks}
use Rattle.rules.specs.Entries.{weighted_by, weighted}
use Rattle.rules.specs.Invariant.{SoundTree, Sound}
use Rattle.rules.specs.Ledger.{cost_of_first, waiting, owed, saved}
use Rattle.rules.proofs.Laws.Bools.{true_not_false, and_left, and_right}
use Rattle.rules.proofs.Laws.Sums.{sum_le, any_cong}
use Rattle.rules.proofs.Laws.Sets.{has_none, set_cong}
use Rattle.rules.proofs.Laws.Trees.{weight_range}
use Rattle.rules.proofs.Laws.Passes.{weight_passes}
use Rattle.rules.proofs.Laws.Resharing.{SoundRoles, SoundBooks, Reweighed, reshared_row, rebasing_keeps, rebasing_reweighs, active_of_rebased}
use Rattle.rules.specs.declared.tree.Tree.{Tree}
use Rattle.rules.specs.declared.budget.Row.{Row}
use Rattle.rules.specs.declared.budget.Queue.{Queue}
use Rattle.rules.specs.declared.budget.Controller.{Controller}
use Rattle.rules.specs.Results.{Verdict}

-- ---- what the tree keeps: all but the one weight
module _ (n w : ℕ) (t : Tree) where
  pub weight_keeps_parents : (k : ℕ) → parent (with_weight n w t) k ≡ parent t k
  unfolding parent
  weight_keeps_parents zero = refl
  weight_keeps_parents (suc k) = refl

  level_in_stays : (f k : ℕ) → level_in f (with_weight n w t) k ≡ level_in f t k
  unfolding level_in
  level_in_stays zero k = refl
  level_in_stays (suc f) zero = refl
  level_in_stays (suc f) (suc k) =
      ap suc (ap (level_in f (with_weight n w t)) (weight_keeps_parents (suc k)) ∙ level_in_stays f (parent t (suc k)))

  pub weight_keeps_levels : (k : ℕ) → level (with_weight n w t) k ≡ level t k
  unfolding level
  weight_keeps_levels k = level_in_stays k k

  pub weight_keeps_each_leaf : (k : ℕ) → is_leaf (with_weight n w t) k ≡ is_leaf t k
  unfolding is_leaf last
  weight_keeps_each_leaf k =
      ap (λ (b : Bool). ltb 0 k && leb k (last t) && not b)
      (any_cong (λ j. eqb (parent (with_weight n w t) j) k) (λ j. eqb (parent t j) k) (last t) (λ j p q. ap (λ (x : ℕ). eqb x k) (weight_keeps_parents j)))

  pub weight_keeps_leaves : leaves_of (with_weight n w t) ≡ leaves_of t
  unfolding leaves_of
  weight_keeps_leaves = set_cong (is_leaf (with_weight n w t)) (is_leaf t) nodes_most (λ k l. weight_keeps_each_leaf k)

  -- every other node has the weight that it had
  pub weight_of_others_stays : (k : ℕ) → k ≢ n → weight (with_weight n w t) k ≡ weight t k
  unfolding weight
  weight_of_others_stays k ne = get_or-set_other t.weights n k w 0 ne

-- ---- in a sound tree the node has a place, and there the weight
module _ {t : Tree} (sound : SoundTree t) (n : ℕ) (below : is_below_root t n ≡ true) where
  counted : (0 < n) × (n < t.count)
  unfolding is_below_root
  counted = (ltb-true 0 n (and_left (ltb 0 n) (ltb n t.count) below), ltb-true n t.count (and_right (ltb 0 n) (ltb n t.count) below))

  pub below_root_inside : n < nodes_most
  below_root_inside = omega (arith, counted.1, sound.most)

  pub weight_is_set : (w : ℕ) → weight (with_weight n w t) n ≡ w
  unfolding weight last
  weight_is_set w =
      dite (dec_lt n (length t.weights)) (λ (h : n < length t.weights). get_or-set_same t.weights n w 0 h)
      (λ g. absurd (omega (arith, sound.light n counted.0 (omega (arith, counted.1)), none_past t.weights n (le_of_suc-le-suc (lt_of_not-le g)))))
    where
      none_past : (l : List ℕ) (i : ℕ) → length l ≤ i → get_or l i 0 ≡ 0
      none_past [] i h = refl
      none_past (x ∷ l) zero h = absurd (omega arith)
      none_past (x ∷ l) (suc i) h = none_past l i (omega arith)

-- ---- a sound tree stays sound
-- what holds of the new value and of every old one holds at every place of the list, also where the place that is set is none
set_keeps_all : (P : ℕ → Type 0) (l : List ℕ) (i j a d : ℕ) → P a → P (get_or l j d) → P (get_or (set l i a) j d)
set_keeps_all P l i j a d new old =
    dite (ℕ_discrete j i)
    (λ (e : j ≡ i).
    dite (dec_lt i (length l)) (λ (h : i < length l). rw (e, get_or-set_same l i a d h) new)
    (λ g. rw (set_past l i a (le_of_suc-le-suc (lt_of_not-le g))) old))
    (λ (ne : j ≢ i). rw (get_or-set_other l i j a d ne) old)
  where
    set_past : (l : List ℕ) (i a : ℕ) → length l ≤ i → set l i a ≡ l
    set_past [] i a h = refl
    set_past (x ∷ l) zero a h = absurd (omega arith)
    set_past (x ∷ l) (suc i) a h = ap (λ (r : List ℕ). x ∷ r) (set_past l i a (omega arith))

module _ (n w : ℕ) {t : Tree} (sound : SoundTree t) (range : weight_in_range w ≡ true) where
  pub weight_keeps_sound_trees : SoundTree (with_weight n w t)
  unfolding last weight
  weight_keeps_sound_trees = record {
    most = sound.most;
    up = λ k p q. rw (weight_keeps_parents n w t k) (sound.up k p q);
    light = λ k p q. set_keeps_all (λ x. weight_least ≤ x) t.weights n k w 0 (weight_range w range).0 (sound.light k p q);
    heavy = λ k p q. set_keeps_all (λ x. x ≤ weight_most) t.weights n k w 0 (weight_range w range).1 (sound.heavy k p q);
    shallow = λ k p q. rw (weight_keeps_levels n w t k) (sound.shallow k p q);
  }

-- ---- the state: the tree with the weight, and everything else that the books keep
module _ {c : Controller} (sound : Sound c) (n w : ℕ) where
  module _ (range : weight_in_range w ≡ true) (thick : is_thin (with_weight n w c.tree) ≡ false) where
    weighted_books : SoundBooks (with_tree (with_weight n w c.tree) c)
    unfolding saved
    weighted_books = record {
      tree = weight_keeps_sound_trees n w sound.tree range;
      thick = thick;
      leaves = sound.leaves ∙ sym (weight_keeps_leaves n w c.tree);
      model = sound.model;
      clock = sound.clock;
      rows_all = sound.rows_all;
      queues_all = sound.queues_all;
      row = sound.row;
      queue = sound.queue;
      worth_at_most = sound.worth_at_most;
      usage_at_most = sound.usage_at_most;
    }

    weighted_roles : SoundRoles (with_tree (with_weight n w c.tree) c) c.active no_node
    weighted_roles = record {
      active_fits = sound.active_fits;
      donors_fit = omega arith;
      leaves = λ k e. weight_keeps_each_leaf n w c.tree k ∙ sound.active k e;
      donors_active = λ k e. absurd (true_not_false e (has_none k));
      donors_free = λ k e. absurd (true_not_false e (has_none k));
      idle = sound.idle;
    }

    pub weight_keeps : Sound (reweighted n w c)
    unfolding reweighted
    weight_keeps = rebasing_keeps weighted_books c.active weighted_roles

  -- ---- what it leaves
  weight_reweighs : Reweighed (with_tree (with_weight n w c.tree) c) (reweighted n w c)
  unfolding reweighted
  weight_reweighs = rebasing_reweighs c.active (with_tree (with_weight n w c.tree) c) sound.rows_all

  -- ---- demand 3: nothing is saved by it; what waits, what is owed, what was used and the clock stay
  pub weight_saves_nothing : saved (reweighted n w c) ≤ saved c
  unfolding saved
  weight_saves_nothing = sum_le _ _ leaf_most (λ k p q. weight_reweighs.worth k)

  pub weight_keeps_queues : (reweighted n w c).queues ≡ c.queues
  weight_keeps_queues = weight_reweighs.queues

  -- of each row the budget alone moves: debt, usage, end and what was accepted stay
  pub weight_changes_budgets_alone : (k : ℕ) → row_at (reweighted n w c) k ≡ with_budget (row_at (reweighted n w c) k).budget (row_at c k)
  weight_changes_budgets_alone = weight_reweighs.row

  pub weight_keeps_waiting : (k : ℕ) → waiting (reweighted n w c) k ≡ waiting c k
  weight_keeps_waiting k = ap (λ (q : List Queue). cost_of_first (get_or q k empty_queue) (get_or q k empty_queue).len) weight_reweighs.queues

  pub weight_keeps_owed : (k : ℕ) → owed (reweighted n w c) k ≡ owed c k
  weight_keeps_owed k = ap (λ (r : Row). r.debt.0) (weight_reweighs.row k)

  pub weight_keeps_the_clock : (reweighted n w c).clock ≡ c.clock
  weight_keeps_the_clock = weight_reweighs.clock

  -- ---- the tree that is then in force, the same leaves active, no donor left, and each active leaf at its base share there
  pub weight_is_in_force : (reweighted n w c).tree ≡ with_weight n w c.tree
  weight_is_in_force = weight_reweighs.tree

  pub weight_keeps_active : (reweighted n w c).active ≡ c.active
  unfolding reweighted
  weight_keeps_active = active_of_rebased c.active (with_tree (with_weight n w c.tree) c)

  pub weight_ends_a_donation : (reweighted n w c).donors ≡ no_node
  unfolding reweighted rebased reshared
  weight_ends_a_donation = refl

  pub weight_gives_base_shares : (reweighted n w c).shares ≡ base_shares (with_weight n w c.tree) c.active
  unfolding reweighted rebased reshared
  weight_gives_base_shares = refl

  -- ---- "budgets follow the rule for rising shares", from the share held before the call, donated or not, to the one after it
  pub weight_scales_budgets : (k : ℕ) → (row_at (reweighted n w c) k).budget ≡ rebudget (share_at c k) (share_at (reweighted n w c) k) (row_at c k).budget
  unfolding reweighted rebased reshared
  weight_scales_budgets k =
      ap (λ (r : Row). r.budget)
      (reshared_row c.active no_node (base_shares (with_weight n w c.tree) c.active) (with_tree (with_weight n w c.tree) c) sound.rows_all k)

-- ---- the call: accepted it is this change, and refused or not the state stays sound
pub an_accepted_weight_is_in_force : (n w : ℕ) (c : Controller) → first_of (weight_checks n w c.tree) ≡ Ok tt → (weighted n w c).state ≡ reweighted n w c
unfolding weighted weighted_by
an_accepted_weight_is_in_force n w c e = ap (λ (v : Verdict). (weighted_by v n w c).state) e

pub weighted_keeps : {c : Controller} → Sound c → (n w : ℕ) → Sound (weighted n w c).state
unfolding weighted weighted_by
weighted_keeps {c} sound n w = go (first_of (weight_checks n w c.tree)) refl
  where
    go : (v : Verdict) → first_of (weight_checks n w c.tree) ≡ v → Sound (weighted_by v n w c).state
    go (Ok tt) e = let p = weight_passes n w c.tree e in weight_keeps sound n w p.range p.thick
    go (Err x) e = sound
