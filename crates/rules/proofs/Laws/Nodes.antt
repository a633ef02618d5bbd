-- The nodes that a trace has given so far: each was without fault when it came and stays so, and a faulty record names the next.
-- Assumes nothing.
use Rattle.std.specs.Prelude.{◌≡◌, Err, Ok}
use Rattle.std.proofs.Math.Path.{refl, ap}
use Rattle.std.proofs.Common.{◌∙◌, eq-or-lt_of_le, le-leb}
use Rattle.std.proofs.Math.Logic.{⊎_elim}
use Prim.Native.Nat.{ℕ, zero, suc, ◌+◌, ◌-◌, ◌≤◌, ◌<◌}
use native.Mathlib.Omega.{arith}
use Rattle.std.proofs.Math.Seq.{get_or-set_other}
use Rattle.rules.specs.Numbers.{nodes_least}
use Rattle.rules.specs.Tree.{parent, weight, last, level_in, level, count_in_range, fault_to, tree_fault, newest_fault}
use Rattle.rules.specs.Refusals.{fault_node, first_of, node_checks, rate_checks}
use Rattle.rules.specs.Entries.{started}
use Rattle.rules.specs.Replay.{beginning, grown, node_step, model_step, start_step, record_step, stepped}
use Rattle.rules.specs.Invariant.{SoundTree, Playing}
use Rattle.rules.proofs.Laws.Trees.{SoundNode, sound_nodes, sound_from_nodes}
use Rattle.rules.proofs.Laws.Replays.{accepted_newest, step_keeps}
use Rattle.rules.proofs.Laws.Refused.{start_names}
use Rattle.rules.proofs.Laws.Faults.{Says, TreeSays, NewestSays, a_node_record_names}
use Rattle.rules.specs.declared.tree.Tree.{Tree}
use Rattle.rules.specs.declared.tree.Fault.{Fault}
use Rattle.rules.specs.declared.tree.Fault.TheVariants.{Count, Parent, Weight, Level}
use Rattle.rules.specs.declared.refusals.Refusal.TheVariants.{BadTree}
use Rattle.rules.specs.declared.trace.Record.{Record}
use Rattle.rules.specs.declared.trace.Record.TheVariants.{Node, Model as ModelOf, Start, Bio as BioOf, Tick, Plan, Vrate, Weight as WeightOf}
use Rattle.rules.specs.declared.replay.Replay.{Replay}
use Rattle.rules.specs.Results.{Verdict, Read}

-- ---- a node more changes nothing of those before it
module _ (p w : ℕ) (t : Tree) where
  parent_stays : (k : ℕ) → k < t.count → parent (grown p w t) k ≡ parent t k
  unfolding parent
  parent_stays zero l = refl
  parent_stays (suc k) l = get_or-set_other t.parents t.count (suc k) p 0 (λ e. omega arith)

  weight_stays : (k : ℕ) → k < t.count → weight (grown p w t) k ≡ weight t k
  unfolding weight
  weight_stays k l = get_or-set_other t.weights t.count k w 0 (λ e. omega arith)

  module _ (up : (k : ℕ) → 0 < k → k < t.count → parent t k < k) where
    level_in_stays : (f k : ℕ) → k < t.count → level_in f (grown p w t) k ≡ level_in f t k
    unfolding level_in
    level_in_stays zero k l = refl
    level_in_stays (suc f) zero l = refl
    level_in_stays (suc f) (suc k) l =
        let u : parent t (suc k) < suc k = up (suc k) (omega arith) l in
        ap suc (ap (level_in f (grown p w t)) (parent_stays (suc k) l) ∙ level_in_stays f (parent t (suc k)) (omega arith))

    level_stays : (k : ℕ) → k < t.count → level (grown p w t) k ≡ level t k
    unfolding level
    level_stays k l = level_in_stays k k l

  module _ (some : 0 < t.count) (sound : SoundTree t) where
    pub node_stays_sound : (k : ℕ) → 0 < k → k < t.count → SoundNode (grown p w t) k
    unfolding last
    node_stays_sound k a l =
        let inside : k ≤ t.count - 1 = omega arith in
        record {
          up = rw (parent_stays k l) (sound.up k a inside);
          light = rw (weight_stays k l) (sound.light k a inside);
          heavy = rw (weight_stays k l) (sound.heavy k a inside);
          shallow = rw (level_stays (λ j b m. sound.up j b (omega arith)) k l) (sound.shallow k a inside);
        }

    grown_sound : first_of (node_checks (grown p w t)) ≡ Ok tt → SoundTree (grown p w t)
    unfolding last
    grown_sound e =
        let newest = accepted_newest (grown p w t) e in
        sound_from_nodes (grown p w t) newest.0 (λ n a b.
        ⊎_elim
        (λ (i : n ≡ last (grown p w t)). rw i newest.1)
        (λ (l : n < last (grown p w t)). node_stays_sound n a (omega arith))
        (eq-or-lt_of_le b))

-- ---- so a replay holds no faulty node
pub beginning_nodes : SoundTree beginning.tree
unfolding last
beginning_nodes = sound_from_nodes beginning.tree (omega arith) (λ n a b. absurd (omega arith))

-- where every node before the newest is without fault, the newest one's is the first
newest_is_first : (t : Tree) (m : ℕ) → last t ≡ suc m → nodes_least ≤ t.count → fault_to t m ≡ Ok tt → newest_fault t ≡ tree_fault t
unfolding newest_fault tree_fault count_in_range fault_to
newest_is_first t m e least before = rw (e, le-leb nodes_least t.count least, before)

module _ (s : Replay) (h : Playing s) (sound : SoundTree s.tree) where
  record_keeps_nodes : (r : Record) → SoundTree (record_step r s).replay.tree
  unfolding record_step node_step model_step start_step
  record_keeps_nodes (Node p w) = go (first_of (node_checks (grown p w s.tree))) refl
    where
      go : (v : Verdict) → first_of (node_checks (grown p w s.tree)) ≡ v → SoundTree (node_step v (grown p w s.tree) s).replay.tree
      go (Ok tt) e = grown_sound p w s.tree h.least sound e
      go (Err x) e = sound
  record_keeps_nodes (ModelOf r) = go (first_of (rate_checks r))
    where
      go : (v : Verdict) → SoundTree (model_step v r s).replay.tree
      go (Ok tt) = sound
      go (Err x) = sound
  record_keeps_nodes (Start time) = go (started s.tree s.rates time).answer
    where
      go : (v : Verdict) → SoundTree (start_step v (started s.tree s.rates time).state s).replay.tree
      go (Ok tt) = sound
      go (Err x) = sound
  record_keeps_nodes (BioOf b) = sound
  record_keeps_nodes (Tick time) = sound
  record_keeps_nodes Plan = sound
  record_keeps_nodes (Vrate v) = sound
  record_keeps_nodes (WeightOf n w) = sound

  pub step_keeps_nodes : (read : Read) → SoundTree (stepped read s).replay.tree
  step_keeps_nodes = step_keeps (λ (t : Replay). SoundTree t.tree) s sound (λ x. sound) record_keeps_nodes

  -- ---- a node record that is refused for its node: that is the next number, every node before it is without fault, and the fault
  -- is the first of its own
  pub a_faulty_record_names_its_node : (p w : ℕ) (f : Fault) → first_of (node_checks (grown p w s.tree)) ≡ Err (BadTree f) → (f ≡ Count → ⊥)
      → (fault_node f ≡ s.tree.count) × ((k : ℕ) → 0 < k → k < fault_node f → SoundNode (grown p w s.tree) k) × Says (grown p w s.tree) (fault_node f) f
  unfolding last
  a_faulty_record_names_its_node p w f e other =
      let says = newest_says f other ((a_node_record_names (grown p w s.tree) f).0 e) in
      let is : fault_node f ≡ s.tree.count = omega (arith, says.0) in
      (is, λ k a l. node_stays_sound p w s.tree h.least sound k a (omega (arith, is)), rw says.0 says.1)
    where
      newest_says : (g : Fault) → (g ≡ Count → ⊥) → NewestSays (grown p w s.tree) g
          → (fault_node g ≡ s.tree.count + 1 - 1) × Says (grown p w s.tree) (s.tree.count + 1 - 1) g
      newest_says Count n q = absurd (n refl)
      newest_says (Parent k) n q = (q.1.0, q.1)
      newest_says (Weight k) n q = (q.1.0, q.1)
      newest_says (Level k) n q = (q.1.0, q.1)

  -- and its fault is the one that the check of the whole tree so far would find
  pub a_record_is_judged_as_its_tree : (p w : ℕ) → newest_fault (grown p w s.tree) ≡ tree_fault (grown p w s.tree)
  unfolding last
  a_record_is_judged_as_its_tree p w =
      let most : (k : ℕ) → k ≤ s.tree.count - 1 → k < s.tree.count = λ k l. omega (arith, h.least) in
      newest_is_first (grown p w s.tree) (s.tree.count - 1) (omega (arith, h.least)) (omega (arith, h.least))
      (sound_nodes (grown p w s.tree) (s.tree.count - 1) (λ k a l. node_stays_sound p w s.tree h.least sound k a (most k l)))

  -- ".. and start for too few nodes, then for 2": the nodes were judged as they came
  pub a_trace's_start_names_no_node : (time : ℕ) (f : Fault) → (started s.tree s.rates time).answer ≡ Err (BadTree f) → f ≡ Count
  a_trace's_start_names_no_node time f e = go f ((start_names s.tree s.rates time f).0 e)
    where
      go : (g : Fault) → TreeSays s.tree g → g ≡ Count
      go Count q = refl
      go (Parent n) q = absurd (omega (arith, q.2.1, sound.up n q.1.below q.1.there))
      go (Weight n) q = absurd (q.2.2 (sound.light n q.1.below q.1.there, sound.heavy n q.1.below q.1.there))
      go (Level n) q = absurd (omega (arith, q.2.3, sound.shallow n q.1.below q.1.there))
