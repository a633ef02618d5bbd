-- The waiting bios of a leaf: a ring of eight, oldest first. What a push and a pop leave of it, of the ids and of the costs.
-- Assumes nothing.
use Rattle.std.specs.Prelude.{◌≡◌}
use Rattle.std.proofs.Math.Path.{refl, ap}
use Rattle.std.proofs.Common.{◌∙◌, zero-add, add-one, arith, length-set}
use mathlib.Core.List.{List, [], ◌∷◌, ◌++◌}
use Prim.Native.Nat.{ℕ, zero, suc, ◌+◌, ◌*◌, ◌%◌, ◌≤◌, ◌<◌}
use Rattle.std.proofs.Math.Nat.{mod-add-mod}
use Rattle.std.proofs.Math.ListN.{get_or}
use Rattle.std.proofs.Math.Seq.{get_or-set_same, get_or-set_other}
use Rattle.rules.specs.Numbers.{queue_room, cost_most}
use Rattle.rules.specs.Words.{table_from}
use Rattle.rules.specs.Units.{abs}
use Rattle.rules.specs.Budget.{pushed, popped, oldest_id, oldest_cost}
use Rattle.rules.specs.Invariant.{SoundQueue}
use Rattle.rules.specs.Ledger.{cost_waiting, cost_of_first, id_waiting, ids_of_first}
use Rattle.rules.proofs.Laws.Tables.{set_keeps, table_from_last, table_from_cong}
use Rattle.rules.specs.declared.units.Abs.{Abs}
use Rattle.rules.specs.declared.budget.Queue.{Queue}

-- one place further on, round and round
next : (h i : ℕ) → ((h + 1) % queue_room + i) % queue_room ≡ (h + suc i) % queue_room
next h i = mod-add-mod (h + 1) queue_room i ∙ ap (λ (x : ℕ). x % queue_room) (omega arith)

-- two numbers less than eight apart are two places
apart : (h i n : ℕ) → i < n → n < queue_room → (h + i) % queue_room ≡ (h + n) % queue_room → ⊥
apart h i n l m e = omega arith

-- ---- a sound queue stays one
module _ (q : Queue) (sound : SoundQueue q) where
  pub pushed_sound : (id : ℕ) (cost : Abs) → q.len < queue_room → cost.0 ≤ cost_most → SoundQueue (pushed id cost q)
  pushed_sound id cost room small = record {
    ids_all = rw length-set sound.ids_all;
    costs_all = rw length-set sound.costs_all;
    head_in = sound.head_in;
    len_most = omega arith;
    cost_at_most =
        λ i.
        set_keeps (λ (x : Abs). x.0 ≤ cost_most) q.costs ((q.head + q.len) % queue_room) i cost (abs 0)
        (omega (arith, sound.costs_all)) small (sound.cost_at_most i);
  }

  pub popped_sound : SoundQueue (popped q)
  popped_sound = record {
    ids_all = sound.ids_all;
    costs_all = sound.costs_all;
    head_in = omega arith;
    len_most = omega (arith, sound.len_most);
    cost_at_most = sound.cost_at_most;
  }

  pub oldest_cost_most : (oldest_cost q).0 ≤ cost_most
  oldest_cost_most = sound.cost_at_most q.head

  -- ---- the oldest is the first
  pub oldest_cost_waits_first : cost_waiting q 0 ≡ (oldest_cost q).0
  unfolding cost_waiting
  oldest_cost_waits_first = ap (λ (i : ℕ). (get_or q.costs i (abs 0)).0) (omega (arith, sound.head_in))

  pub oldest_id_waits_first : id_waiting q 0 ≡ oldest_id q
  unfolding id_waiting
  oldest_id_waits_first = ap (λ (i : ℕ). get_or q.ids i 0) (omega (arith, sound.head_in))

-- ---- a push puts the new bio behind those that wait
module _ (q : Queue) (id : ℕ) (cost : Abs) where
  pub pushed_cost_before : (i : ℕ) → i < q.len → q.len < queue_room → cost_waiting (pushed id cost q) i ≡ cost_waiting q i
  unfolding cost_waiting
  pushed_cost_before i l room =
      ap (λ (x : Abs). x.0)
      (get_or-set_other q.costs ((q.head + q.len) % queue_room) ((q.head + i) % queue_room) cost (abs 0) (apart q.head i q.len l room))

  pub pushed_id_before : (i : ℕ) → i < q.len → q.len < queue_room → id_waiting (pushed id cost q) i ≡ id_waiting q i
  unfolding id_waiting
  pushed_id_before i l room =
      get_or-set_other q.ids ((q.head + q.len) % queue_room) ((q.head + i) % queue_room) id 0 (apart q.head i q.len l room)

  pub pushed_cost_last : SoundQueue q → cost_waiting (pushed id cost q) q.len ≡ cost.0
  unfolding cost_waiting
  pushed_cost_last sound =
      ap (λ (x : Abs). x.0) (get_or-set_same q.costs ((q.head + q.len) % queue_room) cost (abs 0) (omega (arith, sound.costs_all)))

  pub pushed_id_last : SoundQueue q → id_waiting (pushed id cost q) q.len ≡ id
  unfolding id_waiting
  pushed_id_last sound = get_or-set_same q.ids ((q.head + q.len) % queue_room) id 0 (omega (arith, sound.ids_all))

  pub pushed_first_costs : (k : ℕ) → k ≤ q.len → q.len < queue_room → cost_of_first (pushed id cost q) k ≡ cost_of_first q k
  unfolding cost_of_first
  pushed_first_costs zero l room = refl
  pushed_first_costs (suc k) l room =
      omega (arith, pushed_first_costs k (omega arith) room, pushed_cost_before k l room)

  pub pushed_costs : SoundQueue q → q.len < queue_room → cost_of_first (pushed id cost q) (suc q.len) ≡ cost_of_first q q.len + cost.0
  unfolding cost_of_first
  pushed_costs sound room = omega (arith, pushed_first_costs q.len (omega arith) room, pushed_cost_last sound)

  -- all that waits, after a push
  pub pushed_waiting : SoundQueue q → q.len < queue_room
      → cost_of_first (pushed id cost q) (pushed id cost q).len ≡ cost_of_first q q.len + cost.0
  pushed_waiting sound room = ap (cost_of_first (pushed id cost q)) (add-one q.len) ∙ pushed_costs sound room

  -- the ids of all that waits, after a push
  pub pushed_ids : SoundQueue q → q.len < queue_room → ids_of_first (pushed id cost q) (suc q.len) ≡ ids_of_first q q.len ++ (id ∷ [])
  unfolding ids_of_first
  pushed_ids sound room =
      table_from_last (id_waiting (pushed id cost q)) 0 q.len
      ∙ ap (λ (l : List ℕ). l ++ (id_waiting (pushed id cost q) (0 + q.len) ∷ []))
      (table_from_cong (id_waiting (pushed id cost q)) (id_waiting q) 0 q.len (λ i a b. pushed_id_before i (omega arith) room))
      ∙ ap (λ (x : ℕ). table_from (id_waiting q) 0 q.len ++ (x ∷ [])) (ap (id_waiting (pushed id cost q)) (zero-add q.len) ∙ pushed_id_last sound)

-- ---- a pop takes the oldest and moves the others up
pub popped_cost : (q : Queue) (i : ℕ) → cost_waiting (popped q) i ≡ cost_waiting q (suc i)
unfolding cost_waiting
popped_cost q i = ap (λ (j : ℕ). (get_or q.costs j (abs 0)).0) (next q.head i)

pub popped_id : (q : Queue) (i : ℕ) → id_waiting (popped q) i ≡ id_waiting q (suc i)
unfolding id_waiting
popped_id q i = ap (λ (j : ℕ). get_or q.ids j 0) (next q.head i)

pub popped_costs : (q : Queue) → SoundQueue q → (k : ℕ) → cost_of_first q (suc k) ≡ (oldest_cost q).0 + cost_of_first (popped q) k
unfolding cost_of_first
popped_costs q sound zero = omega (arith, oldest_cost_waits_first q sound)
popped_costs q sound (suc k) = omega (arith, popped_costs q sound k, popped_cost q k)

popped_ids_from : (q : Queue) (i k : ℕ) → table_from (id_waiting q) (suc i) k ≡ table_from (id_waiting (popped q)) i k
unfolding table_from
popped_ids_from q i zero = refl
popped_ids_from q i (suc k) = rw (← popped_id q i, popped_ids_from q (suc i) k)

pub popped_ids : (q : Queue) → SoundQueue q → (k : ℕ) → ids_of_first q (suc k) ≡ oldest_id q ∷ ids_of_first (popped q) k
unfolding ids_of_first table_from
popped_ids q sound k = rw (oldest_id_waits_first q sound, popped_ids_from q 0 k)

-- ---- what waits is no more than the dearest bio in each place
pub cost_of_first_most : (q : Queue) → SoundQueue q → (k : ℕ) → cost_of_first q k ≤ k * cost_most
unfolding cost_of_first cost_waiting
cost_of_first_most q sound zero = omega arith
cost_of_first_most q sound (suc k) = omega (arith, cost_of_first_most q sound k, sound.cost_at_most ((q.head + k) % queue_room))
