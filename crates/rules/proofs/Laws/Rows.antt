-- One leaf's books: what a charge, a repayment, a release, the cap and a whole turn of a tick leave of its row and queue.
-- Assumes nothing.
use Rattle.std.specs.Prelude.{◌≡◌, Bool, cond, ◌&&◌, List, ◌∷◌, ◌⊎◌, ltb, length}
use Rattle.std.proofs.Math.Path.{refl, ap}
use Rattle.std.proofs.Common.{sym, ◌∙◌, inl, inr, ⊎_elim, sub-add_cancel, le_trans, le_refl, mul-le-mul, mul-le-mul_right, eq-zero-or-pos}
use Rattle.std.proofs.Math.Bool.{true, false, not}
use Prim.Native.Nat.{ℕ, zero, suc, ◌+◌, ◌-◌, ◌*◌, ◌≤◌, ◌<◌}
use Rattle.std.proofs.Math.Nat.{min-le_left, min-le_right}
use native.Mathlib.Omega.{arith}
use borrow.Author.Tests.{leb-true, leb-false, ltb-true, ltb-false, lt-ltb, le-ltb}
use Rattle.rules.specs.Numbers.{whole, cost_most, debt_most, idle_cap, end_most}
use Rattle.rules.specs.Words.{table_from}
use Rattle.rules.specs.Units.{abs, virt, relative, repayable}
use Rattle.rules.specs.Cost.{end_of, is_flush}
use Rattle.rules.specs.Budget.{popped, oldest_id, oldest_cost, with_budget, with_debt, charged, noted, owes, waits, fits}
use Rattle.rules.specs.Tick.{Release, no_release, Turn, gained, repayment, repaid, and_first, release_in, released, capped, turn}
use Rattle.rules.specs.Invariant.{worth_most, SoundQueue, SoundRow}
use Rattle.rules.specs.Ledger.{cost_of_first, ids_of_first}
use Rattle.rules.proofs.Laws.Bools.{and_right, and_not_left, and_not_right}
use Rattle.rules.proofs.Laws.Units.{relative_cost_is_enough, relative_cost_is_least, relative_cost_is_close, repayable_is_within, repayable_is_close}
use Rattle.rules.proofs.Laws.Queues.{popped_sound, popped_costs, popped_ids, oldest_cost_most}
use Rattle.rules.specs.declared.units.Abs.{Abs}
use Rattle.rules.specs.declared.units.Virt.{Virt}
use Rattle.rules.specs.declared.cost.Bio.{Bio}
use Rattle.rules.specs.declared.budget.Row.{Row}
use Rattle.rules.specs.declared.budget.Queue.{Queue}

-- ---- r' is what r becomes when x is charged at a share: the budget pays for it, the usage has it, the last end stays
pub record Pays (share x : ℕ) (r r' : Row) : Type 0 where
  pub worth : x * whole + r'.budget.0 * share ≤ r.budget.0 * share
  pub usage : r'.usage.0 ≡ r.usage.0 + x
  pub end : r'.end ≡ r.end
  pub begun : r'.begun ≡ r.begun
  pub accepted : r'.accepted ≡ r.accepted

pub pays_nothing : (share : ℕ) (r : Row) → Pays share 0 r r
pays_nothing share r = record { worth = omega arith; usage = omega arith; end = refl; begun = refl; accepted = refl }

pub pays_then : {share x y : ℕ} {a b c : Row} → Pays share x a b → Pays share y b c → Pays share (x + y) a c
pays_then {share} {x} {y} {a} {b} {c} p q = record {
  worth = omega (arith, p.worth, q.worth);
  usage = omega (arith, p.usage, q.usage);
  end = q.end ∙ p.end;
  begun = q.begun ∙ p.begun;
  accepted = q.accepted ∙ p.accepted;
}

-- ---- a charge
-- what is taken from a budget is worth at least the cost
pay_law : (x b y s : ℕ) → y ≤ b → x * whole ≤ y * s → x * whole + (b - y) * s ≤ b * s
pay_law x b y s l h = go (b - y) (ap (λ (z : ℕ). z * s) (sub-add_cancel l))
  where
    go : (z : ℕ) → (z + y) * s ≡ b * s → x * whole + z * s ≤ b * s
    go z e = omega (arith, h, e)

pub charge_pays : (cost : Abs) (share : ℕ) (r : Row) → 0 < share → (relative cost share).0 ≤ r.budget.0
    → Pays share cost.0 r (charged cost share r)
charge_pays cost share r p l = record {
  worth = pay_law cost.0 r.budget.0 (relative cost share).0 share l (relative_cost_is_enough cost share p);
  usage = refl;
  end = refl;
  begun = refl;
  accepted = refl;
}

pub fitting_charge_pays : (cost : Abs) (share : ℕ) (r : Row) → 0 < share → fits cost share r ≡ true
    → Pays share cost.0 r (charged cost share r)
fitting_charge_pays cost share r p e = charge_pays cost share r p (leb-true _ _ e)

-- a budget that a cost does not fit is worth less than the dearest cost and one round
pub not_fitting_is_small : (cost : Abs) (share : ℕ) (r : Row) → 0 < share → share ≤ whole → cost.0 ≤ cost_most → fits cost share r ≡ false
    → r.budget.0 * share ≤ worth_most
not_fitting_is_small cost share r p s small e =
    let l : r.budget.0 < (relative cost share).0 = leb-false _ _ e in
    omega (arith, relative_cost_is_close cost share p, mul-le-mul_right {m = r.budget.0} {n = (relative cost share).0} share (omega arith))

pub charge_keeps : (cost : Abs) (share : ℕ) (r : Row) → SoundRow r → SoundRow (charged cost share r)
charge_keeps cost share r sound = record { debt_at_most = sound.debt_at_most; end_at_most = sound.end_at_most }

-- ---- a bio on debt, and any bio's end
pub owing_keeps : (cost : Abs) (r : Row) → r.debt.0 + cost.0 ≤ debt_most → SoundRow r → SoundRow (with_debt (abs (r.debt.0 + cost.0)) r)
owing_keeps cost r l sound = record { debt_at_most = l; end_at_most = sound.end_at_most }

pub noted_keeps : (b : Bio) (r : Row) → end_of b ≤ end_most → SoundRow r → SoundRow (noted b r)
noted_keeps b r l sound = record { debt_at_most = sound.debt_at_most; end_at_most = go (is_flush b) }
  where
    go : (f : Bool) → cond f r.end (end_of b) ≤ end_most
    go true = sound.end_at_most
    go false = l

-- ---- a repayment
pub repayment_most : (share : ℕ) (r : Row) → (repayment share r).0 ≤ r.debt.0
unfolding repayment
repayment_most share r = min-le_left r.debt.0 (repayable r.budget share).0

pub repayment_within : (share : ℕ) (r : Row) → (repayment share r).0 * whole ≤ r.budget.0 * share
unfolding repayment
repayment_within share r =
    le_trans (mul-le-mul_right whole (min-le_right r.debt.0 (repayable r.budget share).0)) (repayable_is_within r.budget share)

pub repayment_is_affordable : (share : ℕ) (r : Row) → 0 < share → (relative (repayment share r) share).0 ≤ r.budget.0
repayment_is_affordable share r p = relative_cost_is_least (repayment share r) share r.budget.0 p (repayment_within share r)

-- a leaf that owes nothing repays nothing
pub repayment_of_nothing : (share : ℕ) (r : Row) → r.debt.0 ≡ 0 → (repayment share r).0 ≡ 0
repayment_of_nothing share r z = omega (arith, repayment_most share r)

-- "it repays p = .., and the budget falls by CEIL(p x WHOLE / share)"
pub repaid_budget : (share : ℕ) (r : Row) → 0 < r.debt.0 → (repaid share r).budget.0 ≡ r.budget.0 - (relative (repayment share r) share).0
unfolding repaid
repaid_budget share r l = rw (lt-ltb 0 r.debt.0 l)

-- the row of a leaf that repays
abbrev repaying : ℕ → Row → Row
repaying share r = with_debt (abs (r.debt.0 - (repayment share r).0)) (charged (repayment share r) share r)

pub repaid_debt : (share : ℕ) (r : Row) → (repaid share r).debt.0 + (repayment share r).0 ≡ r.debt.0
unfolding repaid
repaid_debt share r = go (owes r) refl
  where
    go : (t : Bool) → owes r ≡ t → (cond t (repaying share r) r).debt.0 + (repayment share r).0 ≡ r.debt.0
    go true e = omega (arith, repayment_most share r)
    go false e = omega (arith, repayment_of_nothing share r (omega (arith, ltb-false 0 r.debt.0 e)))

module _ (share : ℕ) (r : Row) (p : 0 < share) where
  pub repaid_pays : Pays share (repayment share r).0 r (repaid share r)
  unfolding repaid
  repaid_pays = go (owes r) refl
    where
      go : (t : Bool) → owes r ≡ t → Pays share (repayment share r).0 r (cond t (repaying share r) r)
      go true e =
          let w = charge_pays (repayment share r) share r p (repayment_is_affordable share r p) in
          record { worth = w.worth; usage = w.usage; end = refl; begun = refl; accepted = refl }
      go false e =
          let z : (repayment share r).0 ≡ 0 = repayment_of_nothing share r (omega (arith, ltb-false 0 r.debt.0 e)) in
          rw z (pays_nothing share r)

  -- a leaf that still owes has repaid all that it can: what is left is worth less than one nanosecond
  pub repaid_leaves_nothing_or_little : ((repaid share r).debt.0 ≡ 0) ⊎ ((repaid share r).budget.0 * share ≤ worth_most)
  unfolding repayment
  repaid_leaves_nothing_or_little = go (eq-zero-or-pos (repaid share r).debt.0)
    where
      all : 0 < (repaid share r).debt.0 → (repayment share r).0 ≡ (repayable r.budget share).0
      all l = omega (arith, repaid_debt share r, l)

      go : ((repaid share r).debt.0 ≡ 0) ⊎ (0 < (repaid share r).debt.0) → ((repaid share r).debt.0 ≡ 0) ⊎ ((repaid share r).budget.0 * share ≤ worth_most)
      go (inl z) = inl z
      go (inr l) = inr (omega (arith, repaid_pays.worth, all l, repayable_is_close r.budget share))

-- ---- releases
-- what a queue and its row become when as many are released as there are ids
pub record Releases (share : ℕ) (r : Row) (q : Queue) (t : Release) : Type 0 where
  pub pays : Pays share (cost_of_first q (length t.ids)) r t.row
  pub debt : t.row.debt.0 ≡ r.debt.0
  pub left : t.queue.len + length t.ids ≡ q.len
  pub ids : t.ids ≡ ids_of_first q (length t.ids)
  pub costs : cost_of_first q q.len ≡ cost_of_first q (length t.ids) + cost_of_first t.queue t.queue.len
  pub queue : SoundQueue t.queue

-- no more can be released: nothing waits, or the oldest does not fit
abbrev pub AllReleased : ℕ → Release → Type 0
AllReleased share t = (t.queue.len ≡ 0) ⊎ (fits (oldest_cost t.queue) share t.row ≡ false)

releases_none : (share : ℕ) (r : Row) (q : Queue) → SoundQueue q → Releases share r q (no_release r q)
unfolding cost_of_first ids_of_first table_from
releases_none share r q sound = record {
  pays = pays_nothing share r;
  debt = refl;
  left = omega arith;
  ids = refl;
  costs = omega arith;
  queue = sound;
}

-- the oldest, and then those of the popped queue
releases_one : (share : ℕ) (r : Row) (q : Queue) (t : Release) → 0 < share → SoundQueue q → 0 < q.len → fits (oldest_cost q) share r ≡ true
    → Releases share (charged (oldest_cost q) share r) (popped q) t → Releases share r q (and_first (oldest_id q) t)
releases_one share r q t p sound some e w =
    let k = length t.ids in
    let n : q.len ≡ suc (popped q).len = omega arith in
    record {
      pays = rw (popped_costs q sound k) (pays_then (fitting_charge_pays (oldest_cost q) share r p e) w.pays);
      debt = w.debt;
      left = omega (arith, w.left);
      ids = ap (λ (l : List ℕ). oldest_id q ∷ l) w.ids ∙ sym (popped_ids q sound k);
      costs =
          ap (cost_of_first q) n ∙ popped_costs q sound (popped q).len ∙ omega (arith, w.costs, popped_costs q sound k);
      queue = w.queue;
    }

pub release_in_releases : (more share : ℕ) (r : Row) (q : Queue) → 0 < share → SoundQueue q → more ≤ q.len → Releases share r q (release_in more share r q)
unfolding release_in
release_in_releases zero share r q p sound l = releases_none share r q sound
release_in_releases (suc more) share r q p sound l =
    go (fits (oldest_cost q) share r) refl
    (release_in_releases more share (charged (oldest_cost q) share r) (popped q) p (popped_sound q sound) (omega arith))
  where
    rest : Release
    rest = release_in more share (charged (oldest_cost q) share r) (popped q)

    go : (t : Bool) → fits (oldest_cost q) share r ≡ t → Releases share (charged (oldest_cost q) share r) (popped q) rest
        → Releases share r q (cond t (and_first (oldest_id q) rest) (no_release r q))
    go true e w = releases_one share r q rest p sound (omega arith) e w
    go false e w = releases_none share r q sound

pub release_in_releases_all : (more share : ℕ) (r : Row) (q : Queue) → q.len ≡ more → AllReleased share (release_in more share r q)
unfolding release_in
release_in_releases_all zero share r q e = inl e
release_in_releases_all (suc more) share r q e =
    go (fits (oldest_cost q) share r) refl
    (release_in_releases_all more share (charged (oldest_cost q) share r) (popped q) (omega arith))
  where
    rest : Release
    rest = release_in more share (charged (oldest_cost q) share r) (popped q)

    go : (t : Bool) → fits (oldest_cost q) share r ≡ t → AllReleased share rest
        → AllReleased share (cond t (and_first (oldest_id q) rest) (no_release r q))
    go true f w = w
    go false f w = inr f

pub released_releases : (share : ℕ) (r : Row) (q : Queue) → 0 < share → SoundQueue q → Releases share r q (released share r q)
unfolding released
released_releases share r q p sound = go (owes r)
  where
    go : (t : Bool) → Releases share r q (cond t (no_release r q) (release_in q.len share r q))
    go true = releases_none share r q sound
    go false = release_in_releases q.len share r q p sound (le_refl _)

-- what is read of each place moves up by as many as are released, if a pop moves it up by one
module _ (at : Queue → ℕ → ℕ) (up : (q : Queue) (i : ℕ) → at (popped q) i ≡ at q (suc i)) where
  release_in_moves_up : (more share : ℕ) (r : Row) (q : Queue) (i : ℕ)
      → at (release_in more share r q).queue i ≡ at q (length (release_in more share r q).ids + i)
  unfolding release_in
  release_in_moves_up zero share r q i = ap (at q) (omega arith)
  release_in_moves_up (suc more) share r q i =
      go (fits (oldest_cost q) share r) (release_in_moves_up more share (charged (oldest_cost q) share r) (popped q) i)
    where
      rest : Release
      rest = release_in more share (charged (oldest_cost q) share r) (popped q)

      go : (t : Bool) → at rest.queue i ≡ at (popped q) (length rest.ids + i)
          → at (cond t (and_first (oldest_id q) rest) (no_release r q)).queue i
          ≡ at q (length (cond t (and_first (oldest_id q) rest) (no_release r q)).ids + i)
      go true w = w ∙ up q (length rest.ids + i) ∙ ap (at q) (omega arith)
      go false w = ap (at q) (omega arith)

  pub released_moves_up : (share : ℕ) (r : Row) (q : Queue) (i : ℕ)
      → at (released share r q).queue i ≡ at q (length (released share r q).ids + i)
  unfolding released
  released_moves_up share r q i = go (owes r)
    where
      go : (t : Bool) → at (cond t (no_release r q) (release_in q.len share r q)).queue i
          ≡ at q (length (cond t (no_release r q) (release_in q.len share r q)).ids + i)
      go true = ap (at q) (omega arith)
      go false = release_in_moves_up q.len share r q i

-- "if it now owes nothing, waiting bios are released, oldest first, while they fit"
pub released_releases_all : (share : ℕ) (r : Row) (q : Queue) → (owes r ≡ true) ⊎ ((owes r ≡ false) × AllReleased share (released share r q))
unfolding released
released_releases_all share r q = go (owes r)
  where
    go : (t : Bool) → (t ≡ true) ⊎ ((t ≡ false) × AllReleased share (cond t (no_release r q) (release_in q.len share r q)))
    go true = inl refl
    go false = inr (refl, release_in_releases_all q.len share r q refl)

-- ---- the cap
abbrev is_capped : Row → Queue → Bool
is_capped r q = not (owes r) && not (waits q) && ltb idle_cap r.budget.0

-- it leaves a leaf with a waiter, one that owes, and one with no more; it falls on all others
module _ (r : Row) (q : Queue) where
  pub cap_leaves_a_waiter : 0 < q.len → capped r q ≡ r
  unfolding capped
  cap_leaves_a_waiter l =
      let w : not (waits q) ≡ false = rw (lt-ltb 0 q.len l) in
      let e : is_capped r q ≡ false =
      and_not_left (not (owes r) && not (waits q)) (ltb idle_cap r.budget.0) (and_not_right (not (owes r)) (not (waits q)) w) in
      rw e

  pub cap_leaves_a_debtor : 0 < r.debt.0 → capped r q ≡ r
  unfolding capped
  cap_leaves_a_debtor l =
      let e : is_capped r q ≡ false = rw (lt-ltb 0 r.debt.0 l) in
      rw e

  pub cap_leaves_the_small : r.budget.0 ≤ idle_cap → capped r q ≡ r
  unfolding capped
  cap_leaves_the_small l =
      let e : is_capped r q ≡ false =
      and_not_right (not (owes r) && not (waits q)) (ltb idle_cap r.budget.0) (le-ltb idle_cap r.budget.0 l) in
      rw e

  pub cap_falls_on_all_others : r.debt.0 ≡ 0 → q.len ≡ 0 → idle_cap < r.budget.0 → capped r q ≡ with_budget (virt idle_cap) r
  unfolding capped
  cap_falls_on_all_others d n l =
      rw (le-ltb 0 r.debt.0 (omega arith), le-ltb 0 q.len (omega arith), lt-ltb idle_cap r.budget.0 l)

above_cap : (r : Row) (q : Queue) → is_capped r q ≡ true → idle_cap < r.budget.0
above_cap r q e = ltb-true _ _ (and_right (not (owes r) && not (waits q)) (ltb idle_cap r.budget.0) e)

pub capped_pays : (share : ℕ) (r : Row) (q : Queue) → Pays share 0 r (capped r q)
unfolding capped
capped_pays share r q = go (is_capped r q) refl
  where
    go : (t : Bool) → is_capped r q ≡ t → Pays share 0 r (cond t (with_budget (virt idle_cap) r) r)
    go true e =
        let l : idle_cap < r.budget.0 = above_cap r q e in
        record {
          worth = omega (arith, mul-le-mul_right {m = idle_cap} {n = r.budget.0} share (omega arith));
          usage = omega arith;
          end = refl;
          begun = refl;
          accepted = refl;
        }
    go false e = pays_nothing share r

pub capped_debt : (r : Row) (q : Queue) → (capped r q).debt ≡ r.debt
unfolding capped
capped_debt r q = go (is_capped r q)
  where
    go : (t : Bool) → (cond t (with_budget (virt idle_cap) r) r).debt ≡ r.debt
    go true = refl
    go false = refl

pub capped_budget_most : (r : Row) (q : Queue) → (capped r q).budget.0 ≤ r.budget.0
unfolding capped
capped_budget_most r q = go (is_capped r q) refl
  where
    go : (t : Bool) → is_capped r q ≡ t → (cond t (with_budget (virt idle_cap) r) r).budget.0 ≤ r.budget.0
    go true e = let l : idle_cap < r.budget.0 = above_cap r q e in omega arith
    go false e = le_refl _

-- a leaf that owes nothing and has no waiter is left with the cap at most
pub capped_small : (r : Row) (q : Queue) → r.debt.0 ≡ 0 → q.len ≡ 0 → (capped r q).budget.0 ≤ idle_cap
unfolding capped
capped_small r q d n = go (is_capped r q) refl
  where
    go : (t : Bool) → is_capped r q ≡ t → (cond t (with_budget (virt idle_cap) r) r).budget.0 ≤ idle_cap
    go true e = le_refl _
    go false e = ltb-false _ _ (rw (le-ltb 0 r.debt.0 (omega arith), le-ltb 0 q.len (omega arith)) at e)

-- ---- a turn
pub record TurnKeeps (g : Virt) (share : ℕ) (r : Row) (q : Queue) (t : Turn) : Type 0 where
  pub pays : Pays share ((repayment share (gained g r)).0 + cost_of_first q (length t.ids)) (gained g r) t.row
  pub debt : t.row.debt.0 + (repayment share (gained g r)).0 ≡ r.debt.0
  pub left : t.queue.len + length t.ids ≡ q.len
  pub ids : t.ids ≡ ids_of_first q (length t.ids)
  pub costs : cost_of_first q q.len ≡ cost_of_first q (length t.ids) + cost_of_first t.queue t.queue.len
  pub queue : SoundQueue t.queue
  pub worth : t.row.budget.0 * share ≤ worth_most

module _ (g : Virt) (share : ℕ) (r : Row) (q : Queue) (p : 0 < share) (s : share ≤ whole) (sound : SoundQueue q) where
  -- what is left is small: by what is owed, by what waits, or by the cap
  turn_small : (w : Row) → (w.debt.0 ≡ 0) ⊎ (w.budget.0 * share ≤ worth_most)
      → (capped (released share w q).row (released share w q).queue).budget.0 * share ≤ worth_most
  turn_small w little =
      ⊎_elim
      (λ (o : owes w ≡ true).
      ⊎_elim
      (λ (z : w.debt.0 ≡ 0). let l : 0 < w.debt.0 = ltb-true _ _ o in absurd (omega arith))
      (λ (l : w.budget.0 * share ≤ worth_most). omega (arith, l, t.pays.worth, cap.worth))
      little)
      (λ (x : (owes w ≡ false) × AllReleased share (released share w q)).
      ⊎_elim
      (λ (n : (released share w q).queue.len ≡ 0).
      let d : (released share w q).row.debt.0 ≡ 0 = omega (arith, t.debt, ltb-false 0 w.debt.0 x.0) in
      omega (arith, mul-le-mul (capped_small (released share w q).row (released share w q).queue d n) s))
      (λ (f : fits (oldest_cost (released share w q).queue) share (released share w q).row ≡ false).
      omega (
        arith,
        not_fitting_is_small (oldest_cost (released share w q).queue) share (released share w q).row p s
            (oldest_cost_most (released share w q).queue t.queue) f,
        cap.worth,
      ))
      x.1)
      (released_releases_all share w q)
    where
      t : Releases share w q (released share w q)
      t = released_releases share w q p sound

      cap : Pays share 0 (released share w q).row (capped (released share w q).row (released share w q).queue)
      cap = capped_pays share (released share w q).row (released share w q).queue

  pub turn_keeps : TurnKeeps g share r q (turn g share r q)
  unfolding turn
  turn_keeps =
      let w : Row = repaid share (gained g r) in
      let t : Releases share w q (released share w q) = released_releases share w q p sound in
      let cap = capped_pays share (released share w q).row (released share w q).queue in
      let all = pays_then (pays_then (repaid_pays share (gained g r) p) t.pays) cap in
      record {
        pays = record {
          worth = omega (arith, all.worth);
          usage = omega (arith, all.usage);
          end = all.end;
          begun = all.begun;
          accepted = all.accepted;
        };
        debt =
            omega (
              arith,
              t.debt,
              repaid_debt share (gained g r),
              ap (λ (x : Abs). x.0) (capped_debt (released share w q).row (released share w q).queue),
            );
        left = t.left;
        ids = t.ids;
        costs = t.costs;
        queue = t.queue;
        worth = turn_small w (repaid_leaves_nothing_or_little share (gained g r) p);
      }

  -- the debt only falls, and the last end stays
  pub turn_row_sound : SoundRow r → SoundRow (turn g share r q).row
  turn_row_sound w =
      let k = turn_keeps in
      record { debt_at_most = omega (arith, k.debt, w.debt_at_most); end_at_most = rw k.pays.end w.end_at_most }

  -- what a turn charges is paid from what was saved and what came in
  pub turn_flow : ((repayment share (gained g r)).0 + cost_of_first q (length (turn g share r q).ids)) * whole + (turn g share r q).row.budget.0 * share
      ≤ r.budget.0 * share + g.0 * share
  turn_flow = omega (arith, turn_keeps.pays.worth)

-- a leaf that owes nothing more waits for nothing, or its oldest bio does not fit what is left
pub turn_releases_all : (g : Virt) (share : ℕ) (r : Row) (q : Queue) → 0 < share → SoundQueue q → (turn g share r q).row.debt.0 ≡ 0
    → ((turn g share r q).queue.len ≡ 0) ⊎ ((turn g share r q).row.budget.0 < (relative (oldest_cost (turn g share r q).queue) share).0)
unfolding turn
turn_releases_all g share r q p sound z =
    let w : Row = repaid share (gained g r) in
    let t : Releases share w q (released share w q) = released_releases share w q p sound in
    ⊎_elim
    (λ (o : owes w ≡ true).
    let l : 0 < w.debt.0 = ltb-true _ _ o in
    absurd (omega (arith, t.debt, ap (λ (x : Abs). x.0) (capped_debt (released share w q).row (released share w q).queue))))
    (λ (x : (owes w ≡ false) × AllReleased share (released share w q)).
    ⊎_elim
    (λ (n : (released share w q).queue.len ≡ 0). inl n)
    (λ (f : fits (oldest_cost (released share w q).queue) share (released share w q).row ≡ false).
    let l : (released share w q).row.budget.0 < (relative (oldest_cost (released share w q).queue) share).0 = leb-false _ _ f in
    inr (omega (arith, capped_budget_most (released share w q).row (released share w q).queue)))
    x.1)
    (released_releases_all share w q)
