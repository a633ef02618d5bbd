-- Releasing one bio after the other: what was written so far, with the release from here on behind it, is the whole release.
-- Assumes nothing.
use mathlib.Core.Path.{◌≡◌, refl, sym, ap, ◌∙◌}
use mathlib.Core.Bool.{Bool, true, false}
use mathlib.Core.List.{List, [], ◌∷◌, ◌++◌, append_assoc, append-nil}
use Prim.Native.Nat.{ℕ, zero, suc, ◌+◌, ◌-◌, ◌≤◌, ◌<◌}
use native.Mathlib.Numerals.{add-one}
use native.Mathlib.Omega.{arith}
use lib.ListN.{length, get_or, take, drop, set, length-set, take-append-drop}
use lib.Seq.{length-take-le, take-suc-set, drop-set-lt, drop-drop}
use borrow.Author.Tests.{ltb-false}
use Rattle.rules.specs.Units.{abs}
use Rattle.rules.specs.Budget.{popped, oldest_id, oldest_cost, charged, owes, fits}
use Rattle.rules.specs.Tick.{Release, no_release, repayment, repaid, release_in, lent_after}
use Rattle.rules.proofs.Laws.Queues.{popped_sound, oldest_cost_most}
use Rattle.rules.proofs.Laws.Rows.{repayment_of_nothing}
use Rattle.rules.specs.declared.units.Abs.{Abs}
use Rattle.rules.specs.declared.budget.Row.{Row}
use Rattle.rules.specs.declared.budget.Queue.{Queue}
use Rattle.leaf.specs.Fit.{CanRelease}
use Rattle.leaf.specs.Turns.{cut, Releases}

-- a release that goes on after some ids were written
abbrev pub and_then : List ℕ → Release → Release
and_then ids t = record { row = t.row; queue = t.queue; ids = ids ++ t.ids }

-- ---- the rule, one bio at a time
module _ (share : ℕ) (row : Row) (queue : Queue) where
  pub nothing_waits : queue.len ≡ 0 → release_in queue.len share row queue ≡ no_release row queue
  unfolding release_in
  nothing_waits e = rw e

  pub first_does_not_fit : fits (oldest_cost queue) share row ≡ false → release_in queue.len share row queue ≡ no_release row queue
  unfolding release_in
  first_does_not_fit f = go queue.len
    where
      go : (more : ℕ) → release_in more share row queue ≡ no_release row queue
      go zero = refl
      go (suc more) = rw f

  first_fits : 0 < queue.len → fits (oldest_cost queue) share row ≡ true
      → release_in queue.len share row queue
      ≡ and_then (oldest_id queue ∷ []) (release_in (popped queue).len share (charged (oldest_cost queue) share row) (popped queue))
  unfolding release_in
  first_fits some f =
      let e : queue.len ≡ suc (queue.len - 1) = omega arith in
      ap (λ (more : ℕ). release_in more share row queue) e ∙ rw f

pub cost_is_oldest : (queue : Queue) {at : ℕ} → at ≡ queue.head → get_or queue.costs at (abs 0) ≡ oldest_cost queue
cost_is_oldest queue e = rw e

pub id_is_oldest : (queue : Queue) {at : ℕ} → at ≡ queue.head → get_or queue.ids at 0 ≡ oldest_id queue
id_is_oldest queue e = rw e

-- ---- the loop
-- the first `count` places of `out` were written, and the row and the queue are what that left
pub record Going (share : ℕ) (row₀ : Row) (queue₀ : Queue) (out₀ : List ℕ) (row : Row) (queue : Queue) (out : List ℕ) (count : ℕ) : Type 0 where
  pub ready : CanRelease share row queue
  pub room : queue.len + count ≤ length out₀
  pub size : length out ≡ length out₀
  pub behind : drop count out ≡ drop count out₀
  pub whole : release_in queue₀.len share row₀ queue₀ ≡ and_then (take count out) (release_in queue.len share row queue)

pub begins : (share : ℕ) (row : Row) (queue : Queue) (out : List ℕ) → CanRelease share row queue → queue.len ≤ length out
    → Going share row queue out row queue out 0
begins share row queue out ready room =
    record { ready = ready; room = omega arith; size = refl; behind = refl; whole = refl }

module _ {share : ℕ} {row₀ : Row} {queue₀ : Queue} {out₀ : List ℕ} {row : Row} {queue : Queue} {out : List ℕ} {count : ℕ}
    (going : Going share row₀ queue₀ out₀ row queue out count) where
  -- what the test says of the cost that was read is said of the oldest
  pub first_told : {cost : Abs} {fit told : Bool} → cost ≡ oldest_cost queue → fit ≡ fits cost share row → fit ≡ told
      → fits (oldest_cost queue) share row ≡ told
  first_told e f t = ap (λ (cost : Abs). fits cost share row) (sym e) ∙ sym f ∙ t

  one_more : 0 < queue.len → fits (oldest_cost queue) share row ≡ true
      → Going share row₀ queue₀ out₀ (charged (oldest_cost queue) share row) (popped queue) (set out count (oldest_id queue)) (count + 1)
  one_more some f =
      let cheap = oldest_cost_most queue going.ready.waiting in
      let inside : count < length out = omega (arith, going.room, going.size) in
      record {
        ready = record {
          held = going.ready.held;
          waiting = popped_sound queue going.ready.waiting;
          usage = omega (arith, going.ready.usage);
        };
        room = omega (arith, going.room);
        size = rw length-set going.size;
        behind =
            drop-set-lt (count + 1) out count (oldest_id queue) (omega arith)
            ∙ sym (drop-drop 1 count out) ∙ ap (drop 1) going.behind ∙ drop-drop 1 count out₀;
        whole =
            going.whole ∙ ap (and_then (take count out)) (first_fits share row queue some f)
            ∙ rw (add-one count, take-suc-set out count (oldest_id queue) inside, append_assoc);
      }

  pub goes_on : {cost : Abs} {id head at len : ℕ} {next : Row} → 0 < queue.len → fits (oldest_cost queue) share row ≡ true
      → cost ≡ oldest_cost queue → id ≡ oldest_id queue → next ≡ charged cost share row → head ≡ (popped queue).head
      → len ≡ queue.len - 1 → at ≡ count
      → Going share row₀ queue₀ out₀ next (cut queue head len) (set out at id) (count + 1)
  goes_on some f e i n h l a = rw (n, h, i, e, l, a) (one_more some f)

  pub ends : release_in queue.len share row queue ≡ no_release row queue → {len told : ℕ} → len ≡ queue.len → told ≡ count
      → Releases (release_in queue₀.len share row₀ queue₀) out₀ (record { row = row; head = queue.head; len = len; count = told }) out
  unfolding lent_after
  ends e l t =
      let size : length (take count out) ≡ count = length-take-le count out (omega (arith, going.room, going.size)) in
      let all : release_in queue₀.len share row₀ queue₀ ≡ record { row = row; queue = queue; ids = take count out } =
      going.whole ∙ ap (and_then (take count out)) e ∙ rw append-nil in (
        rw (l, t, all, size),
        rw (all, size, ← going.behind) (sym (take-append-drop count out)),
      )

-- ---- the row alone, stage by stage
-- who owes nothing repays nothing
pub nothing_owed : (share : ℕ) (row : Row) → owes row ≡ false → (row ≡ repaid share row) × (abs 0 ≡ repayment share row)
unfolding repaid
nothing_owed share row e =
    (rw e, ap abs (sym (repayment_of_nothing share row (omega (arith, ltb-false 0 row.debt.0 e)))))
