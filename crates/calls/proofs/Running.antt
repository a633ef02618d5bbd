-- Calls in a row: at the loop's head, what was called so far stands at the front, and the rest of the run is still to come.
-- Assumes nothing.
use Rattle.std.proofs.Common.{◌≡◌, refl, sym, ap, ◌∙◌, Bool, true, false, ◌&&◌, List, [], ◌++◌, append_assoc, ℕ, zero, suc, ◌+◌, ◌-◌, ◌≤◌, ◌<◌, length, arith}
use Rattle.std.specs.Prelude.{Option, Some, None}
use mathlib.Core.List.{append-nil}
use borrow.Author.Tests.{lt-leb}
use Rattle.rules.specs.Numbers.{line_room}
use Rattle.rules.specs.Trace.{read_at}
use Rattle.rules.specs.Replay.{next_place, all_room}
use Rattle.rules.specs.Chunks.{call_of, is_call, calling, still, called_before, run_from}
use Rattle.rules.specs.Invariant.{Sound}
use Rattle.rules.specs.Buffers.{Written, Stands, rest_of, put_back}
use Rattle.rules.specs.Results.{Read}
use Rattle.rules.proofs.Laws.Buffers.{stands_none, stands_kept, stands_fits, stands_more}
use Rattle.rules.proofs.Laws.Runs.{calling_keeps, run_goes}
use Rattle.rules.specs.declared.budget.Controller.{Controller}
use Rattle.rules.specs.declared.replay.Call.{Call}
use Rattle.calls.specs.Calls.{Answers, RanAs}

-- ---- one turn of a run
neither : (b : Bool) → (b && false) ≡ false
neither true = refl
neither false = refl

module _ (trace : List ℕ) (room at : ℕ) (c : Controller) where
  ends_here : (left : ℕ) → is_call (call_of (read_at trace at)) ≡ false → run_from left trace room at c ≡ still at c
  unfolding run_from
  ends_here zero e = refl
  ends_here (suc more) e = rw e

  ends_full : (left : ℕ) → room < line_room → run_from left trace room at c ≡ still at c
  unfolding run_from
  ends_full zero l = refl
  ends_full (suc more) l = rw (lt-leb line_room room l, neither (is_call (call_of (read_at trace at))))

  ends_spent : (left : ℕ) → left ≡ 0 → run_from left trace room at c ≡ still at c
  unfolding run_from
  ends_spent zero e = refl
  ends_spent (suc more) e = absurd (omega arith)

-- ---- the loop
pub record Running (trace o₀ : List ℕ) (most place : ℕ) (c₀ : Controller) (o ids : List ℕ) (c : Controller) (at count left : ℕ) : Type 0 where
  pub places : length ids ≡ 504
  pub bytes : List ℕ
  pub front : Stands bytes o₀ o count
  pub sound : Sound c
  pub same : run_from most trace (length o₀) place c₀ ≡ called_before bytes (run_from left trace (length o₀ - count) at c)

pub begun : (trace o₀ : List ℕ) (most place : ℕ) (c : Controller) → Sound c → Running trace o₀ most place c o₀ all_room c place 0 (most - 0)
begun trace o₀ most place c sound =
    let all : length o₀ - 0 ≡ length o₀ = omega arith in
    let each : most - 0 ≡ most = omega arith in
    record {
      places = refl;
      bytes = [];
      front = stands_none o₀;
      sound = sound;
      same = rw (all, each);
    }

module _ {trace o₀ : List ℕ} {most place : ℕ} {c₀ : Controller} {o ids : List ℕ} {c : Controller} {at count left : ℕ}
    (v : Running trace o₀ most place c₀ o ids c at count left) where
  -- what the run is, if it ends here
  abbrev RanHere : Type 0
  RanHere = RanAs (run_from most trace (length o₀) place c₀) (record { count = count; place = at; state = c }) o₀ o

  ran : run_from left trace (length o₀ - count) at c ≡ still at c → RanHere
  ran e =
      let all : run_from most trace (length o₀) place c₀ ≡ called_before v.bytes (still at c) = v.same ∙ ap (called_before v.bytes) e in
      record { lines = rw (all, append-nil) v.front.front; place = rw all; state = rw all }

  pub spent : left ≡ 0 → RanHere
  spent z = ran (ends_spent trace (length o₀ - count) at c left z)

  pub full : length o - count < line_room → RanHere
  full z = ran (ends_full trace (length o₀ - count) at c left (rw (stands_kept v.front) at z))

  module _ {read : Read} {asked : Option Call} (e : read ≡ read_at trace at) (k : asked ≡ call_of read) where
    pub no_call : asked ≡ None → RanHere
    unfolding is_call
    no_call i =
        let here : call_of (read_at trace at) ≡ None = ap call_of (sym e) ∙ sym k ∙ i in
        ran (ends_here trace (length o₀ - count) at c left (rw here))

    pub called : (call : Call) {next : ℕ} {d : Controller} → 0 < left → line_room ≤ length o - count → asked ≡ Some call
        → next ≡ next_place read at → (r : ℕ) (ys : List ℕ) → Answers call c r (rest_of o count) ys d
        → length ys ≡ length (rest_of o count) → {ids' : List ℕ} → length ids' ≡ 504 → {left' : ℕ} → left' ≡ left - 1
        → Running trace o₀ most place c₀ (put_back o count ys) ids' d next (count + r) left'
    unfolding is_call
    called call {next} {d} some room i n r ys answered l long less_left =
        let w : Written (calling (Some call) c).bytes r (rest_of o count) ys = answered.0 in
        let here : call_of (read_at trace at) ≡ Some call = ap call_of (sym e) ∙ sym k ∙ i in
        let wide : line_room ≤ length o₀ - count = rw (stands_kept v.front) at room in
        let turn = run_goes trace left (length o₀ - count) at c some (rw here) wide in
        let less : length o₀ - count - length (calling (Some call) c).bytes ≡ length o₀ - (count + r) = omega (arith, w.0) in
        rw less_left
        (record {
          places = long;
          bytes = v.bytes ++ (calling (Some call) c).bytes;
          front = stands_more v.front (calling (Some call) c).bytes ys r w (stands_fits v.front (calling (Some call) c).bytes ys r w l);
          sound = rw answered.1 (calling_keeps (Some call) v.sound);
          same = v.same ∙ ap (called_before v.bytes) turn ∙ rw (here, ← e, ← n, ← answered.1, less, append_assoc);
        })
