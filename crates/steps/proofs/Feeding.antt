-- A chunk on the way: what was printed of it so far, what is left of it, and that the steps counted for it are enough.
-- Assumes nothing.
use mathlib.Core.Path.{◌≡◌, refl, sym, ap, ◌∙◌}
use mathlib.Core.Bool.{Bool, true, false, cond}
use mathlib.Core.List.{List, [], ◌++◌, append-nil, append_assoc}
use Prim.Native.Nat.{ℕ, zero, suc, ◌+◌, ◌-◌, ◌≤◌, ◌<◌}
use native.Mathlib.Nat.{sub-zero, sub-add-eq}
use native.Mathlib.Omega.{arith}
use lib.ListN.{length}
use borrow.Author.Tests.{ltb-false}
use Rattle.rules.specs.Numbers.{refusal_room, line_room}
use Rattle.rules.specs.Trace.{read_at}
use Rattle.rules.specs.Replay.{is_stopped, read_step, next_place, stepped}
use Rattle.rules.specs.Chunks.{Run, call_of, is_call, is_running, runs, run_from, is_end, wants_bytes, halts, pause_of, nothing, printed_before, part_from, part, fed}
use Rattle.rules.specs.Invariant.{Playing}
use Rattle.rules.specs.Buffers.{Stands, rest_of, put_back}
use Rattle.rules.proofs.Laws.Bools.{never, true_not_false, and_left, and_right, or_not_left, or_not_right}
use Rattle.rules.proofs.Laws.Buffers.{stands_none, stands_kept, stands_rest, stands_fits, stands_more}
use Rattle.rules.proofs.Laws.Replays.{read_step_plays}
use Rattle.rules.proofs.Laws.Runs.{Continues, holding, call_moves, run_keeps, run_continues, run_moves}
use Rattle.rules.proofs.Laws.Chunks.{going_steps, step_at, next_at, AfterStep, after_a_step, part_inside}
use Rattle.rules.proofs.Laws.Chunks.AfterStep.{goes_on, stops, ends}
use Rattle.calls.specs.Calls.{RanAs}
use Rattle.std.specs.Prelude.{Option, Some, None}
use Rattle.steps.specs.Fed.{paused, Feeds}
use Rattle.steps.specs.OneStep.{DoesStep}
use Rattle.rules.specs.declared.replay.Replay.{Replay}
use Rattle.rules.specs.declared.replay.Pause.{Pause}
use Rattle.rules.specs.declared.replay.Ran.{Ran}
use Rattle.rules.specs.Results.{Read}

-- ---- one step of a part
module _ (f : ℕ) (last : Bool) (trace : List ℕ) (room at : ℕ) (s : Replay) where
  part_halts : halts last (read_at trace at) room s ≡ true → part_from (suc f) last trace room at s ≡ nothing at s
  unfolding part_from
  part_halts e = rw e

  part_goes : halts last (read_at trace at) room s ≡ false
      → part_from (suc f) last trace room at s
      ≡ printed_before (step_at trace at s).bytes
      (part_from f last trace (room - length (step_at trace at s).bytes) (next_at trace at) (step_at trace at s).replay)
  unfolding part_from
  part_goes e = rw e

-- what is known of a replay that does not halt
record Unhalted (read : Read) (room : ℕ) (s : Replay) : Type 0 where
  on : is_stopped s.phase ≡ false
  there : is_end read ≡ false
  wide : line_room ≤ room

unhalted : (last : Bool) (read : Read) (room : ℕ) (s : Replay) → halts last read room s ≡ false → Unhalted read room s
unfolding halts
unhalted last read room s e =
    let here = or_not_right (wants_bytes last read) _ (or_not_right (is_stopped s.phase) _ e) in
    record {
      on = or_not_left (is_stopped s.phase) _ e;
      there = or_not_left (is_end read) _ here;
      wide = ltb-false room line_room (or_not_right (is_end read) _ here);
    }

-- ---- the code's test, which says why where it halts
module _ (last : Bool) (read : Read) (room : ℕ) (s : Replay) {o : Option Pause} (e : o ≡ paused last read room s) where
  pub goes_on_there : o ≡ None → halts last read room s ≡ false
  unfolding paused
  goes_on_there i = go (halts last read room s) refl (sym e ∙ i)
    where
      go : (b : Bool) → halts last read room s ≡ b → ◌≡◌ {A = Option Pause} (cond b (Some (pause_of last read s)) None) None → halts last read room s ≡ false
      go true h k = never (cc)
      go false h k = h

  pub halts_there : {p : Pause} → o ≡ Some p → (halts last read room s ≡ true) × (p ≡ pause_of last read s)
  unfolding paused
  halts_there {p} i = go (halts last read room s) refl (sym e ∙ i)
    where
      go : (b : Bool) → halts last read room s ≡ b → ◌≡◌ {A = Option Pause} (cond b (Some (pause_of last read s)) None) (Some p)
          → (halts last read room s ≡ true) × (p ≡ pause_of last read s)
      go true h k = (h, cc)
      go false h k = never (cc)

-- ---- the loop over a chunk: these bytes were printed, and what follows them is what these steps and one more make of the rest.
-- A replay that has not stopped has a step for each byte that is left, so the one more is there to halt in.
pub record Feeding (last : Bool) (trace : List ℕ) (place : ℕ) (s₀ : Replay) (o₀ o : List ℕ) (at count : ℕ) (s : Replay) : Type 0 where
  pub steps : ℕ
  pub bytes : List ℕ
  pub front : Stands bytes o₀ o count
  pub all : part last trace (length o₀) place s₀ ≡ printed_before bytes (part_from (suc steps) last trace (length o₀ - count) at s)
  pub enough : is_stopped s.phase ≡ false → (1 ≤ steps) × (1 + length trace ≤ at + steps)
  pub plays : Playing s

-- it falls with each step
abbrev pub left : List ℕ → ℕ → Replay → ℕ
left trace at s = cond (is_stopped s.phase) 0 (suc (length trace - at))

pub begun : (last : Bool) (trace : List ℕ) (place : ℕ) (s : Replay) (o : List ℕ) → Playing s → Feeding last trace place s o o place 0 s
unfolding part
begun last trace place s o plays = record {
  steps = suc (length trace);
  bytes = [];
  front = stands_none o;
  all = let e : 2 + length trace ≡ suc (suc (length trace)) = omega arith in rw (e, sub-zero);
  enough = λ e. (omega arith, omega arith);
  plays = plays;
}

module _ {last : Bool} {trace : List ℕ} {place : ℕ} {s₀ : Replay} {o₀ o : List ℕ} {at count : ℕ} {s : Replay}
    (v : Feeding last trace place s₀ o₀ o at count s) {read : Read} (found : read ≡ read_at trace at) where
  -- the tests of the code are of what is left of the buffer, those of the rule of its room
  told : (b : Bool) → halts last read (length o - count) s ≡ b → halts last (read_at trace at) (length o₀ - count) s ≡ b
  told b e = rw (← found, ← stands_kept v.front) e

  module _ (goes : halts last read (length o - count) s ≡ false) where
    known : Unhalted read (length o - count) s
    known = unhalted last read (length o - count) s goes

    asks : line_room ≤ length (rest_of o count)
    asks = rw (stands_rest v.front, ← stands_kept v.front) known.wide

    pub asks_little : refusal_room ≤ length (rest_of o count)
    asks_little = omega (arith, asks)

    step_is : stepped (read_at trace at) s ≡ read_step read s
    step_is = rw (← found) (going_steps read s known.on)

    moves : is_stopped (read_step read s).replay.phase ≡ false → (at < next_place read at) × (next_place read at ≤ length trace)
    unfolding is_end
    moves e = rw found (go (after_a_step trace at s))
      where
        go : AfterStep trace at s → (at < next_place (read_at trace at) at) × (next_place (read_at trace at) at ≤ length trace)
        go (goes_on a b) = (a, b)
        go (stops f) = absurd (true_not_false (rw step_is at f) e)
        go (ends f) = absurd (true_not_false refl (rw (found, f) at known.there))

    more : (g : ℕ) → v.steps ≡ suc g
        → part last trace (length o₀) place s₀
        ≡ printed_before (v.bytes ++ (read_step read s).bytes)
        (part_from (suc g) last trace (length o₀ - (count + length (read_step read s).bytes)) (next_place read at)
        (read_step read s).replay)
    more g e =
        v.all ∙ ap (printed_before v.bytes) (part_goes v.steps last trace (length o₀ - count) at s (told false goes))
        ∙ rw (e, step_is, ← found, ← sub-add-eq, append_assoc)

    module _ {r : ℕ} {after : Replay} {ys : List ℕ} (kept : length ys ≡ length (rest_of o count))
        (does : DoesStep (read_step read s) r after (rest_of o count) ys) where
      pub steps_on : {at' : ℕ} → at' ≡ next_place read at → Feeding last trace place s₀ o₀ (put_back o count ys) at' (count + r) after
      steps_on {at'} to = go v.steps refl (v.enough known.on)
        where
          go : (f : ℕ) → v.steps ≡ f → (1 ≤ f) × (1 + length trace ≤ at + f)
              → Feeding last trace place s₀ o₀ (put_back o count ys) at' (count + r) after
          go zero e few = absurd (omega (arith, few.0))
          go (suc g) e few = record {
            steps = g;
            bytes = v.bytes ++ (read_step read s).bytes;
            front = stands_more v.front (read_step read s).bytes ys r does.0 (stands_fits v.front (read_step read s).bytes ys r does.0 kept);
            all = rw (to, does.1, does.0.0) (more g e);
            enough = λ on. let m = moves (rw does.1 at on) in (omega (arith, m.0, m.1, few.1), omega (arith, m.0, m.1, few.1));
            plays = rw does.1 (read_step_plays read s v.plays);
          }

      pub falls : {at' : ℕ} → at' ≡ next_place read at → left trace at' after < left trace at s
      falls {at'} to = rw (known.on, does.1) (go (is_stopped (read_step read s).replay.phase) refl)
        where
          go : (b : Bool) → is_stopped (read_step read s).replay.phase ≡ b
              → cond b 0 (suc (length trace - at')) < suc (length trace - at)
          go true e = omega arith
          go false e = let m = moves e in omega (arith, m.0, m.1)

    -- calls by the run: they are the next steps of the part
    module _ {b : Bool} (f : b ≡ runs s.phase read) (t : b ≡ true) (n : ℕ) where
      on : runs s.phase read ≡ true
      on = sym f ∙ t

      is : is_call (call_of (read_at trace at)) ≡ true
      unfolding runs
      is = rw found at (and_right (is_running s.phase) (is_call (call_of read)) on)

      awake : is_running s.phase ≡ true
      unfolding runs
      awake = and_left (is_running s.phase) (is_call (call_of read)) on

      abbrev here : Run
      here = run_from n trace (length (rest_of o count)) at s.state

      continues : Continues last trace v.steps (length (rest_of o count)) at s here
      continues = run_continues last trace n v.steps (length (rest_of o count)) at s awake (v.enough known.on)

      module _ {r : Ran} {ys : List ℕ} (kept : length ys ≡ length (rest_of o count)) (ran : RanAs here r (rest_of o count) ys) where
        pub run_steps : Feeding last trace place s₀ o₀ (put_back o count ys) r.place (count + r.count) (holding s r.state)
        run_steps = record {
          steps = continues.steps;
          bytes = v.bytes ++ here.bytes;
          front = stands_more v.front here.bytes ys r.count ran.lines (stands_fits v.front here.bytes ys r.count ran.lines kept);
          all =
              v.all ∙ ap (printed_before v.bytes) (ap (λ (room : ℕ). part_from (suc v.steps) last trace room at s) (sym (stands_rest v.front)) ∙ continues.all)
              ∙ rw (ran.place, ran.state, ran.lines.0, sub-add-eq, ← stands_rest v.front, append_assoc);
          enough = λ e. rw ran.place continues.enough;
          plays = record {
            least = v.plays.least;
            most = v.plays.most;
            up = v.plays.up;
            state = rw ran.state (run_keeps trace n (length (rest_of o count)) at v.plays.state);
          };
        }

        pub run_falls : n ≡ length trace → left trace r.place (holding s r.state) < left trace at s
        run_falls all =
            let first = call_moves trace at is in
            let m = run_moves trace n (length (rest_of o count)) at s.state (omega (arith, first.0, first.1)) is asks in
            rw known.on (omega (arith, ran.place, m.0, m.1))

  module _ (halted : halts last read (length o - count) s ≡ true) where
    ended : part last trace (length o₀) place s₀ ≡ printed_before v.bytes (nothing at s)
    ended = v.all ∙ ap (printed_before v.bytes) (part_halts v.steps last trace (length o₀ - count) at s (told true halted))

    pub feeds : (pause : Pause) → pause ≡ pause_of last read s
        → Feeds last trace place s₀ (record { pause = pause; place = at; count = count; replay = s }) o₀ o
    unfolding fed
    feeds pause e = record {
      answers = rw (ended, append-nil, e, found, v.front.front.0);
      lines = rw (ended, append-nil) v.front.front;
      playing = v.plays;
      fits = v.front.within;
      inside = λ h. rw ended at (part_inside last trace (length o₀) place s₀ h);
    }
