-- Calls in a row are steps of a part, one after the other: what they print and where they end is what the part's steps do.
-- Assumes nothing.
use Rattle.std.specs.Prelude.{◌≡◌, Bool, cond, ◌&&◌, Err, None, Ok, Some, Option}
use Rattle.std.proofs.Math.Path.{refl}
use Rattle.std.proofs.Common.{ap, ◌∙◌}
use Rattle.std.proofs.Math.Bool.{true, false}
use mathlib.Core.List.{List, append_assoc}
use Prim.Native.Nat.{ℕ, zero, suc, ◌+◌, ◌-◌, ◌≤◌, ◌<◌}
use Rattle.std.proofs.Math.Nat.{sub-zero, sub-add-eq}
use native.Mathlib.Omega.{arith}
use Rattle.std.proofs.Math.Dec.{leb}
use Rattle.std.proofs.Math.ListN.{length, length-append}
use borrow.Author.Tests.{leb-true, le-leb, le-ltb}
use Rattle.rules.specs.Numbers.{line_room}
use Rattle.rules.specs.Trace.{behind, read_at}
use Rattle.rules.specs.Replay.{within, goes_on, in_phase, is_stopped, all_room, record_step, read_step, next_place, stepped}
use Rattle.rules.specs.Chunks.{is_end, is_cut, wants_bytes, halts, printed_before, part_from, call_by, call_of, is_call, is_running, runs, calling, Run, still, called_before, run_from}
use Rattle.rules.specs.Invariant.{Sound}
use Rattle.rules.proofs.Laws.Bools.{true_not_false, and_left, and_right}
use Rattle.rules.proofs.Laws.Chunks.{next_at}
use Rattle.rules.proofs.Laws.Trace.{found_only_whole}
use Rattle.rules.proofs.Laws.Settings.{set_keeps}
use Rattle.rules.proofs.Laws.Submits.{submit_keeps}
use Rattle.rules.proofs.Laws.Ticks.{ticked_keeps}
use Rattle.rules.proofs.Laws.Plans.{planned_keeps}
use Rattle.rules.specs.declared.budget.Controller.{Controller}
use Rattle.rules.specs.declared.trace.Record.{Record}
use Rattle.rules.specs.declared.trace.Record.TheVariants.{Node, Model as ModelOf, Start, Bio as BioOf, Tick, Plan, Vrate, Weight}
use Rattle.rules.specs.declared.replay.Call.{Call}
use Rattle.rules.specs.declared.replay.Call.TheVariants.{Bio as CallBio, Tick as CallTick, Plan as CallPlan, Set as CallSet}
use Rattle.rules.specs.declared.replay.Phase.{Phase}
use Rattle.rules.specs.declared.replay.Phase.TheVariants.{Setup, Priced, Running, Stopped}
use Rattle.rules.specs.declared.replay.Replay.{Replay}
use Rattle.rules.specs.Results.{Read, found}

-- ---- one call
pub calling_keeps : (call : Option Call) {c : Controller} → Sound c → Sound (calling call c).state
unfolding calling
calling_keeps (Some (CallBio b)) sound = submit_keeps sound b
calling_keeps (Some (CallTick time)) sound = ticked_keeps sound time all_room
calling_keeps (Some CallPlan) sound = planned_keeps sound
calling_keeps (Some (CallSet x)) sound = set_keeps x sound
calling_keeps None sound = sound

-- the replay with another state
abbrev pub holding : Replay → Controller → Replay
holding s c = within s.phase s.tree s.rates c

in_running : (p : Phase) → is_running p ≡ true → p ≡ Running
in_running Setup e = absurd (true_not_false e refl)
in_running Priced e = absurd (true_not_false e refl)
in_running Running e = refl
in_running Stopped e = absurd (true_not_false e refl)

-- in a replay that runs a call's record is in its phase, and does what the call does
called_step : (r : Record) (next : ℕ) (s : Replay) → s.phase ≡ Running → is_call (call_of (found r next)) ≡ true
    → read_step (found r next) s ≡ goes_on (calling (call_of (found r next)) s.state) s
unfolding is_call call_of call_by calling read_step record_step in_phase
called_step (Node p w) next s e h = absurd (true_not_false h refl)
called_step (ModelOf r) next s e h = absurd (true_not_false h refl)
called_step (Start time) next s e h = absurd (true_not_false h refl)
called_step (BioOf b) next s e h = rw e
called_step (Tick time) next s e h = rw e
called_step Plan next s e h = rw e
called_step (Vrate v) next s e h = rw e
called_step (Weight n w) next s e h = rw e

pub call_steps : (read : Read) (s : Replay) → runs s.phase read ≡ true → read_step read s ≡ goes_on (calling (call_of read) s.state) s
unfolding runs is_call call_of
call_steps (Ok (Some f)) s e =
    called_step f.item f.next s (in_running s.phase (and_left (is_running s.phase) _ e)) (and_right (is_running s.phase) _ e)
call_steps (Ok None) s e = absurd (true_not_false (and_right (is_running s.phase) false e) refl)
call_steps (Err x) s e = absurd (true_not_false (and_right (is_running s.phase) false e) refl)

awake : (p : Phase) → is_running p ≡ true → is_stopped p ≡ false
awake p e = ap is_stopped (in_running p e)

call_stepped : (read : Read) (s : Replay) → runs s.phase read ≡ true → stepped read s ≡ goes_on (calling (call_of read) s.state) s
unfolding stepped runs
call_stepped read s e = rw (awake s.phase (and_left (is_running s.phase) _ e)) (call_steps read s e)

call_halts_not : (last : Bool) (room : ℕ) → line_room ≤ room → (read : Read) (s : Replay) → runs s.phase read ≡ true → halts last read room s ≡ false
unfolding halts runs wants_bytes is_cut is_end is_call call_of
call_halts_not last room l (Ok (Some f)) s e = rw (awake s.phase (and_left (is_running s.phase) _ e), le-ltb room line_room l)
call_halts_not last room l (Ok None) s e = absurd (true_not_false (and_right (is_running s.phase) false e) refl)
call_halts_not last room l (Err x) s e = absurd (true_not_false (and_right (is_running s.phase) false e) refl)

-- ---- a run goes from call to call
module _ (trace : List ℕ) where
  abbrev call_at : ℕ → Option Call
  call_at place = call_of (read_at trace place)

  -- a call's record takes a byte at least
  pub call_moves : (place : ℕ) → is_call (call_at place) ≡ true → (place < next_at trace place) × (next_at trace place ≤ length trace)
  unfolding is_call call_of behind
  call_moves place = go (read_at trace place) refl
    where
      go : (read : Read) → read_at trace place ≡ read → is_call (call_of read) ≡ true → (place < next_place read place) × (next_place read place ≤ length trace)
      go (Ok (Some g)) e h = let f = found_only_whole trace place g.item g.next e in (omega (arith, f.to), omega (arith, f.to, f.inside))
      go (Ok None) e h = absurd (true_not_false h refl)
      go (Err x) e h = absurd (true_not_false h refl)

  -- one way through a run: it stays, or the call here is done and a run with one call less follows
  by_calls : (P : ℕ → ℕ → ℕ → Controller → Run → Type 0)
      → ((n room place : ℕ) (c : Controller) → P n room place c (still place c))
      → ((n room place : ℕ) (c : Controller) (r : Run) → is_call (call_at place) ≡ true → line_room ≤ room
      → P n (room - length (calling (call_at place) c).bytes) (next_at trace place) (calling (call_at place) c).state r
      → P (suc n) room place c (called_before (calling (call_at place) c).bytes r))
      → (n room place : ℕ) (c : Controller) → P n room place c (run_from n trace room place c)
  unfolding run_from
  by_calls P stay one zero room place c = stay 0 room place c
  by_calls P stay one (suc n) room place c =
      go (is_call (call_at place)) refl (leb line_room room) refl (by_calls P stay one n _ _ _)
    where
      go : (a : Bool) → is_call (call_at place) ≡ a → (b : Bool) → leb line_room room ≡ b → {r : Run}
          → P n (room - length (calling (call_at place) c).bytes) (next_at trace place) (calling (call_at place) c).state r
          → P (suc n) room place c (cond (a && b) (called_before (calling (call_at place) c).bytes r) (still place c))
      go true e true l on = one n room place c _ e (leb-true line_room room l) on
      go true e false l on = stay (suc n) room place c
      go false e b l on = stay (suc n) room place c

  pub run_keeps : (n room place : ℕ) {c : Controller} → Sound c → Sound (run_from n trace room place c).state
  run_keeps n room place {c} =
      by_calls (λ n room place c r. Sound c → Sound r.state)
      (λ n room place c h. h)
      (λ n room place c r e l on h. on (calling_keeps (call_at place) h))
      n room place c

  pub run_inside : (n room place : ℕ) (c : Controller) → place ≤ length trace → (place ≤ (run_from n trace room place c).place) × ((run_from n trace room place c).place ≤ length trace)
  run_inside =
      by_calls (λ n room place c r. place ≤ length trace → (place ≤ r.place) × (r.place ≤ length trace))
      (λ n room place c h. (omega arith, h))
      (λ n room place c r e l on h. let m = call_moves place e in let i = on m.1 in (omega (arith, m.0, i.0), i.1))

  -- the call here is done, and a run with one call less follows
  pub run_goes : (n room place : ℕ) (c : Controller) → 0 < n → is_call (call_at place) ≡ true → line_room ≤ room
      → run_from n trace room place c
      ≡ called_before (calling (call_at place) c).bytes
      (run_from (n - 1) trace (room - length (calling (call_at place) c).bytes) (next_at trace place) (calling (call_at place) c).state)
  unfolding run_from
  run_goes zero room place c h e l = absurd (omega arith)
  run_goes (suc more) room place c h e l = let m : suc more - 1 ≡ more = omega arith in rw (e, le-leb line_room room l, m)

  pub run_moves : (n room place : ℕ) (c : Controller) → 0 < n → is_call (call_at place) ≡ true → line_room ≤ room
      → (place < (run_from n trace room place c).place) × ((run_from n trace room place c).place ≤ length trace)
  run_moves n room place c h e l =
      let m = call_moves place e in
      let i =
      run_inside (n - 1) (room - length (calling (call_at place) c).bytes) (next_at trace place) (calling (call_at place) c).state m.1 in
      rw (run_goes n room place c h e l) (omega (arith, m.0, i.0), i.1)

-- ---- a run is the next steps of a part
module _ (last : Bool) (trace : List ℕ) where
  -- the steps that a part has left are enough for what is left of its trace
  abbrev pub Enough : ℕ → ℕ → Type 0
  Enough steps place = (1 ≤ steps) × (1 + length trace ≤ place + steps)

  pub record Continues (f room place : ℕ) (s : Replay) (r : Run) : Type 0 where
    pub steps : ℕ
    pub all : part_from (suc f) last trace room place s
        ≡ printed_before r.bytes (part_from (suc steps) last trace (room - length r.bytes) r.place (holding s r.state))
    pub enough : Enough steps r.place

  call_goes : (f room place : ℕ) (s : Replay) → runs s.phase (read_at trace place) ≡ true → line_room ≤ room
      → part_from (suc f) last trace room place s
      ≡ printed_before (calling (call_of (read_at trace place)) s.state).bytes
      (part_from f last trace (room - length (calling (call_of (read_at trace place)) s.state).bytes) (next_at trace place)
      (holding s (calling (call_of (read_at trace place)) s.state).state))
  unfolding part_from
  call_goes f room place s h l = rw (call_halts_not last room l (read_at trace place) s h, call_stepped (read_at trace place) s h)

  -- no call more: the part is where it was
  stays_on : (f room place : ℕ) (s : Replay) → Enough f place → Continues f room place s (still place s.state)
  stays_on f room place s enough = record { steps = f; all = rw sub-zero; enough = enough }

  pub run_continues : (n f room place : ℕ) (s : Replay) → is_running s.phase ≡ true → Enough f place
      → Continues f room place s (run_from n trace room place s.state)
  unfolding runs
  run_continues n f room place s on enough =
      by_calls trace
      (λ n room place c r. (f : ℕ) → Enough f place → Continues f room place (holding s c) r)
      (λ n room place c f h. stays_on f room place (holding s c) h)
      (λ n room place c r e l next f h. one room place c r e l next f h)
      n room place s.state f enough
    where
      one : (room place : ℕ) (c : Controller) (r : Run) → is_call (call_of (read_at trace place)) ≡ true → line_room ≤ room
          → ((f : ℕ) → Enough f (next_at trace place)
          → Continues f (room - length (calling (call_of (read_at trace place)) c).bytes) (next_at trace place)
          (holding s (calling (call_of (read_at trace place)) c).state) r)
          → (f : ℕ) → Enough f place
          → Continues f room place (holding s c) (called_before (calling (call_of (read_at trace place)) c).bytes r)
      one room place c r e l next zero h = absurd (omega (arith, h.0))
      one room place c r e l next (suc f) h =
          let m = call_moves trace place e in
          let k = next f (omega (arith, m.1, h.1, m.0), omega (arith, m.0, h.1)) in
          let both : runs s.phase (read_at trace place) ≡ true = rw (on, e) in
          record {
            steps = k.steps;
            all = call_goes (suc f) room place (holding s c) both l ∙ rw (k.all, append_assoc, length-append, sub-add-eq);
            enough = k.enough;
          }
