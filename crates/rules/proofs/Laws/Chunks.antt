-- What a part of a trace keeps, prints and leaves: it keeps what every replay keeps, prints what the whole trace prints
-- there, and goes as far as its bytes and its room let it.
-- Assumes nothing.
use Rattle.std.specs.Prelude.{◌≡◌, Bool, cond, ◌||◌, ◌⊎◌, List, [], ◌++◌, Err, None, Ok, Some}
use Rattle.std.proofs.Math.Path.{refl}
use Rattle.std.proofs.Common.{sym, ap, ◌∙◌, append-nil, append_assoc, arith, length-append, ltb-true}
use Rattle.std.proofs.Math.Bool.{true, false}
use Rattle.std.proofs.Math.Logic.{inl, inr, ⊎_elim}
use Prim.Native.Nat.{ℕ, zero, suc, ◌+◌, ◌-◌, ◌≤◌, ◌<◌}
use Rattle.std.proofs.Math.Nat.{sub-zero, sub-add-eq}
use Rattle.std.proofs.Math.ListN.{length}
use Rattle.rules.specs.Numbers.{line_room}
use Rattle.rules.specs.Trace.{behind, read_at}
use Rattle.rules.specs.Replay.{Step, is_stopped, silent, beginning, read_step, next_place, stepped, replay_from, replay}
use Rattle.rules.specs.Chunks.{is_end, wants_bytes, halts, pause_of, Part, nothing, printed_before, part_from, part, fed}
use Rattle.rules.specs.Invariant.{Playing}
use Rattle.rules.proofs.Laws.Bools.{never, true_not_false, or_left, or_not_left, or_not_right}
use Rattle.rules.proofs.Laws.Trace.{found_only_whole}
use Rattle.rules.proofs.Laws.Replays.{stepped_plays}
use Rattle.rules.specs.declared.replay.Replay.{Replay}
use Rattle.rules.specs.declared.replay.Pause.TheVariants.{Over, Bytes, Room}
use Rattle.rules.specs.Results.{Read}

abbrev pub step_at : List ℕ → ℕ → Replay → Step
step_at trace place s = stepped (read_at trace place) s

abbrev pub next_at : List ℕ → ℕ → ℕ
next_at trace place = next_place (read_at trace place) place

-- ---- a step by the phase, and at the end
stopped_steps : (read : Read) (s : Replay) → is_stopped s.phase ≡ true → stepped read s ≡ silent s
unfolding stepped
stopped_steps read s e = rw e

pub going_steps : (read : Read) (s : Replay) → is_stopped s.phase ≡ false → stepped read s ≡ read_step read s
unfolding stepped
going_steps read s e = rw e

end_steps : (s : Replay) → stepped (Ok None) s ≡ silent s
unfolding stepped read_step
end_steps s = go (is_stopped s.phase)
  where
    go : (b : Bool) → cond b (silent s) (silent s) ≡ silent s
    go true = refl
    go false = refl

-- what a step leads to: a record takes a byte at least, and where none can be read the replay stops
pub data AfterStep (trace : List ℕ) (place : ℕ) (s : Replay) : Type 0 where
  goes_on : place < next_at trace place → next_at trace place ≤ length trace → AfterStep trace place s
  stops : is_stopped (step_at trace place s).replay.phase ≡ true → AfterStep trace place s
  ends : read_at trace place ≡ Ok None → AfterStep trace place s

pub after_a_step : (trace : List ℕ) (place : ℕ) (s : Replay) → AfterStep trace place s
unfolding read_step behind
after_a_step trace place s = by_phase (is_stopped s.phase) refl
  where
    by_read : is_stopped s.phase ≡ false → (read : Read) → read_at trace place ≡ read → AfterStep trace place s
    by_read g (Ok (Some h)) e =
        let f = found_only_whole trace place h.item h.next e in
        goes_on (rw e (omega (arith, f.to))) (rw e (omega (arith, f.to, f.inside)))
    by_read g (Ok None) e = ends e
    by_read g (Err x) e = stops (rw (e, going_steps (Err x) s g))

    by_phase : (b : Bool) → is_stopped s.phase ≡ b → AfterStep trace place s
    by_phase true e = stops (rw (stopped_steps (read_at trace place) s e) e)
    by_phase false e = by_read e (read_at trace place) refl

-- ---- all that a trace prints from a place on
pub replays_one : (trace : List ℕ) (place : ℕ) (s : Replay) → replay_from 0 trace place s ≡ (step_at trace place s).bytes
unfolding replay_from
replays_one trace place s = refl

pub replays_on : (f : ℕ) (trace : List ℕ) (place : ℕ) (s : Replay)
    → replay_from (suc f) trace place s ≡ (step_at trace place s).bytes ++ replay_from f trace (next_at trace place) (step_at trace place s).replay
unfolding replay_from
replays_on f trace place s = refl

stopped_is_silent : (f : ℕ) (trace : List ℕ) (place : ℕ) (s : Replay) → is_stopped s.phase ≡ true → replay_from f trace place s ≡ []
stopped_is_silent zero trace place s e = rw (replays_one trace place s, stopped_steps (read_at trace place) s e)
stopped_is_silent (suc f) trace place s e =
    rw (replays_on f trace place s, stopped_steps (read_at trace place) s e) (stopped_is_silent f trace (next_at trace place) s e)

end_is_silent : (f : ℕ) (trace : List ℕ) (place : ℕ) (s : Replay) → read_at trace place ≡ Ok None → replay_from f trace place s ≡ []
end_is_silent zero trace place s e = rw (replays_one trace place s, e, end_steps s)
end_is_silent (suc f) trace place s e = rw (replays_on f trace place s, e, end_steps s) (end_is_silent f trace place s e)

-- a step leads on, or to silence
on_or_silent : {P : Type 0} (trace : List ℕ) (place : ℕ) (s : Replay)
    → (place < next_at trace place → next_at trace place ≤ length trace → P)
    → (((f : ℕ) → replay_from f trace (next_at trace place) (step_at trace place s).replay ≡ []) → P)
    → P
on_or_silent {P} trace place s on silence = go (after_a_step trace place s)
  where
    go : AfterStep trace place s → P
    go (goes_on a b) = on a b
    go (stops e) = silence (λ f. stopped_is_silent f trace _ _ e)
    go (ends e) = silence (λ f. rw (e, end_steps s) (end_is_silent f trace place s e))

-- so as many steps as there are bytes left are enough: more change nothing
pub enough_steps : (f g : ℕ) (trace : List ℕ) (place : ℕ) (s : Replay) → length trace ≤ place + f → length trace ≤ place + g
    → replay_from f trace place s ≡ replay_from g trace place s
enough_steps zero zero trace place s p q = refl
enough_steps zero (suc g) trace place s p q =
    rw (replays_one trace place s, replays_on g trace place s)
    (on_or_silent trace place s (λ a b. absurd (omega arith)) (λ silent. rw (silent g, append-nil)))
enough_steps (suc f) zero trace place s p q =
    rw (replays_one trace place s, replays_on f trace place s)
    (on_or_silent trace place s (λ a b. absurd (omega arith)) (λ silent. rw (silent f, append-nil)))
enough_steps (suc f) (suc g) trace place s p q =
    rw (replays_on f trace place s, replays_on g trace place s)
    (on_or_silent trace place s
    (λ a b. rw (enough_steps f g trace (next_at trace place) (step_at trace place s).replay (omega arith) (omega arith)))
    (λ silent. rw (silent f, silent g)))

abbrev pub rest : List ℕ → ℕ → Replay → List ℕ
rest trace place s = replay_from (length trace) trace place s

rest_steps : (trace : List ℕ) (place : ℕ) (s : Replay)
    → rest trace place s ≡ (step_at trace place s).bytes ++ rest trace (next_at trace place) (step_at trace place s).replay
rest_steps trace place s =
    enough_steps (length trace) (suc (length trace)) trace place s (omega arith) (omega arith) ∙ replays_on (length trace) trace place s

-- ---- a part is no step, or one step and a part with a step less: what such steps keep holds of every part
module _ (last : Bool) (here : List ℕ) where
  pub by_steps : (P : ℕ → ℕ → ℕ → Replay → Part → Type 0)
      → ((room place : ℕ) (s : Replay) → P 0 room place s (nothing place s))
      → ((f room place : ℕ) (s : Replay) → halts last (read_at here place) room s ≡ true → P (suc f) room place s (nothing place s))
      → ((f room place : ℕ) (s : Replay) (p : Part) → halts last (read_at here place) room s ≡ false
      → P f (room - length (step_at here place s).bytes) (next_at here place) (step_at here place s).replay p
      → P (suc f) room place s (printed_before (step_at here place s).bytes p))
      → (f room place : ℕ) (s : Replay) → P f room place s (part_from f last here room place s)
  unfolding part_from
  by_steps P none stay one zero room place s = none room place s
  by_steps P none stay one (suc f) room place s = go (halts last (read_at here place) room s) refl (by_steps P none stay one f _ _ _)
    where
      go : (b : Bool) → halts last (read_at here place) room s ≡ b → {p : Part}
          → P f (room - length (step_at here place s).bytes) (next_at here place) (step_at here place s).replay p
          → P (suc f) room place s (cond b (nothing place s) (printed_before (step_at here place s).bytes p))
      go true e on = stay f room place s e
      go false e on = one f room place s _ e on

pub next_inside : (trace : List ℕ) (place : ℕ) → place ≤ length trace → next_at trace place ≤ length trace
next_inside trace place h = go (read_at trace place) refl
  where
    go : (read : Read) → read_at trace place ≡ read → next_place read place ≤ length trace
    go (Ok (Some g)) e = let f = found_only_whole trace place g.item g.next e in rw f.to f.inside
    go (Ok None) e = h
    go (Err x) e = h

module _ (last : Bool) (trace : List ℕ) (room place : ℕ) where
  pub part_plays : {s : Replay} → Playing s → Playing (part last trace room place s).replay
  unfolding part
  part_plays {s} =
      by_steps last trace (λ f room place s p. Playing s → Playing p.replay)
      (λ room place s h. h)
      (λ f room place s e h. h)
      (λ f room place s p e on h. on (stepped_plays (read_at trace place) s h))
      (2 + length trace) room place s

  pub part_inside : (s : Replay) → place ≤ length trace → (part last trace room place s).place ≤ length trace
  unfolding part
  part_inside s =
      by_steps last trace (λ f room place s p. place ≤ length trace → p.place ≤ length trace)
      (λ room place s h. h)
      (λ f room place s e h. h)
      (λ f room place s p e on h. on (next_inside trace place h))
      (2 + length trace) room place s

-- ---- why a replay goes on, and why it pauses
moves_when : (last : Bool) (read : Read) (room : ℕ) (s : Replay) → halts last read room s ≡ false
    → (is_stopped s.phase ≡ false) × (wants_bytes last read ≡ false) × (is_end read ≡ false)
unfolding halts
moves_when last read room s e =
    let awake = or_not_right (is_stopped s.phase) _ e in
    (or_not_left _ _ e, or_not_left _ _ awake, or_not_left _ _ (or_not_right (wants_bytes last read) _ awake))

over_when : (stopped wants end : Bool) → cond stopped Over (cond wants Bytes (cond end Over Room)) ≡ Over
    → (stopped ≡ true) ⊎ ((wants ≡ false) × (end ≡ true))
over_when true wants end e = inl refl
over_when false true end e = never (cc)
over_when false false true e = inr (refl, refl)
over_when false false false e = never (cc)

room_when : (stopped wants end short : Bool) → cond stopped Over (cond wants Bytes (cond end Over Room)) ≡ Room
    → (stopped || (wants || (end || short))) ≡ true → short ≡ true
room_when true wants end short e h = never (cc)
room_when false true end short e h = never (cc)
room_when false false true short e h = never (cc)
room_when false false false short e h = h

end_when : (read : Read) → is_end read ≡ true → read ≡ Ok None
unfolding is_end
end_when (Ok (Some f)) e = absurd (true_not_false e refl)
end_when (Ok None) e = refl
end_when (Err x) e = absurd (true_not_false e refl)

-- ---- a part prints what the whole trace prints there, if what it reads is read there too
module _ (last : Bool) (here all : List ℕ)
    (same : (place : ℕ) → wants_bytes last (read_at here place) ≡ false → read_at all place ≡ read_at here place) where
  pub part_prints : (room place : ℕ) (s : Replay)
      → rest all place s ≡ (part last here room place s).bytes ++ rest all (part last here room place s).place (part last here room place s).replay
  unfolding part
  part_prints room place s =
      by_steps last here (λ f room place s p. rest all place s ≡ p.bytes ++ rest all p.place p.replay)
      (λ room place s. refl)
      (λ f room place s e. refl)
      (λ f room place s p e on.
      let too : read_at all place ≡ read_at here place = same place (moves_when last (read_at here place) room s e).1 in
      rest_steps all place s ∙ rw (too, on, append_assoc))
      (2 + length here) room place s

  pub over_is_silent : (place : ℕ) (s : Replay) → pause_of last (read_at here place) s ≡ Over → rest all place s ≡ []
  unfolding pause_of
  over_is_silent place s e =
      ⊎_elim
      (λ stopped. stopped_is_silent (length all) all place s stopped)
      (λ end. end_is_silent (length all) all place s (same place end.0 ∙ end_when (read_at here place) end.1))
      (over_when (is_stopped s.phase) (wants_bytes last (read_at here place)) (is_end (read_at here place)) e)

-- a whole trace fed at once
pub over_is_whole : (trace : List ℕ) (room : ℕ) → (fed true trace room 0 beginning).pause ≡ Over
    → (part true trace room 0 beginning).bytes ≡ replay trace
unfolding fed replay
over_is_whole trace room e =
    let p : Part = part true trace room 0 beginning in
    sym (part_prints true trace trace (λ place w. refl) room 0 beginning
    ∙ rw (over_is_silent true trace trace (λ place w. refl) p.place p.replay e, append-nil))

-- ---- a part goes as far as it can
-- the steps suffice: the replay has stopped, or there are more of them than bytes left
abbrev pub Suffices : ℕ → List ℕ → ℕ → Replay → Type 0
Suffices f here place s = (is_stopped s.phase ≡ true) ⊎ ((0 < f) × (length here < place + f))

pub suffices_on : (here : List ℕ) (f place : ℕ) (s : Replay) → Suffices f here place s
    → Suffices f here (next_at here place) (step_at here place s).replay
suffices_on here f place s (inl stopped) = inl (rw (stopped_steps (read_at here place) s stopped) stopped)
suffices_on here f place s (inr steps) = go (after_a_step here place s)
  where
    go : AfterStep here place s → Suffices f here (next_at here place) (step_at here place s).replay
    go (goes_on a b) = inr (steps.0, omega (arith, steps.1))
    go (stops d) = inl d
    go (ends d) = inr (steps.0, rw d steps.1)

module _ (last : Bool) (here : List ℕ) where
  pub still_suffices : (f room place : ℕ) (s : Replay) → halts last (read_at here place) room s ≡ false → Suffices (suc f) here place s
      → Suffices f here (next_at here place) (step_at here place s).replay
  unfolding is_end
  still_suffices f room place s e (inl stopped) = absurd (true_not_false stopped (moves_when last (read_at here place) room s e).0)
  still_suffices f room place s e (inr steps) = go (after_a_step here place s)
    where
      go : AfterStep here place s → Suffices f here (next_at here place) (step_at here place s).replay
      go (goes_on a b) = inr (omega (arith, steps.1), omega (arith, steps.1))
      go (stops d) = inl d
      go (ends d) = absurd (true_not_false (ap is_end d) (moves_when last (read_at here place) room s e).2)

  -- at the end of a part the replay halts, with the room that is left
  part_halts : (f room place : ℕ) (s : Replay) → Suffices f here place s
      → let p = part_from f last here room place s in halts last (read_at here p.place) (room - length p.bytes) p.replay ≡ true
  unfolding halts
  part_halts =
      by_steps last here
      (λ f room place s p. Suffices f here place s → halts last (read_at here p.place) (room - length p.bytes) p.replay ≡ true)
      (λ room place s h. ⊎_elim (λ e. or_left _ _ e) (λ steps. absurd (omega (arith, steps.0))) h)
      (λ f room place s e h. rw sub-zero e)
      (λ f room place s p e on h. rw (length-append, sub-add-eq) (on (still_suffices f room place s e h)))

-- a part that wants room has used all but what one record may print: so it went on, if it had that much
pub room_goes_on : (last : Bool) (trace : List ℕ) (room place : ℕ) (s : Replay)
    → (fed last trace room place s).pause ≡ Room → room - (fed last trace room place s).count < line_room
unfolding fed part pause_of halts
room_goes_on last trace room place s e =
    let p : Part = part last trace room place s in
    ltb-true _ _
    (room_when (is_stopped p.replay.phase) (wants_bytes last (read_at trace p.place)) (is_end (read_at trace p.place)) _ e
    (part_halts last trace (2 + length trace) room place s (inr (omega arith, omega arith))))
