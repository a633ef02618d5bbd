-- However a trace is cut into chunks, and whatever room its lines are given, a program prints what the whole trace prints.
-- Assumes nothing.
use Rattle.std.specs.Prelude.{◌≡◌, Bool, cond, ◌&&◌, ◌||◌, ltb, drop, Err, None, Ok, Some}
use Rattle.std.proofs.Math.Path.{refl}
use Rattle.std.proofs.Common.{sym, ◌∙◌, inl, inr, add-zero, arith, length-append, length-drop}
use Rattle.std.proofs.Math.Bool.{true, false}
use mathlib.Core.List.{List, [], ◌++◌, append-nil, append_assoc}
use Prim.Native.Nat.{ℕ, zero, suc, ◌+◌, ◌≤◌, ◌<◌}
use Rattle.std.proofs.Math.ListN.{length}
use Rattle.std.proofs.lemmas.List.{drop-append-le}
use Rattle.rules.specs.Numbers.{line_room}
use Rattle.rules.specs.Trace.{read_at}
use Rattle.rules.specs.Replay.{is_stopped, beginning, read_step, next_place, stepped, replay_from, replay}
use Rattle.rules.specs.Chunks.{is_end, is_cut, wants_bytes, halts, pause_of, part}
use Rattle.rules.proofs.Laws.Bools.{true_not_false, and_swap, or_left}
use Rattle.rules.proofs.Laws.Pieces.{same_with_more, shifted, shifted_with_less}
use Rattle.rules.proofs.Laws.Chunks.{replays_one, replays_on, enough_steps, rest, by_steps, part_inside, part_prints, over_is_silent, Suffices, suffices_on, still_suffices}
use Rattle.rules.specs.declared.replay.Replay.{Replay}
use Rattle.rules.specs.declared.replay.Pause.TheVariants.{Over, Bytes, Room}
use Rattle.rules.specs.Results.{Read}

-- ---- a replay of what is left of a trace
shifted_steps : (k : ℕ) (read : Read) (s : Replay) → stepped (shifted k read) s ≡ stepped read s
unfolding shifted stepped read_step
shifted_steps k (Ok (Some f)) s = refl
shifted_steps k (Ok None) s = refl
shifted_steps k (Err x) s = refl

shifted_next : (k : ℕ) (read : Read) (at : ℕ) → next_place (shifted k read) (k + at) ≡ k + next_place read at
unfolding shifted
shifted_next k (Ok (Some f)) at = refl
shifted_next k (Ok None) at = refl
shifted_next k (Err x) at = refl

module _ (trace : List ℕ) (k : ℕ) (h : k ≤ length trace) where
  replays_shifted : (f at : ℕ) (s : Replay) → replay_from f (drop k trace) at s ≡ replay_from f trace (k + at) s
  replays_shifted zero at s =
      rw (replays_one trace (k + at) s, replays_one (drop k trace) at s, shifted_with_less trace k h at, shifted_steps k (read_at (drop k trace) at) s)
  replays_shifted (suc f) at s =
      rw (
        replays_on f trace (k + at) s,
        replays_on f (drop k trace) at s,
        shifted_with_less trace k h at,
        shifted_steps k (read_at (drop k trace) at) s,
        shifted_next k (read_at (drop k trace) at) at,
        replays_shifted f,
      )

  pub rest_shifted : (at : ℕ) (s : Replay) → rest (drop k trace) at s ≡ rest trace (k + at) s
  rest_shifted at s =
      replays_shifted (length (drop k trace)) at s
      ∙ enough_steps (length (drop k trace)) (length trace) trace (k + at) s (rw length-drop (omega arith)) (omega arith)

-- ---- any cutting
-- a program that keeps a replay, the bytes `here` that it has read and not dropped, and a place in them, with the bytes of
-- the trace that come `later`, and all that it prints from there on; it may say `last` where no more come
pub data Played : Replay → List ℕ → ℕ → List ℕ → List ℕ → Type 0 where
  -- it feeds what is here, with any room, and goes on where that ends
  feed : {s : Replay} {here : List ℕ} {place : ℕ} {later out : List ℕ} (last : Bool) (room : ℕ) → (last ≡ true → later ≡ [])
      → Played (part last here room place s).replay here (part last here room place s).place later out
      → Played s here place later ((part last here room place s).bytes ++ out)
  -- it drops what is done with, and puts the next bytes behind what is left
  more : {s : Replay} {here : List ℕ} {place : ℕ} {later out : List ℕ} (next : List ℕ)
      → Played s (drop place here ++ next) 0 later out
      → Played s here place (next ++ later) out
  -- it is over: the replay has stopped, or this is the end of the trace
  over : {s : Replay} {here : List ℕ} {place : ℕ} {later : List ℕ} (last : Bool) → (last ≡ true → later ≡ [])
      → pause_of last (read_at here place) s ≡ Over
      → Played s here place later []

-- ---- no program gets stuck: with room for what one record may print, the bytes that are left bring it to its end
over_if_halted : (read : Read) (s : Replay) → halts true read line_room s ≡ true → pause_of true read s ≡ Over
unfolding halts pause_of wants_bytes
over_if_halted read s e = go (is_stopped s.phase) (is_cut read) (is_end read) e
  where
    go : (stopped short end : Bool) → (stopped || ((short && false) || (end || ltb line_room line_room))) ≡ true
        → cond stopped Over (cond (short && false) Bytes (cond end Over Room)) ≡ Over
    go true short end h = refl
    go false true true h = refl
    go false false true h = refl
    go false true false h = absurd (true_not_false h refl)
    go false false false h = absurd (true_not_false h refl)

module _ (here : List ℕ) where
  -- a part that goes on takes a step at least
  part_suffices : (room place : ℕ) (s : Replay) → halts true (read_at here place) room s ≡ false → (n : ℕ) → Suffices (suc n) here place s
      → Suffices n here (part true here room place s).place (part true here room place s).replay
  unfolding part
  part_suffices room place s =
      (by_steps true here
      (λ f room place s p.
      ((n : ℕ) → Suffices n here place s → Suffices n here p.place p.replay)
      × (0 < f → halts true (read_at here place) room s ≡ false → (n : ℕ) → Suffices (suc n) here place s → Suffices n here p.place p.replay))
      (λ room place s. (λ n h. h, λ p. absurd (omega arith)))
      (λ f room place s e. (λ n h. h, λ p no. absurd (true_not_false e no)))
      (λ f room place s p e on.
      (λ n h. on.0 n (suffices_on here n place s h), λ q no n h. on.0 n (still_suffices true here n room place s e h)))
      (2 + length here) room place s).1 (omega arith)

  plays_out : (n place : ℕ) (s : Replay) → Suffices n here place s → (out : List ℕ) × Played s here place [] out
  unfolding halts
  plays_out zero place s (inl stopped) =
      ([], over true (λ e. refl) (over_if_halted (read_at here place) s (or_left (is_stopped s.phase) _ stopped)))
  plays_out zero place s (inr steps) = absurd (omega (arith, steps.0))
  plays_out (suc n) place s h =
      go (halts true (read_at here place) line_room s) refl (λ e. plays_out n _ _ (part_suffices line_room place s e n h))
    where
      go : (b : Bool) → halts true (read_at here place) line_room s ≡ b
          → (halts true (read_at here place) line_room s ≡ false
          → (out : List ℕ) × Played (part true here line_room place s).replay here (part true here line_room place s).place [] out)
          → (out : List ℕ) × Played s here place [] out
      go true e on = ([], over true (λ e. refl) (over_if_halted (read_at here place) s e))
      go false e on = ((part true here line_room place s).bytes ++ (on e).0, feed true line_room (λ e. refl) (on e).1)

pub always_ends : (s : Replay) (here : List ℕ) (place : ℕ) (later : List ℕ) → (out : List ℕ) × Played s here place later out
always_ends s here place later =
    let w = plays_out (drop place here ++ later) (suc (length (drop place here ++ later))) 0 s (inr (omega arith, omega arith)) in
    let all : Played s here place (later ++ []) w.0 = more later w.1 in
    (w.0, rw append-nil at all)

-- ---- what it prints
same_read : (last : Bool) (here later : List ℕ) → (last ≡ true → later ≡ []) → (at : ℕ) → wants_bytes last (read_at here at) ≡ false
    → read_at (here ++ later) at ≡ read_at here at
unfolding wants_bytes
same_read true here later none at w = rw (none refl, append-nil)
same_read false here later none at w = same_with_more here later at (sym (and_swap (is_cut (read_at here at)) true) ∙ w)

pub played_prints : {s : Replay} {here : List ℕ} {place : ℕ} {later out : List ℕ} → Played s here place later out → place ≤ length here
    → out ≡ rest (here ++ later) place s
played_prints (feed {s} {here} {place} {later} last room none on) h =
    rw (played_prints on (part_inside last here room place s h))
    (sym (part_prints last here (here ++ later) (same_read last here later none) room place s))
played_prints (more {s} {here} {place} {later} next on) h =
    let all : List ℕ = here ++ (next ++ later) in
    let inside : place ≤ length all = rw length-append (omega arith) in
    played_prints on (omega arith)
    ∙ rw (append_assoc, ← drop-append-le place here (next ++ later) h, rest_shifted all place inside 0 s, add-zero)
played_prints (over {s} {here} {place} {later} last none e) h =
    sym (over_is_silent last here (here ++ later) (same_read last here later none) place s e)

-- however a trace is cut, a program prints what the whole prints
pub however_cut : {trace out : List ℕ} → Played beginning [] 0 trace out → out ≡ replay trace
unfolding replay
however_cut played = played_prints played (omega arith)
