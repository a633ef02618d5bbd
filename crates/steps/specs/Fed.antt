-- What a chunk of a trace, and a whole trace, leave behind in a lent buffer that held o₀, and what is carried on.
-- Assumes nothing.
use Rattle.std.specs.Prelude.{◌≡◌, Bool, List, ◌++◌, ℕ, ◌-◌, ◌≤◌, length, take, drop, cond, Option, Some, None}
use Rattle.rules.specs.Replay.{replay}
use Rattle.rules.specs.Chunks.{halts, pause_of, part, fed, whole, whole_part}
use Rattle.rules.specs.Invariant.{Playing}
use Rattle.rules.specs.Buffers.{Written}
use Rattle.rules.specs.declared.replay.Replay.{Replay}
use Rattle.rules.specs.declared.replay.Fed.{Fed}
use Rattle.rules.specs.declared.replay.Pause.{Pause}
use Rattle.rules.specs.Results.{Read, Printed}

-- why a replay stays where it is, if it does
unfoldable pub paused : Bool → Read → ℕ → Replay → Option Pause
paused last read room s = cond (halts last read room s) (Some (pause_of last read s)) None

-- the answer is the rule's, and the lines of the part that it replays stand at the front
pub record Feeds (last : Bool) (trace : List ℕ) (place : ℕ) (s : Replay) (r : Fed) (o₀ o : List ℕ) : Type 0 where
  pub answers : r ≡ fed last trace (length o₀) place s
  pub lines : Written (part last trace (length o₀) place s).bytes r.count o₀ o
  pub playing : Playing r.replay
  pub fits : r.count ≤ length o₀
  pub inside : place ≤ length trace → r.place ≤ length trace

-- the same of a whole trace; where the answer is a count, so many bytes at the front are what the replay prints
pub record Prints (trace : List ℕ) (r : Printed) (o₀ o : List ℕ) : Type 0 where
  pub answers : r ≡ whole trace (length o₀)
  pub leaves : o ≡ (whole_part trace (length o₀)).bytes ++ drop (length (whole_part trace (length o₀)).bytes) o₀
  pub all : (n : ℕ) → r ≡ Some n → Written (replay trace) n o₀ o

-- the bytes of a buffer that held b₀, from one place up to another: so many stand at its front, and the rest is as it was
abbrev pub AtFront : ℕ → ℕ → ℕ → List ℕ → List ℕ → Type 0
AtFront from to count b₀ b = (count ≡ to - from) × (b ≡ take (to - from) (drop from b₀) ++ drop (to - from) b₀)
