-- What a step over one record leaves behind: its bytes at the front of the lent buffer, and the replay after it.
-- Assumes nothing.
use Rattle.std.specs.Prelude.{◌≡◌, List, ℕ, Ok, Err}
use Rattle.rules.specs.Replay.{Step, silent, stops_at}
use Rattle.rules.specs.Chunks.{stepping, stepped_to}
use Rattle.rules.specs.Buffers.{Written}
use Rattle.rules.specs.declared.replay.Replay.{Replay}
use Rattle.rules.specs.declared.replay.Stepped.{Stepped}
use Rattle.rules.specs.Results.{Read, Verdict}

-- what becomes of a record that is no call: the replay as it is then, or it stops
abbrev pub taken : Verdict → Replay → Step
taken (Ok tt) s = silent s
taken (Err x) s = stops_at x s

abbrev pub DoesStep : Step → ℕ → Replay → List ℕ → List ℕ → Type 0
DoesStep step count replay o₀ o = Written step.bytes count o₀ o × (replay ≡ step.replay)

-- the answer is the rule's, and so is the buffer, which held o₀ and may be of any length
pub record Steps (read : Read) (s : Replay) (r : Stepped) (o₀ o : List ℕ) : Type 0 where
  pub answers : r ≡ stepping read s o₀
  pub leaves : o ≡ stepped_to read s o₀
