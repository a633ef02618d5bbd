-- What the lines of a call ask of the lent buffers and which they are, and what calls in a row leave behind.
-- Assumes nothing.
use Rattle.std.specs.Prelude.{◌≡◌, List, ℕ, ◌*◌, ◌≤◌, Err, Ok, Some}
use Rattle.rules.specs.Numbers.{line_room}
use Rattle.rules.specs.Replay.{refusal_line, share_lines_of}
use Rattle.rules.specs.Chunks.{calling, Run}
use Rattle.rules.specs.Buffers.{Written}
use Rattle.rules.specs.declared.budget.Controller.{Controller}
use Rattle.rules.specs.declared.replay.Call.{Call}
use Rattle.rules.specs.declared.replay.Ran.{Ran}
use Rattle.rules.specs.Results.{Count, Verdict}

-- the released ids stand in the lent places, and their lines in the room for any record's
abbrev pub CanPrint : Count → ℕ → Type 0
CanPrint (Ok n) places = (n ≤ places) × (13 * n ≤ line_room)
CanPrint (Err x) places = Unit {0}

-- a plan's lines, by the active leaves and their shares alone
unfoldable pub plan_lines_of : Verdict → ℕ → List ℕ → List ℕ
plan_lines_of (Ok tt) active shares = share_lines_of active shares
plan_lines_of (Err x) active shares = refusal_line x

-- what a call printed at the front of a buffer that held o₀, and the state that it left
abbrev pub Answers : Call → Controller → ℕ → List ℕ → List ℕ → Controller → Type 0
Answers call c r o₀ o d = Written (calling (Some call) c).bytes r o₀ o × (d ≡ (calling (Some call) c).state)

-- a run's bytes stand at the front of a buffer that held o₀, and it came to this place and this state
pub record RanAs (run : Run) (r : Ran) (o₀ o : List ℕ) : Type 0 where
  pub lines : Written run.bytes r.count o₀ o
  pub place : r.place ≡ run.place
  pub state : r.state ≡ run.state
