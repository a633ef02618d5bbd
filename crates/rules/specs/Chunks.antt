-- The replay with lent buffers: a step over one record, and a chunk of a trace, of which more may come.
-- Assumes nothing.
use Rattle.std.specs.Prelude.{Bool, true, false, cond, not, ◌&&◌, ◌||◌, List, [], ◌++◌, ℕ, zero, suc, ◌+◌, ◌-◌, eqb, leb, ltb, length, drop, Err, None, Ok, Some, Option}
use Rattle.rules.specs.Numbers.{line_room}
use Rattle.rules.specs.Refusals.{number}
use Rattle.rules.specs.Trace.{read_at}
use Rattle.rules.specs.Replay.{Called, bio_call, tick_call, plan_call, set_call, is_stopped, stepped, next_place, beginning}
use Rattle.rules.specs.declared.budget.Controller.{Controller}
use Rattle.rules.specs.declared.trace.Record.TheVariants.{Node, Model as ModelOf, Start, Bio as BioOf, Tick, Plan, Vrate, Weight}
use Rattle.rules.specs.declared.replay.Phase.{Phase}
use Rattle.rules.specs.declared.replay.Phase.TheVariants.{Setup, Priced, Running, Stopped}
use Rattle.rules.specs.declared.replay.Replay.{Replay}
use Rattle.rules.specs.declared.replay.Call.{Call}
use Rattle.rules.specs.declared.replay.Call.TheVariants.{Bio as CallBio, Tick as CallTick, Plan as CallPlan, Set as CallSet}
use Rattle.rules.specs.declared.replay.Setting.TheVariants.{Vrate as SetVrate, Weight as SetWeight}
use Rattle.rules.specs.declared.replay.Stepped.{Stepped}
use Rattle.rules.specs.declared.replay.Pause.{Pause}
use Rattle.rules.specs.declared.replay.Pause.TheVariants.{Over, Bytes, Room}
use Rattle.rules.specs.declared.replay.Fed.{Fed}
use Rattle.rules.specs.Results.{Read, Printed}
use Rattle.rules.specs.declared.trace.Record.{Record}

-- ---- one step: nothing is done where the lent buffer is too short for what a record may print
unfoldable pub stepping : Read → Replay → List ℕ → Stepped
stepping read s lent =
    cond (ltb (length lent) line_room)
    (record { printed = None; replay = s })
    (record { printed = Some (length (stepped read s).bytes); replay = (stepped read s).replay })

unfoldable pub stepped_to : Read → Replay → List ℕ → List ℕ
stepped_to read s lent =
    cond (ltb (length lent) line_room) lent ((stepped read s).bytes ++ drop (length (stepped read s).bytes) lent)

-- ---- a chunk: what was read of a trace so far; `last` says that no more will come
unfoldable pub is_end : Read → Bool
is_end (Ok (Some f)) = false
is_end (Ok None) = true
is_end (Err x) = false

-- nothing of a record is here, or not all of it
unfoldable pub is_cut : Read → Bool
is_cut (Ok (Some f)) = false
is_cut (Ok None) = true
is_cut (Err x) = eqb (number x) 17

-- more bytes may make a record whole, so 17 is given at the true end alone
unfoldable pub wants_bytes : Bool → Read → Bool
wants_bytes last read = is_cut read && not last

-- does the replay stay where it is? `room` is what is left of the line buffer
unfoldable pub halts : Bool → Read → ℕ → Replay → Bool
halts last read room s = is_stopped s.phase || (wants_bytes last read || (is_end read || ltb room line_room))

-- and why
unfoldable pub pause_of : Bool → Read → Replay → Pause
pause_of last read s = cond (is_stopped s.phase) Over (cond (wants_bytes last read) Bytes (cond (is_end read) Over Room))

-- the bytes printed, where the next record begins, and the replay there
pub record Part : Type 0 where
  pub bytes : List ℕ
  pub place : ℕ
  pub replay : Replay

abbrev pub nothing : ℕ → Replay → Part
nothing place s = record { bytes = []; place = place; replay = s }

abbrev pub printed_before : List ℕ → Part → Part
printed_before bytes p = record { bytes = bytes ++ p.bytes; place = p.place; replay = p.replay }

-- each record takes a byte at least, and the replay has stopped where one is refused and stays
unfoldable pub part_from : ℕ → Bool → List ℕ → ℕ → ℕ → Replay → Part
part_from zero last trace room place s = nothing place s
part_from (suc more) last trace room place s =
    cond (halts last (read_at trace place) room s) (nothing place s)
    (printed_before (stepped (read_at trace place) s).bytes
    (part_from more last trace (room - length (stepped (read_at trace place) s).bytes) (next_place (read_at trace place) place)
    (stepped (read_at trace place) s).replay))

unfoldable pub part : Bool → List ℕ → ℕ → ℕ → Replay → Part
part last trace room place s = part_from (2 + length trace) last trace room place s

abbrev pub fed_by : Bool → List ℕ → Part → Fed
fed_by last trace p =
    record { pause = pause_of last (read_at trace p.place) p.replay; place = p.place; count = length p.bytes; replay = p.replay }

unfoldable pub fed : Bool → List ℕ → ℕ → ℕ → Replay → Fed
fed last trace room place s = fed_by last trace (part last trace room place s)

-- ---- calls in a row: what a replay that runs does with them, on its state alone
unfoldable pub call_by : Record → Option Call
call_by (Node p w) = None
call_by (ModelOf r) = None
call_by (Start time) = None
call_by (BioOf b) = Some (CallBio b)
call_by (Tick time) = Some (CallTick time)
call_by Plan = Some CallPlan
call_by (Vrate v) = Some (CallSet (SetVrate v))
call_by (Weight n w) = Some (CallSet (SetWeight n w))

unfoldable pub call_of : Read → Option Call
call_of (Ok (Some f)) = call_by f.item
call_of (Ok None) = None
call_of (Err x) = None

unfoldable pub is_call : Option Call → Bool
is_call (Some call) = true
is_call None = false

abbrev pub is_running : Phase → Bool
is_running Setup = false
is_running Priced = false
is_running Running = true
is_running Stopped = false

-- a call in its phase
unfoldable pub runs : Phase → Read → Bool
runs phase read = is_running phase && is_call (call_of read)

unfoldable pub calling : Option Call → Controller → Called
calling (Some (CallBio b)) c = bio_call b c
calling (Some (CallTick time)) c = tick_call time c
calling (Some CallPlan) c = plan_call c
calling (Some (CallSet x)) c = set_call x c
calling None c = record { bytes = []; state = c }

pub record Run : Type 0 where
  pub bytes : List ℕ
  pub place : ℕ
  pub state : Controller

abbrev pub still : ℕ → Controller → Run
still place c = record { bytes = []; place = place; state = c }

abbrev pub called_before : List ℕ → Run → Run
called_before bytes r = record { bytes = bytes ++ r.bytes; place = r.place; state = r.state }

-- at most so many calls, while the line buffer has room for any
unfoldable pub run_from : ℕ → List ℕ → ℕ → ℕ → Controller → Run
run_from zero trace room place c = still place c
run_from (suc more) trace room place c =
    cond (is_call (call_of (read_at trace place)) && leb line_room room)
    (called_before (calling (call_of (read_at trace place)) c).bytes
    (run_from more trace (room - length (calling (call_of (read_at trace place)) c).bytes) (next_place (read_at trace place) place)
    (calling (call_of (read_at trace place)) c).state))
    (still place c)

-- ---- a whole trace at once
abbrev pub whole_part : List ℕ → ℕ → Part
whole_part trace room = part true trace room 0 beginning

abbrev pub printed_if : Pause → ℕ → Printed
printed_if Over count = Some count
printed_if Bytes count = None
printed_if Room count = None

unfoldable pub whole : List ℕ → ℕ → Printed
whole trace room = printed_if (fed true trace room 0 beginning).pause (fed true trace room 0 beginning).count
