-- Records as text: a name and numbers in decimals, without the line feed that a listing puts behind them.
-- Assumes nothing.
use Rattle.std.specs.Prelude.{List, ◌++◌, ℕ, ◌+◌, ◌*◌, length}
use Rattle.rules.specs.Trace.{fields_of}
use Rattle.rules.specs.Replay.{numbers}
use Rattle.rules.specs.declared.trace.Record.{Record}
use Rattle.rules.specs.declared.trace.Record.TheVariants.{Node, Model, Start, Bio, Tick, Plan, Vrate, Weight}
use Rattle.text.specs.Words.{bytes}

-- ---- a word, and behind it a blank and the digits of each number; a number takes a blank and at most twenty digits
abbrev pub worded : List ℕ → List ℕ → List ℕ
worded word ns = word ++ numbers ns

abbrev pub field_room : ℕ
field_room = 21

abbrev pub worded_room : List ℕ → List ℕ → ℕ
worded_room word ns = length word + field_room * length ns

-- ---- a record: its name, and its numbers in the order of its layout
unfoldable pub name_of : Record → List ℕ
name_of (Node p w) = bytes "node"
name_of (Model r) = bytes "model"
name_of (Start t) = bytes "start"
name_of (Bio b) = bytes "bio"
name_of (Tick t) = bytes "tick"
name_of Plan = bytes "plan"
name_of (Vrate v) = bytes "vrate"
name_of (Weight n w) = bytes "weight"

abbrev pub record_text : Record → List ℕ
record_text r = worded (name_of r) (fields_of r)

-- 131 bytes: a model, of five letters and six numbers, takes the most
abbrev pub text_room : ℕ
text_room = 5 + 6 * field_room
