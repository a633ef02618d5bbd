-- The lines of a comparison, over whole traces and over parts of them that are held at a time.
-- Assumes nothing.
use Rattle.std.specs.Prelude.{◌≡◌, Bool, cond, ◌&&◌, List, [], ◌++◌, ℕ, zero, suc, ◌+◌, ◌-◌, ◌*◌, ◌^◌, ◌≤◌, ◌<◌, leb, length, get_or, Option, Some, None, Ok, Err}
use Rattle.rules.specs.Buffers.{Written}
use Rattle.rules.proofs.Laws.Trace.{record_at, end_at}
use Rattle.trace.specs.Kinds.{code}
use Rattle.trace.specs.declared.kind.Kind.{Kind}
use Rattle.comparison.specs.Compare.{Stepped, step_at, is_pair, advanced, reach_at_start, ends_by, likeness_by, longer_by, Told, rest_of, compared}
use Rattle.text.specs.Lines.{differs_line, ends_line, rest_line, likeness_line, error_line, differs_room, short_room}
use Rattle.comparison.specs.declared.Side.{Side}
use Rattle.comparison.specs.declared.Side.TheVariants.{First, Second}
use Rattle.comparison.specs.declared.Ends.{Ends}
use Rattle.comparison.specs.declared.Likeness.{Likeness}
use Rattle.comparison.specs.declared.Step.TheVariants.{Pair, Over}
use Rattle.comparison.specs.declared.Reach.{Reach}
use Rattle.comparison.specs.declared.Sides.{Sides}
use Rattle.listing.specs.declared.Listed.{Listed}

-- a whole record of this kind stands here
pub record WholeHere (part : List ℕ) (at : ℕ) (kind : Kind) : Type 0 where
  pub kind_here : code kind ≡ get_or part at 0
  pub inside : end_at part at ≤ length part

abbrev pub at_the_front : Sides ℕ
at_the_front = record { first = 0; second = 0 }

-- ---- one pair
-- "One line for each record that differs: its number, the byte places on both sides, both records"
unfoldable pub differs_at : Sides ℕ → List ℕ → List ℕ → Reach → List ℕ
differs_at b here there r =
    differs_line r.number (b.first + r.first) (b.second + r.second) (record_at here r.first) (record_at there r.second)

unfoldable pub line_by : Sides ℕ → List ℕ → List ℕ → Stepped → Reach → List ℕ
line_by b here there (Ok (Pair p)) r = cond p.same [] (differs_at b here there r)
line_by b here there (Ok (Over side)) r = []
line_by b here there (Err e) r = []

abbrev pub step_in : List ℕ → List ℕ → Reach → Stepped
step_in here there r = step_at here r.first there r.second

-- ---- parts that are held: the places are inside, and no sum of places or numbers passes 64 bits
pub record Holds (b : Sides ℕ) (here there : List ℕ) (r : Reach) : Type 0 where
  pub first_in : r.first ≤ length here
  pub second_in : r.second ≤ length there
  pub first_fits : b.first + length here < 2 ^ 64
  pub second_fits : b.second + length there < 2 ^ 64
  pub number_fits : r.number ≤ b.first + r.first

-- ---- the lines of these parts, as far as both have a record and there is room for a line
pub record Lines : Type 0 where
  pub bytes : List ℕ
  pub reach : Reach

abbrev pub none : Reach → Lines
none r = record { bytes = []; reach = r }

abbrev pub before : List ℕ → Lines → Lines
before bytes l = record { bytes = bytes ++ l.bytes; reach = l.reach }

abbrev pub goes_on : Stepped → ℕ → Bool
goes_on s room = is_pair s && leb differs_room room

unfoldable pub list_from : ℕ → Sides ℕ → List ℕ → List ℕ → ℕ → Reach → Lines
list_from zero b here there room r = none r
list_from (suc more) b here there room r =
    cond (goes_on (step_in here there r) room)
    (before (line_by b here there (step_in here there r) r)
    (list_from more b here there (room - length (line_by b here there (step_in here there r) r)) (advanced (step_in here there r) r)))
    (none r)

-- each record takes a byte at least
unfoldable pub listed : Sides ℕ → List ℕ → List ℕ → ℕ → Reach → Lines
listed b here there room r = list_from (suc (length here)) b here there room r

-- what is written into a buffer that held o₀
pub record Lists (b : Sides ℕ) (here there : List ℕ) (r₀ : Reach) (l : Listed) (o₀ o : List ℕ) : Type 0 where
  pub reached : l.reach ≡ (listed b here there (length o₀) r₀).reach
  pub lines : Written (listed b here there (length o₀) r₀).bytes l.count o₀ o
  pub fits : l.count ≤ length o
  pub holds : Holds b here there l.reach

-- ---- behind the last pair
-- "`rest SIDE BYTES` is `rest first 0` unless one trace is a prefix of the other": so many bytes are left of each trace
unfoldable pub rest_line_by : Option Side → ℕ → ℕ → List ℕ
rest_line_by (Some First) first second = rest_line First first
rest_line_by (Some Second) first second = rest_line Second second
rest_line_by None first second = rest_line First 0

unfoldable pub closing_lines : Option Likeness → Option Ends → ℕ → ℕ → List ℕ
closing_lines l e first second = (ends_line e ++ rest_line_by (longer_by l e) first second) ++ likeness_line l

abbrev pub closing_by : Stepped → ℕ → Bool → ℕ → ℕ → List ℕ
closing_by s number alike first second = closing_lines (likeness_by s alike) (ends_by s number) first second

abbrev pub closing_room : ℕ
closing_room = 3 * short_room

-- ---- the whole: what a program prints of two traces
-- the lines of the records that differ, from here on, and behind the last pair what is said there
unfoldable pub differs_from : ℕ → List ℕ → List ℕ → (Reach → List ℕ) → Reach → List ℕ
differs_from zero first second end r = end r
differs_from (suc more) first second end r =
    cond (is_pair (step_in first second r))
    (line_by at_the_front first second (step_in first second r) r ++ differs_from more first second end (advanced (step_in first second r) r))
    (end r)

-- of all records
unfoldable pub differs_lines : List ℕ → List ℕ → List ℕ
differs_lines first second = differs_from (suc (length first)) first second (λ r. []) reach_at_start

-- "One line for each record that differs", then who ends first, the rest and the likeness; "On a trace error the one line"
abbrev pub report_by : Told → List ℕ → List ℕ → List ℕ
report_by (Err e) first second = error_line e.side e.refusal e.place
report_by (Ok c) first second =
    differs_lines first second ++ closing_lines (Some c.likeness) (Some c.ends) (length (rest_of first second)) (length (rest_of first second))

unfoldable pub report : List ℕ → List ℕ → List ℕ
report first second = report_by (compared first second 0) first second
