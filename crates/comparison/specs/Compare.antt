-- Request Seven: two traces compared record by record, numbered from 0.
-- Assumes nothing.
use Rattle.std.specs.Prelude.{Bool, true, false, cond, ◌&&◌, List, [], ◌∷◌, ℕ, zero, suc, ◌+◌, ◌-◌, eqb, leb, length, take, drop, Option, Some, None, unwrap_or, Result, Ok, Err, ⊤}
use Rattle.rules.specs.declared.refusals.Refusal.{Refusal}
use Rattle.trace.specs.Extents.{extent_at}
use Rattle.trace.specs.Kinds.{code}
use Rattle.trace.specs.declared.decoder.Whole.{Whole}
use Rattle.comparison.specs.declared.Side.{Side}
use Rattle.comparison.specs.declared.Side.TheVariants.{First, Second}
use Rattle.comparison.specs.declared.Difference.{Difference}
use Rattle.comparison.specs.declared.Ends.{Ends}
use Rattle.comparison.specs.declared.Likeness.{Likeness}
use Rattle.comparison.specs.declared.Likeness.TheVariants.{Equal, Prefix, Different}
use Rattle.comparison.specs.declared.Error.{Error}
use Rattle.comparison.specs.declared.Comparison.{Comparison}
use Rattle.comparison.specs.declared.Pair.{Pair as PairOf}
use Rattle.comparison.specs.declared.Step.{Step}
use Rattle.comparison.specs.declared.Step.TheVariants.{Pair, Over}
use Rattle.comparison.specs.declared.Reach.{Reach}
use Rattle.comparison.specs.declared.Walk.{Walk}

-- ---- one trace: what stands at a place, of which the kind and the end are looked at (`extent_at`)
abbrev pub Extent : Type 0
Extent = Result (Option Whole) Refusal

abbrev pub is_whole : Extent → Bool
is_whole (Ok (Some w)) = true
is_whole (Ok None) = false
is_whole (Err x) = false

-- the place behind a whole record; anything else is not passed
abbrev pub past_of : Extent → ℕ → ℕ
past_of (Ok (Some w)) at = w.next
past_of (Ok None) at = at
past_of (Err x) at = at

-- where the whole records end that stand one behind the other from a place on: at the end of the trace, or at an error
unfoldable pub records_end_from : ℕ → List ℕ → ℕ → ℕ
records_end_from zero trace at = at
records_end_from (suc more) trace at =
    cond (is_whole (extent_at trace at)) (records_end_from more trace (past_of (extent_at trace at) at)) at

-- each record takes a byte at least
unfoldable pub records_end : List ℕ → ℕ → ℕ
records_end trace at = records_end_from (suc (length trace)) trace at

-- "Trace errors 16 and 17 are reported with the side and the byte place where the record begins"
abbrev pub Fault : Type 0
Fault = Result ⊤ Error

abbrev pub error_by : Side → Extent → ℕ → Fault
error_by side (Ok found) at = Ok tt
error_by side (Err x) at = Err (record { side = side; refusal = x; place = at })

unfoldable pub error_in : Side → List ℕ → Fault
error_in side trace = error_by side (extent_at trace (records_end trace 0)) (records_end trace 0)

-- "the first trace's before the second's"
abbrev pub else_error : Fault → Fault → Fault
else_error (Err e) other = Err e
else_error (Ok none) other = other

unfoldable pub error_of : List ℕ → List ℕ → Fault
error_of first second = else_error (error_in First first) (error_in Second second)

-- ---- one step over both places
abbrev pub same_bytes : List ℕ → List ℕ → Bool
same_bytes [] [] = true
same_bytes [] (b ∷ ys) = false
same_bytes (a ∷ xs) [] = false
same_bytes (a ∷ xs) (b ∷ ys) = eqb a b && same_bytes xs ys

-- the bytes from a place up to another
abbrev pub between : ℕ → ℕ → List ℕ → List ℕ
between at next trace = take (next - at) (drop at trace)

-- "Compare record by record": two records differ where their bytes do
abbrev pub pair_at : List ℕ → ℕ → Whole → List ℕ → ℕ → Whole → PairOf
pair_at first p v second q w =
    record { first = v; second = w; same = same_bytes (between p v.next first) (between q w.next second) }

abbrev pub Stepped : Type 0
Stepped = Result Step Error

-- an error at a place of a trace is that of the record which begins there
abbrev pub found_by : Side → ℕ → Extent → Result (Option Whole) Error
found_by side at (Ok found) = Ok found
found_by side at (Err x) = Err (record { side = side; refusal = x; place = at })

unfoldable pub step_by : List ℕ → ℕ → Extent → List ℕ → ℕ → Extent → Stepped
step_by first p (Err x) second q e = Err (record { side = First; refusal = x; place = p })
step_by first p (Ok d) second q (Err x) = Err (record { side = Second; refusal = x; place = q })
step_by first p (Ok None) second q (Ok None) = Ok (Over None)
step_by first p (Ok None) second q (Ok (Some w)) = Ok (Over (Some First))
step_by first p (Ok (Some v)) second q (Ok None) = Ok (Over (Some Second))
step_by first p (Ok (Some v)) second q (Ok (Some w)) = Ok (Pair (pair_at first p v second q w))

unfoldable pub step_at : List ℕ → ℕ → List ℕ → ℕ → Stepped
step_at first p second q = step_by first p (extent_at first p) second q (extent_at second q)

-- ---- the walk: from step to step as far as both have a record
abbrev pub is_pair : Stepped → Bool
is_pair (Ok (Pair p)) = true
is_pair (Ok (Over side)) = false
is_pair (Err e) = false

abbrev pub reach_at_start : Reach
reach_at_start = record { number = 0; first = 0; second = 0; alike = true }

-- how far the walk is behind a step
unfoldable pub advanced : Stepped → Reach → Reach
advanced (Ok (Pair p)) r =
    record { number = r.number + 1; first = p.first.next; second = p.second.next; alike = r.alike && p.same }
advanced (Ok (Over side)) r = r
advanced (Err e) r = r

abbrev pub else_difference : Option Difference → Option Difference → Option Difference
else_difference (Some d) other = Some d
else_difference None other = other

-- "asked with a record number, give the first record at or after it where .. they differ, with the kinds on both sides"
abbrev pub noted : ℕ → PairOf → Walk → Option Difference
noted from p w =
    cond p.same w.difference
    (else_difference w.difference
    (cond (leb from w.reach.number) (Some (record { number = w.reach.number; first = code p.first.kind; second = code p.second.kind })) None))

unfoldable pub passed : ℕ → Stepped → Walk → Walk
passed from (Ok (Pair p)) w = record { reach = advanced (Ok (Pair p)) w.reach; difference = noted from p w }
passed from (Ok (Over side)) w = w
passed from (Err e) w = w

abbrev pub at_start : Walk
at_start = record { reach = reach_at_start; difference = None }

abbrev pub step_of : List ℕ → List ℕ → Walk → Stepped
step_of first second w = step_at first w.reach.first second w.reach.second

unfoldable pub walk_from : ℕ → List ℕ → List ℕ → ℕ → Walk → Walk
walk_from zero first second from w = w
walk_from (suc more) first second from w =
    cond (is_pair (step_of first second w)) (walk_from more first second from (passed from (step_of first second w) w)) w

unfoldable pub walked : List ℕ → List ℕ → ℕ → Walk
walked first second from = walk_from (suc (length first)) first second from at_start

-- ---- the answer
-- "and say which trace ends first, or neither, and after how many records"
abbrev pub ends_by : Stepped → ℕ → Option Ends
ends_by (Ok (Over side)) n = Some (record { side = side; records = n })
ends_by (Ok (Pair p)) n = None
ends_by (Err e) n = None

-- "equal, whatever number was asked": all that was passed is the same
abbrev pub likeness_if : Bool → Option Side → Likeness
likeness_if false side = Different
likeness_if true (Some side) = Prefix
likeness_if true None = Equal

abbrev pub likeness_by : Stepped → Bool → Option Likeness
likeness_by (Ok (Over side)) alike = Some (likeness_if alike side)
likeness_by (Ok (Pair p)) alike = None
likeness_by (Err e) alike = None

-- a walk over two traces without errors is over at no step at which nothing is told
unfoldable pub concluded : Stepped → Walk → Comparison
concluded s w =
    record {
      difference = w.difference;
      ends = unwrap_or (ends_by s w.reach.number) (record { side = None; records = w.reach.number });
      likeness = unwrap_or (likeness_by s w.reach.alike) (likeness_if w.reach.alike None);
    }

abbrev pub Told : Type 0
Told = Result Comparison Error

-- "with no differences": an error stands alone
abbrev pub unless_error : Fault → Comparison → Told
unless_error (Err e) c = Err e
unless_error (Ok none) c = Ok c

unfoldable pub compared_from : List ℕ → List ℕ → Walk → Comparison
compared_from first second w = concluded (step_of first second w) w

unfoldable pub compared : List ℕ → List ℕ → ℕ → Told
compared first second from = unless_error (error_of first second) (compared_from first second (walked first second from))

-- what is told, and nothing of it beside an error
abbrev pub fault_told : Told → Fault
fault_told (Ok c) = Ok tt
fault_told (Err e) = Err e

abbrev pub difference_told : Told → Option Difference
difference_told (Ok c) = c.difference
difference_told (Err e) = None

abbrev pub ends_told : Told → Option Ends
ends_told (Ok c) = Some c.ends
ends_told (Err e) = None

abbrev pub likeness_told : Told → Option Likeness
likeness_told (Ok c) = Some c.likeness
likeness_told (Err e) = None

-- ---- "When one is a prefix of the other, hand back the remaining records of the longer trace; in every other case, equal
-- traces too, the empty rest of the first"
abbrev pub other_side : Side → Side
other_side First = Second
other_side Second = First

-- the trace that ends first is the prefix
abbrev pub other_of : Option Side → Option Side
other_of (Some side) = Some (other_side side)
other_of None = None

abbrev pub longer_by : Option Likeness → Option Ends → Option Side
longer_by (Some Prefix) (Some ends) = other_of ends.side
longer_by (Some Prefix) None = None
longer_by (Some Equal) e = None
longer_by (Some Different) e = None
longer_by None e = None

abbrev pub longer_of : Told → Option Side
longer_of c = longer_by (likeness_told c) (ends_told c)

abbrev pub rest_by : Option Side → List ℕ → List ℕ → List ℕ
rest_by (Some First) first second = drop (length second) first
rest_by (Some Second) first second = drop (length first) second
rest_by None first second = drop (length first) first

unfoldable pub rest_of : List ℕ → List ℕ → List ℕ
rest_of first second = rest_by (longer_of (compared first second 0)) first second
