-- Trace records: one layout, by which records are read and written.
-- Assumes nothing.
use Rattle.std.specs.Prelude.{Bool, cond, not, ◌&&◌, List, [], ◌∷◌, ◌++◌, ℕ, zero, suc, ◌+◌, ◌-◌, ◌*◌, ◌/◌, ◌%◌, ◌^◌, ◌<◌, eqb, leb, ltb, length, get_or, take, drop, Err, None, Ok, Some}
use Rattle.rules.specs.declared.cost.Rates.{Rates}
use Rattle.rules.specs.declared.cost.Bio.{Bio}
use Rattle.rules.specs.declared.refusals.Refusal.TheVariants.{UnknownKind, CutShort, ShortBuffer}
use Rattle.rules.specs.declared.trace.Record.{Record}
use Rattle.rules.specs.declared.trace.Record.TheVariants.{Node, Model, Start, Bio as BioOf, Tick, Plan, Vrate, Weight}
use Rattle.rules.specs.Results.{Read, Write}

-- ---- "numbers little-endian"
unfoldable pub bytes_of : ℕ → ℕ → List ℕ
bytes_of zero n = []
bytes_of (suc width) n = n % 256 ∷ bytes_of width (n / 256)

unfoldable pub number_of : List ℕ → ℕ
number_of [] = 0
number_of (b ∷ bs) = b + 256 * number_of bs

-- ---- "One byte of kind, ..": the widths of the fields of each kind, from 1 on
abbrev pub layouts : List (List ℕ)
layouts =
    (1 ∷ 2 ∷ [])
    ∷ (8 ∷ 8 ∷ 8 ∷ 8 ∷ 8 ∷ 8 ∷ [])
    ∷ (8 ∷ [])
    ∷ (1 ∷ 1 ∷ 4 ∷ 8 ∷ 4 ∷ [])
    ∷ (8 ∷ [])
    ∷ []
    ∷ (2 ∷ [])
    ∷ (1 ∷ 2 ∷ [])
    ∷ []

unfoldable pub is_kind : ℕ → Bool
is_kind kind = leb 1 kind && leb kind (length layouts)

unfoldable pub layout : ℕ → List ℕ
layout kind = get_or layouts (kind - 1) []

abbrev pub total : List ℕ → ℕ
total [] = 0
total (w ∷ ws) = w + total ws

-- ---- "Setup: 1 node .."; "After start: 4 bio .."; request One's "trace record 8"
abbrev pub kind_of : Record → ℕ
kind_of (Node p w) = 1
kind_of (Model r) = 2
kind_of (Start t) = 3
kind_of (BioOf b) = 4
kind_of (Tick t) = 5
kind_of Plan = 6
kind_of (Vrate v) = 7
kind_of (Weight n w) = 8

-- the numbers of a record, in the order of its layout
unfoldable pub fields_of : Record → List ℕ
fields_of (Node p w) = p ∷ w ∷ []
fields_of (Model r) = r.rbps ∷ r.rseqiops ∷ r.rrandiops ∷ r.wbps ∷ r.wseqiops ∷ r.wrandiops ∷ []
fields_of (Start t) = t ∷ []
fields_of (BioOf b) = b.node ∷ b.flags ∷ b.id ∷ b.sector ∷ b.bytes ∷ []
fields_of (Tick t) = t ∷ []
fields_of Plan = []
fields_of (Vrate v) = v ∷ []
fields_of (Weight n w) = n ∷ w ∷ []

abbrev pub rates_of : List ℕ → Rates
rates_of fs = record {
  rbps = get_or fs 0 0;
  rseqiops = get_or fs 1 0;
  rrandiops = get_or fs 2 0;
  wbps = get_or fs 3 0;
  wseqiops = get_or fs 4 0;
  wrandiops = get_or fs 5 0;
}

abbrev pub bio_of : List ℕ → Bio
bio_of fs = record {
  node = get_or fs 0 0;
  flags = get_or fs 1 0;
  id = get_or fs 2 0;
  sector = get_or fs 3 0;
  bytes = get_or fs 4 0;
}

-- the record of a known kind with these numbers
unfoldable pub record_of : ℕ → List ℕ → Record
record_of kind fs =
    cond (eqb kind 1) (Node (get_or fs 0 0) (get_or fs 1 0))
    (cond (eqb kind 2) (Model (rates_of fs))
    (cond (eqb kind 3) (Start (get_or fs 0 0))
    (cond (eqb kind 4) (BioOf (bio_of fs))
    (cond (eqb kind 5) (Tick (get_or fs 0 0))
    (cond (eqb kind 6) Plan
    (cond (eqb kind 7) (Vrate (get_or fs 0 0)) (Weight (get_or fs 0 0) (get_or fs 1 0))))))))

-- ---- written
unfoldable pub body_of : List ℕ → List ℕ → List ℕ
body_of [] fs = []
body_of (w ∷ ws) [] = []
body_of (w ∷ ws) (f ∷ fs) = bytes_of w f ++ body_of ws fs

unfoldable pub record_bytes : Record → List ℕ
record_bytes r = kind_of r ∷ body_of (layout (kind_of r)) (fields_of r)

-- a record "whose numbers fit their widths": as many numbers as widths, each below 256 to its width
abbrev pub FitsIn : List ℕ → List ℕ → Type 0
FitsIn [] [] = Unit {0}
FitsIn [] (f ∷ fs) = ⊥
FitsIn (w ∷ ws) [] = ⊥
FitsIn (w ∷ ws) (f ∷ fs) = (f < 256 ^ w) × FitsIn ws fs

unfoldable pub Fits : Record → Type 0
Fits r = FitsIn (layout (kind_of r)) (fields_of r)

-- "The writer writes .."; 28 where the lent buffer is too short
unfoldable pub writing : Record → List ℕ → Write
writing r lent = cond (ltb (length lent) (length (record_bytes r))) (Err ShortBuffer) (Ok (length (record_bytes r)))

unfoldable pub written_to : Record → List ℕ → List ℕ
written_to r lent =
    cond (ltb (length lent) (length (record_bytes r))) lent (record_bytes r ++ drop (length (record_bytes r)) lent)

-- ---- read
unfoldable pub fields_from : List ℕ → List ℕ → List ℕ
fields_from [] bytes = []
fields_from (w ∷ ws) bytes = number_of (take w bytes) ∷ fields_from ws (drop w bytes)

-- where the record of this kind ends that begins at a place
unfoldable pub behind : ℕ → ℕ → ℕ
behind kind at = at + 1 + total (layout kind)

unfoldable pub read_kind : List ℕ → ℕ → ℕ → Read
read_kind trace at kind =
    cond (not (is_kind kind)) (Err UnknownKind)
    (cond (ltb (length trace) (behind kind at)) (Err CutShort)
    (Ok (Some (record { item = record_of kind (fields_from (layout kind) (drop (at + 1) trace)); next = behind kind at }))))

-- "At the end it answers .."
unfoldable pub read_at : List ℕ → ℕ → Read
read_at trace at =
    cond (ltb (length trace) at) (Err CutShort) (cond (eqb at (length trace)) (Ok None) (read_kind trace at (get_or trace at 0)))
