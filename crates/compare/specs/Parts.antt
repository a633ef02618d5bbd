-- What a side holds: the places are inside its buffer, and no sum of them passes 64 bits. And what a round does with it.
-- Assumes nothing.
use Rattle.std.specs.Prelude.{◌≡◌, ℕ, suc, ◌+◌, ◌^◌, ◌≤◌, Bool, true, false, cond, not, ◌&&◌, List, length, take, ◌==◌, Option, Some, None, Result, Ok, Err, IsOk, IsErr, ⊤}
use Rattle.std.specs.declared.io.Error.{Error as IoError}
use Rattle.rules.specs.Refusals.{number}
use Rattle.trace.specs.Extents.{extent_at}
use Rattle.comparison.specs.Compare.{Extent, Fault, records_end, error_by}
use Rattle.comparison.specs.declared.Side.{Side}
use Rattle.compare.specs.declared.Failure.{Failure}
use Rattle.compare.specs.declared.Failure.TheVariants.{Unread, Erred}
use Rattle.compare.specs.declared.side.Held.{Held}

pub record Inside (h : Held) (room : ℕ) : Type 0 where
  pub passed : h.place ≤ h.filled
  pub filled : h.filled ≤ room
  pub near : h.base + 2 ^ 32 ≤ 2 ^ 63
  pub small : room ≤ 2 ^ 16

-- the bytes that are held
abbrev pub part : Held → List ℕ → List ℕ
part h buf = take h.filled buf

-- a part that was read anew begins at the first byte that was not passed; where it cannot be read, what is held stays
pub record Refilled (h : Held) (r : Result ⊤ IoError) (t : Held) (room : ℕ) : Type 0 where
  pub inside : Inside t room
  pub begins : IsOk r → t.base ≡ h.base + h.place
  pub anew : IsOk r → t.place ≡ 0
  pub stays : IsErr r → t ≡ h

-- a record that is not whole may become so with more bytes
abbrev pub is_cut : Extent → Bool
is_cut (Ok (Some w)) = false
is_cut (Ok None) = true
is_cut (Err x) = number x == 17

abbrev pub wants_bytes : Extent → Bool → Bool
wants_bytes e last = is_cut e && not last

abbrev pub wants_more : Held → List ℕ → Bool
wants_more h buf = wants_bytes (extent_at (part h buf) h.place) h.last

-- the same part, passed up to another place
abbrev pub passed_to : ℕ → Held → Held
passed_to place h = record { base = h.base; filled = h.filled; place = place; last = h.last }

-- what stands at a place, unless more bytes could make it whole
abbrev pub settled_by : Extent → Bool → Option Extent
settled_by e last = cond (wants_bytes e last) None (Some e)

-- its whole records are passed, and it is over unless more bytes could make the next one whole
pub record Scans (h : Held) (buf : List ℕ) (found : Option Extent) (t : Held) : Type 0 where
  pub held : t ≡ passed_to (records_end (part h buf) h.place) h
  pub inside : Inside t (length buf)
  pub found_there : found ≡ settled_by (extent_at (part h buf) t.place) h.last

-- one round of a walk over one side: it cannot be read, or what was read anew is scanned
pub data OneScan (s : Held) (r : Result (Option Extent) IoError) (t : Held) (buf : List ℕ) : Type 0 where
  unread : Inside t (length buf) → IsErr r → t ≡ s → OneScan s r t buf
  scanned : (h : Held) (done : ⊤) (found : Option Extent) → Refilled s (Ok done) h (length buf) → Scans h buf found t → r ≡ Ok found → OneScan s r t buf

-- rounds of a walk over one side that may try so many, and what is found by the last of them: what stands for good where the whole
-- records end, or that a read failed. One that may still go on has found nothing
pub data Finds : ℕ → Held → Result Extent IoError → Held → Type 0 where
  on : {s m t : Held} {buf : List ℕ} {more : ℕ} {r : Result Extent IoError} → OneScan s (Ok None) m buf → Finds more m r t → Finds (suc more) s r t
  ends : {s t : Held} {buf : List ℕ} {more : ℕ} {end : Extent} → OneScan s (Ok (Some end)) t buf → Finds (suc more) s (Ok end) t
  unread : {s t : Held} {buf : List ℕ} {more : ℕ} {why : IoError} → OneScan s (Err why) t buf → Finds (suc more) s (Err why) t
  unfinished : {s : Held} {why : IoError} → Finds 0 s (Err why) s

-- how a walk over one side ended: its error by what stands where its whole records end, its length where it has none, or that it could
-- not be read
abbrev pub length_unless : Fault → ℕ → Result ℕ Failure
length_unless (Ok none) length = Ok length
length_unless (Err e) length = Err (Erred e)

abbrev pub walked_as : Side → Result Extent IoError → Held → Result ℕ Failure
walked_as side (Ok found) h = length_unless (error_by side found (h.base + h.place)) (h.base + h.place)
walked_as side (Err why) h = Err (Unread side why)
