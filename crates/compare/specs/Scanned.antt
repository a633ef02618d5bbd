-- Rounds of the first walk, one after the other, find the error of a trace, or that it has none, and its length. That the reads bring
-- the bytes of the trace is taken for granted here: no contract can say it.
-- Assumes nothing.
use Rattle.std.specs.Prelude.{◌≡◌, ℕ, zero, suc, ◌+◌, Bool, true, false, cond, List, [], length, Option, Some, None, Ok, Err, ⊤}
use Rattle.std.proofs.Math.Path.{refl}
use Rattle.std.proofs.Common.{ap, ◌∙◌, arith}
use Rattle.rules.proofs.Laws.Bools.{never}
use Rattle.trace.specs.Extents.{extent_at}
use Rattle.comparison.specs.Compare.{Extent, is_whole, past_of, records_end_from, records_end, error_by, error_in}
use Rattle.comparison.proofs.Laws.Steps.{Extending, each_extent, records_end_here, records_end_on}
use Rattle.comparison.proofs.Laws.Steps.Extending.{stands, over, broken}
use Rattle.comparison.proofs.Laws.Records.{none_stands_there}
use Rattle.comparison.specs.declared.Side.{Side}
use Rattle.listing.specs.Whole.{Held as PartOf, whole_there}
use Rattle.compare.specs.Parts.{part, wants_bytes, Refilled, Scans}
use Rattle.compare.specs.Runs.{shifted_extent, settled}
use Rattle.compare.specs.declared.side.Held.{Held}

-- ---- a walk over one side: rounds that read on and go on, up to one that is over, and what it found there
pub data Scanned (trace : List ℕ) : Held → Extent → Held → Type 0 where
  on : {s t e : Held} {buf : List ℕ} {end : Extent} {done : ⊤} {found : Option Extent} (h : Held) → Refilled s (Ok done) h (length buf) → Scans h buf found t
      → PartOf trace h.base (part h buf) → Scanned trace t end e → Scanned trace s end e
  end : {s t : Held} {buf : List ℕ} {found : Extent} {done : ⊤} (h : Held) → Refilled s (Ok done) h (length buf) → Scans h buf (Some found) t
      → (p : PartOf trace h.base (part h buf)) → (h.last ≡ true → p.later ≡ []) → Scanned trace s found t

-- whole records of a part are whole records of the trace
module _ {trace : List ℕ} {from : ℕ} {here : List ℕ} (p : PartOf trace from here) where
  passes_from : (f at : ℕ) → records_end trace (from + at) ≡ records_end trace (from + records_end_from f here at)
  unfolding records_end_from
  passes_from zero at = refl
  passes_from (suc f) at = go (each_extent here at) (λ next. passes_from f next)
    where
      go : {e : Extent} → Extending here at e → ((next : ℕ) → records_end trace (from + next) ≡ records_end trace (from + records_end_from f here next))
          → records_end trace (from + at) ≡ records_end trace (from + cond (is_whole e) (records_end_from f here (past_of e at)) at)
      go (stands {w} v) rest = records_end_on trace (from + at) (whole_there p v).extent ∙ rest w.next
      go (over e) rest = refl
      go (broken e) rest = refl

  passes : (at : ℕ) → records_end trace (from + at) ≡ records_end trace (from + records_end here at)
  unfolding records_end
  passes at = passes_from (suc (length here)) at

-- where a side stands in its trace
abbrev pub position : Held → ℕ
position s = s.base + s.place

-- a part that is over: the place is where whole records end, and what stands there is what stands in the trace
pub record Found (trace : List ℕ) (found : Extent) (e : Held) : Type 0 where
  pub stops : records_end trace (position e) ≡ position e
  pub there : extent_at trace (position e) ≡ shifted_extent e.base found

still_no_record : (k : ℕ) (e : Extent) → is_whole (shifted_extent k e) ≡ is_whole e
still_no_record k (Ok (Some w)) = refl
still_no_record k (Ok None) = refl
still_no_record k (Err x) = refl

-- what is told is for good
for_good : (wants : Bool) (e found : Extent) → Some found ≡ cond wants None (Some e) → (wants ≡ false) × (found ≡ e)
for_good true e found h = never (cc)
for_good false e found h = (refl, cc)

module _ (trace : List ℕ) where
  -- a round leaves the end of the whole records where it was
  same_end : (s t : Held) (buf : List ℕ) (h : Held) {done : ⊤} {found : Option Extent} → Refilled s (Ok done) h (length buf) → Scans h buf found t
      → PartOf trace h.base (part h buf) → records_end trace (position s) ≡ records_end trace (position t)
  same_end s t buf h f v p =
      let begins : position s ≡ h.base + h.place = omega (arith, f.begins refl, f.anew refl) in
      ap (records_end trace) begins ∙ passes p h.place ∙ rw v.held

  ends_here : (at : ℕ) → is_whole (extent_at trace at) ≡ false → records_end trace at ≡ at
  unfolding records_end
  ends_here at e = records_end_here trace (suc (length trace)) at e

  found_there : (t : Held) (buf : List ℕ) (h : Held) {found : Extent} → Scans h buf (Some found) t → (p : PartOf trace h.base (part h buf))
      → (h.last ≡ true → p.later ≡ []) → Found trace found t
  found_there t buf h {found} v p none =
      let at : ℕ = records_end (part h buf) h.place in
      let place : t.place ≡ at = rw v.held in
      let base : t.base ≡ h.base = rw v.held in
      let good = for_good (wants_bytes (extent_at (part h buf) t.place) h.last) (extent_at (part h buf) t.place) found v.found_there in
      let here : found ≡ extent_at (part h buf) at = good.1 ∙ rw place in
      let full : wants_bytes (extent_at (part h buf) at) h.last ≡ false = rw place at good.0 in
      let there : extent_at trace (h.base + at) ≡ shifted_extent h.base (extent_at (part h buf) at) = settled p at h.last none full in
      let no_record : is_whole (extent_at trace (h.base + at)) ≡ false =
      ap is_whole there ∙ still_no_record h.base (extent_at (part h buf) at) ∙ none_stands_there (part h buf) h.place in
      let where-it-is : position t ≡ h.base + at = rw (place, base) in
      record { stops = rw where-it-is (ends_here (h.base + at) no_record); there = rw (where-it-is, base, here) there }

  walk_ends : {s e : Held} {found : Extent} → Scanned trace s found e → (records_end trace (position s) ≡ position e) × Found trace found e
  walk_ends {s} (on {t = t} {buf = buf} h f v p rest) =
      let w = walk_ends rest in
      (same_end s t buf h f v p ∙ w.0, w.1)
  walk_ends {s} (end {t = t} {buf = buf} h f v p none) =
      let w = found_there t buf h v p none in
      (same_end s t buf h f v p ∙ w.stops, w)

  still_that_error : (side : Side) (k at : ℕ) (e : Extent) → error_by side (shifted_extent k e) at ≡ error_by side e at
  still_that_error side k at (Ok (Some w)) = refl
  still_that_error side k at (Ok None) = refl
  still_that_error side k at (Err x) = refl

  -- a walk from the beginning of a trace finds its error, or none
  pub a_walk_finds_the_error : (side : Side) {s e : Held} {found : Extent} → position s ≡ 0 → Scanned trace s found e → error_in side trace ≡ error_by side found (position e)
  unfolding error_in
  a_walk_finds_the_error side {s} {e} {found} begins walk =
      let w = walk_ends walk in
      let end : records_end trace 0 ≡ position e = rw begins at w.0 in
      rw (end, w.1.there) (still_that_error side e.base (position e) found)
