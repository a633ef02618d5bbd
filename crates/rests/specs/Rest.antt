-- The rest that is handed back is whole records to its end: a walk over it stops nowhere before.
-- Assumes nothing.
use Rattle.std.specs.Prelude.{◌≡◌, List, [], ◌++◌, ℕ, ◌+◌, ◌≤◌, length, Option, Some, None, Ok, Err}
use Rattle.std.proofs.Math.Path.{refl, sym, ap}
use Rattle.std.proofs.Common.{◌∙◌, ⊎_elim, arith, length-append, drop_at}
use Rattle.rules.specs.Trace.{read_at}
use Rattle.rules.specs.Results.{Read, found}
use Rattle.trace.specs.Extents.{extent_of}
use Rattle.rules.proofs.Laws.Bools.{never}
use Rattle.rules.proofs.Laws.Pieces.{shifted, shifted_with_less}
use Rattle.rules.specs.declared.trace.Record.{Record}
use Rattle.comparison.specs.Compare.{past_of, error_in, compared, likeness_told, rest_of}
use Rattle.comparison.proofs.Laws.Steps.{extent_of_lem, whole_at}
use Rattle.comparison.proofs.Laws.Records.{Records, without_error, records_have_no_error}
use Rattle.comparison.proofs.Laws.Records.Records.{none_left, one_more}
use Rattle.comparison.proofs.Laws.Lists.{goes_likewise}
use Rattle.comparison.proofs.Theorems.{no_error, the_rest_makes_the_longer, otherwise_no_rest, prefix_without_error}
use Rattle.comparison.specs.declared.Side.{Side}
use Rattle.comparison.specs.declared.Side.TheVariants.{First, Second}
use Rattle.comparison.specs.declared.Likeness.{Likeness}
use Rattle.comparison.specs.declared.Likeness.TheVariants.{Equal, Prefix, Different}

-- ---- records behind records
module _ (a b : List ℕ) where
  read_behind : (at : ℕ) → read_at (a ++ b) (length a + at) ≡ shifted (length a) (read_at b at)
  read_behind at =
      let long : length a ≤ length (a ++ b) = rw length-append (omega arith) in
      shifted_with_less (a ++ b) (length a) long at ∙ ap (λ (l : List ℕ). shifted (length a) (read_at l at)) (drop_at a b (length a) refl)

  record FoundBehind (at next : ℕ) : Type 0 where
    it : Record
    to : ℕ
    reads : read_at b at ≡ found it to
    on : next ≡ length a + to

  found_behind : (at next : ℕ) (r : Record) → read_at (a ++ b) (length a + at) ≡ found r next → FoundBehind at next
  unfolding shifted
  found_behind at next r e = go (read_at b at) refl
    where
      go : (read : Read) → read_at b at ≡ read → FoundBehind at next
      go (Ok (Some s)) f =
          let same : found r next ≡ found s.item (length a + s.next) = sym e ∙ read_behind at ∙ ap (shifted (length a)) f in
          record { it = s.item; to = s.next; reads = f; on = ap (λ (read : Read). past_of (extent_of read) 0) same }
      go (Ok None) f =
          let same : found r next ≡ Ok None = sym e ∙ read_behind at ∙ ap (shifted (length a)) f in
          never (cc)
      go (Err x) f =
          let same : found r next ≡ Err x = sym e ∙ read_behind at ∙ ap (shifted (length a)) f in
          never (cc)

  behind : {p : ℕ} {ss : List (List ℕ)} → Records (a ++ b) p ss → (at : ℕ) → p ≡ length a + at → (ts : List (List ℕ)) × Records b at ts
  behind (none_left d) at e = ([], none_left {at = at} (omega (arith, length-append a b)))
  behind (one_more {w = v} w more) at e =
      let f = found_behind at v.next _ (rw e at w.reads) in
      (_, one_more (whole_at b at (extent_of_lem b at _ f.reads)) (behind more f.to f.on).1)

  rest_of_longer : (side s t : Side) → error_in s a ≡ Ok tt → error_in t (a ++ b) ≡ Ok tt → error_in side b ≡ Ok tt
  rest_of_longer side s t d e =
      let on = goes_likewise a b (without_error a s d).1 (without_error (a ++ b) t e).1 in
      records_have_no_error b side (behind on.behind 0 (omega arith)).1

-- ---- the rest
pub the_rest_has_no_error : (side : Side) (first second : List ℕ) → error_in side (rest_of first second) ≡ Ok tt
the_rest_has_no_error side first second = go (likeness_told (compared first second 0)) refl
  where
    none : rest_of first second ≡ [] → error_in side (rest_of first second) ≡ Ok tt
    none e = rw e (records_have_no_error [] side (none_left refl))

    go : (l : Option Likeness) → likeness_told (compared first second 0) ≡ l → error_in side (rest_of first second) ≡ Ok tt
    go (Some Prefix) e =
        let sound = prefix_without_error first second e in
        let r = the_rest_makes_the_longer first second sound e in
        let n = r.one_ends.0 in
        ⊎_elim
        (λ h. rest_of_longer first (rest_of first second) side First Second (no_error first second sound).0 (rw (r.of_the_second n h) (no_error first second sound).1))
        (λ h. rest_of_longer second (rest_of first second) side Second First (no_error first second sound).1 (rw (r.of_the_first n h) (no_error first second sound).0))
        r.one_ends.1
    go (Some Equal) e = none (otherwise_no_rest first second (λ h. never (cc)))
    go (Some Different) e = none (otherwise_no_rest first second (λ h. never (cc)))
    go None e = none (otherwise_no_rest first second (λ h. never (cc)))
