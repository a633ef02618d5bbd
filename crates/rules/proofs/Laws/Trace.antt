-- Laws of trace records: a number and its bytes, a body and its fields, a record written and read back, a record read and
-- written back, and the same of a whole trace.
-- Assumes nothing.
use Rattle.std.specs.Prelude.{◌≡◌, Bool, List, [], ◌∷◌, ◌++◌, ◌⊎◌, ◌↔◌, ℕ, zero, suc, ◌+◌, ◌-◌, ◌*◌, ◌/◌, ◌%◌, ◌^◌, ◌≤◌, ◌<◌, eqb, leb, get_or, take, Err, None, Ok, Some}
use Rattle.std.proofs.Math.Path.{refl}
use Rattle.std.proofs.Common.{sym, ap, ◌∙◌, append-nil, append_assoc, inl, inr, ⊎_elim, div-one, zero-add, add-one, arith, lit<, take-append-drop, length-append, length-take, length-drop, drop-cons, drop-drop, take-add, take_at, drop_at, get_or-drop}
use Rattle.std.proofs.Math.Bool.{true, false, cond}
use Rattle.std.proofs.Math.Nat.{pow-succ', pow-zero, div-add-mod, div-div-eq-div-mul}
use Rattle.std.proofs.Math.Dec.{ltb}
use Rattle.std.proofs.Math.ListN.{length, drop}
use Rattle.std.proofs.Math.Seq.{drop-length, drop-append-add}
use Rattle.std.proofs.lemmas.List.{get_or_at}
use borrow.Author.Tests.{ltb-true, ltb-false, leb-true, eqb-true, eqb-false, lt-ltb, le-ltb, eq-eqb, ne_eqb}
use Rattle.rules.specs.Words.{table_from}
use Rattle.rules.specs.Trace.{bytes_of, number_of, is_kind, layout, total, kind_of, fields_of, record_of, body_of, record_bytes, FitsIn, Fits, writing, written_to, fields_from, behind, read_kind, read_at}
use Rattle.rules.proofs.Laws.Bools.{never, true_not_false, and_right}
use Rattle.rules.specs.declared.refusals.Refusal.{Refusal}
use Rattle.rules.specs.declared.refusals.Refusal.TheVariants.{UnknownKind, CutShort, ShortBuffer}
use Rattle.rules.specs.declared.trace.Record.{Record}
use Rattle.rules.specs.declared.trace.Record.TheVariants.{Node, Model, Start, Bio as BioOf, Tick, Plan, Vrate, Weight}
use Rattle.rules.specs.Results.{Read, found}

-- ---- a number and its bytes

-- every place of the list holds a byte
abbrev pub Bytes : List ℕ → Type 0
Bytes bs = (i : ℕ) → get_or bs i 0 < 256

pub bytes_drop : (n : ℕ) (bs : List ℕ) → Bytes bs → Bytes (drop n bs)
bytes_drop n bs h i = rw get_or-drop (h (n + i))

pub bytes_take : (n : ℕ) (bs : List ℕ) → Bytes bs → Bytes (take n bs)
bytes_take zero bs h i = lit< tt
bytes_take (suc n) [] h i = lit< tt
bytes_take (suc n) (b ∷ bs) h zero = h 0
bytes_take (suc n) (b ∷ bs) h (suc i) = bytes_take n bs (λ j. h (suc j)) i

pub length_bytes : (w n : ℕ) → length (bytes_of w n) ≡ w
unfolding bytes_of
length_bytes zero n = refl
length_bytes (suc w) n = ap suc (length_bytes w _)

-- the last of one byte more
pub bytes_snoc : (w n : ℕ) → bytes_of (suc w) n ≡ bytes_of w n ++ ((n / 256 ^ w) % 256 ∷ [])
unfolding bytes_of
bytes_snoc zero n = rw (pow-zero, div-one)
bytes_snoc (suc w) n = rw (bytes_snoc w (n / 256), pow-succ', div-div-eq-div-mul)

pub number_of_bytes : (w n : ℕ) → n < 256 ^ w → number_of (bytes_of w n) ≡ n
unfolding bytes_of number_of
number_of_bytes zero n h = omega (arith, pow-zero 256)
number_of_bytes (suc w) n h =
    let more : n < 256 * 256 ^ w = rw pow-succ' at h in
    let fits : n / 256 < 256 ^ w = omega arith in
    rw (number_of_bytes w (n / 256) fits) (omega (arith, div-add-mod n 256))

pub bytes_of_number : (bs : List ℕ) → Bytes bs → bytes_of (length bs) (number_of bs) ≡ bs
unfolding bytes_of number_of
bytes_of_number [] h = refl
bytes_of_number (b ∷ bs) h =
    let here : b < 256 = h 0 in
    let low : (b + 256 * number_of bs) % 256 ≡ b = omega arith in
    let high : (b + 256 * number_of bs) / 256 ≡ number_of bs = omega arith in
    rw (low, high, bytes_of_number bs (λ i. h (suc i)))

pub number_below : (bs : List ℕ) → Bytes bs → number_of bs < 256 ^ length bs
unfolding number_of
number_below [] h = lit< tt
number_below (b ∷ bs) h =
    let here : b < 256 = h 0 in
    rw pow-succ' (omega (arith, number_below bs (λ i. h (suc i))))

-- one byte more in front of a number's bytes, at a place of a trace
pub number_more : (bs : List ℕ) (i k : ℕ) → i < length bs
    → number_of (take (suc k) (drop i bs)) ≡ get_or bs i 0 + 256 * number_of (take k (drop (suc i) bs))
unfolding number_of
number_more bs i k h = rw (drop-cons bs i 0 h)

-- ---- a body and its fields
pub length_body : (ws fs : List ℕ) → FitsIn ws fs → length (body_of ws fs) ≡ total ws
unfolding body_of
length_body [] [] h = refl
length_body [] (f ∷ fs) h = absurd h
length_body (w ∷ ws) [] h = absurd h
length_body (w ∷ ws) (f ∷ fs) h = rw (length-append, length_bytes, length_body ws fs h.1)

pub fields_of_body : (ws fs rest : List ℕ) → FitsIn ws fs → fields_from ws (body_of ws fs ++ rest) ≡ fs
unfolding fields_from body_of
fields_of_body [] [] rest h = refl
fields_of_body [] (f ∷ fs) rest h = absurd h
fields_of_body (w ∷ ws) [] rest h = absurd h
fields_of_body (w ∷ ws) (f ∷ fs) rest h =
    let long : length (bytes_of w f) ≡ w = length_bytes w f in
    rw (append_assoc, take_at (bytes_of w f) (body_of ws fs ++ rest) w long, drop_at (bytes_of w f) (body_of ws fs ++ rest) w long)
    (rw (number_of_bytes w f h.0, fields_of_body ws fs rest h.1))

pub body_of_fields : (ws bs : List ℕ) → Bytes bs → total ws ≤ length bs → body_of ws (fields_from ws bs) ≡ take (total ws) bs
unfolding fields_from body_of
body_of_fields [] bs h l = refl
body_of_fields (w ∷ ws) bs h l =
    let long : length (take w bs) ≡ w = simp length-take (omega arith) in
    let here : bytes_of w (number_of (take w bs)) ≡ take w bs = rw long at (bytes_of_number (take w bs) (bytes_take w bs h)) in
    let left : total ws ≤ length (drop w bs) = simp length-drop (omega arith) in
    rw (here, body_of_fields ws (drop w bs) (bytes_drop w bs h) left, take-add)

-- a number from each width's bytes fits that width
pub fields_fit : (ws bs : List ℕ) → Bytes bs → total ws ≤ length bs → FitsIn ws (fields_from ws bs)
unfolding fields_from
fields_fit [] bs h l = tt
fields_fit (w ∷ ws) bs h l =
    let long : length (take w bs) ≡ w = simp length-take (omega arith) in
    let left : total ws ≤ length (drop w bs) = simp length-drop (omega arith) in
    (rw long at (number_below (take w bs) (bytes_take w bs h)), fields_fit ws (drop w bs) (bytes_drop w bs h) left)

-- ---- a record, its kind and its fields
pub kinds : (P : ℕ → Type 0) → P 1 → P 2 → P 3 → P 4 → P 5 → P 6 → P 7 → P 8 → (kind : ℕ) → is_kind kind ≡ true → P kind
unfolding is_kind
kinds P p1 p2 p3 p4 p5 p6 p7 p8 zero e = absurd (true_not_false e refl)
kinds P p1 p2 p3 p4 p5 p6 p7 p8 (suc zero) e = p1
kinds P p1 p2 p3 p4 p5 p6 p7 p8 (suc (suc zero)) e = p2
kinds P p1 p2 p3 p4 p5 p6 p7 p8 (suc (suc (suc zero))) e = p3
kinds P p1 p2 p3 p4 p5 p6 p7 p8 (suc (suc (suc (suc zero)))) e = p4
kinds P p1 p2 p3 p4 p5 p6 p7 p8 (suc (suc (suc (suc (suc zero))))) e = p5
kinds P p1 p2 p3 p4 p5 p6 p7 p8 (suc (suc (suc (suc (suc (suc zero)))))) e = p6
kinds P p1 p2 p3 p4 p5 p6 p7 p8 (suc (suc (suc (suc (suc (suc (suc zero))))))) e = p7
kinds P p1 p2 p3 p4 p5 p6 p7 p8 (suc (suc (suc (suc (suc (suc (suc (suc zero)))))))) e = p8
kinds P p1 p2 p3 p4 p5 p6 p7 p8 (suc (suc (suc (suc (suc (suc (suc (suc (suc kind))))))))) e =
    let most : suc (suc (suc (suc (suc (suc (suc (suc (suc kind)))))))) ≤ 8 = leb-true _ _ (and_right (leb 1 (suc (suc (suc (suc (suc (suc (suc (suc (suc kind)))))))))) _ e) in
    absurd (omega arith)

pub kind_known : (r : Record) → is_kind (kind_of r) ≡ true
unfolding is_kind
kind_known (Node p w) = refl
kind_known (Model r) = refl
kind_known (Start t) = refl
kind_known (BioOf b) = refl
kind_known (Tick t) = refl
kind_known Plan = refl
kind_known (Vrate v) = refl
kind_known (Weight n w) = refl

pub record_of_fields : (r : Record) → record_of (kind_of r) (fields_of r) ≡ r
unfolding fields_of record_of
record_of_fields (Node p w) = refl
record_of_fields (Model r) = refl
record_of_fields (Start t) = refl
record_of_fields (BioOf b) = refl
record_of_fields (Tick t) = refl
record_of_fields Plan = refl
record_of_fields (Vrate v) = refl
record_of_fields (Weight n w) = refl

pub kind_of_record : (fs : List ℕ) (kind : ℕ) → is_kind kind ≡ true → kind_of (record_of kind fs) ≡ kind
unfolding record_of
kind_of_record fs = kinds (λ kind. kind_of (record_of kind fs) ≡ kind) refl refl refl refl refl refl refl refl

pub fields_of_record : (bs : List ℕ) (kind : ℕ) → is_kind kind ≡ true
    → fields_of (record_of kind (fields_from (layout kind) bs)) ≡ fields_from (layout kind) bs
unfolding fields_of record_of fields_from layout
fields_of_record bs =
    kinds (λ kind. fields_of (record_of kind (fields_from (layout kind) bs)) ≡ fields_from (layout kind) bs) refl refl refl refl refl refl refl refl

-- ---- each answer of reading at a place, and when it is given
module _ (trace : List ℕ) (at : ℕ) where
  pub beyond_is_cut : length trace < at → read_at trace at ≡ Err CutShort
  unfolding read_at
  beyond_is_cut h = rw (lt-ltb (length trace) at h)

  pub end_at_the_end : at ≡ length trace → read_at trace at ≡ Ok None
  unfolding read_at
  end_at_the_end e = rw (le-ltb (length trace) at (omega arith), eq-eqb at (length trace) e)

  module _ (inside : at < length trace) where
    pub inside_by_kind : read_at trace at ≡ read_kind trace at (get_or trace at 0)
    unfolding read_at
    inside_by_kind = rw (le-ltb (length trace) at (omega arith), ne_eqb at (length trace) (omega arith))

    pub unknown_is_refused : is_kind (get_or trace at 0) ≡ false → read_at trace at ≡ Err UnknownKind
    unfolding read_kind
    unknown_is_refused k = inside_by_kind ∙ rw k

    pub short_is_cut : is_kind (get_or trace at 0) ≡ true → length trace < behind (get_or trace at 0) at → read_at trace at ≡ Err CutShort
    unfolding read_kind
    short_is_cut k h = inside_by_kind ∙ rw (k, lt-ltb (length trace) (behind (get_or trace at 0) at) h)

    pub whole_is_found : is_kind (get_or trace at 0) ≡ true → behind (get_or trace at 0) at ≤ length trace
        → read_at trace at ≡ found (record_of (get_or trace at 0) (fields_from (layout (get_or trace at 0)) (drop (at + 1) trace))) (behind (get_or trace at 0) at)
    unfolding read_kind
    whole_is_found k h = inside_by_kind ∙ rw (k, le-ltb (length trace) (behind (get_or trace at 0) at) h)

-- the record that stands at a place, if a whole one does, and where it ends
abbrev pub record_at : List ℕ → ℕ → Record
record_at trace at = record_of (get_or trace at 0) (fields_from (layout (get_or trace at 0)) (drop (at + 1) trace))

abbrev pub end_at : List ℕ → ℕ → ℕ
end_at trace at = behind (get_or trace at 0) at

-- the five cases of reading at a place; no two hold together, so each answer is given exactly where it should be
pub data Reading (trace : List ℕ) (at : ℕ) : Read → Type 0 where
  beyond : length trace < at → Reading trace at (Err CutShort)
  ended : at ≡ length trace → Reading trace at (Ok None)
  unknown : at < length trace → is_kind (get_or trace at 0) ≡ false → Reading trace at (Err UnknownKind)
  cut : at < length trace → is_kind (get_or trace at 0) ≡ true → length trace < end_at trace at → Reading trace at (Err CutShort)
  whole : is_kind (get_or trace at 0) ≡ true → end_at trace at ≤ length trace → Reading trace at (found (record_at trace at) (end_at trace at))

pub each_answer : (trace : List ℕ) (at : ℕ) → Reading trace at (read_at trace at)
each_answer trace at = by_place (ltb (length trace) at) refl
  where
    by_length : at < length trace → is_kind (get_or trace at 0) ≡ true → (b : Bool) → ltb (length trace) (end_at trace at) ≡ b → Reading trace at (read_at trace at)
    by_length i k true h = rw (short_is_cut trace at i k (ltb-true _ _ h)) (cut i k (ltb-true _ _ h))
    by_length i k false h = rw (whole_is_found trace at i k (ltb-false _ _ h)) (whole k (ltb-false _ _ h))

    by_kind : at < length trace → (b : Bool) → is_kind (get_or trace at 0) ≡ b → Reading trace at (read_at trace at)
    by_kind i true k = by_length i k (ltb (length trace) (end_at trace at)) refl
    by_kind i false k = rw (unknown_is_refused trace at i k) (unknown i k)

    by_end : at ≤ length trace → (b : Bool) → eqb at (length trace) ≡ b → Reading trace at (read_at trace at)
    by_end l true h = rw (end_at_the_end trace at (eqb-true _ _ h)) (ended (eqb-true _ _ h))
    by_end l false h =
        let other : at ≡ length trace → ⊥ = eqb-false _ _ h in
        by_kind (omega arith) (is_kind (get_or trace at 0)) refl

    by_place : (b : Bool) → ltb (length trace) at ≡ b → Reading trace at (read_at trace at)
    by_place true h = rw (beyond_is_cut trace at (ltb-true _ _ h)) (beyond (ltb-true _ _ h))
    by_place false h = by_end (ltb-false _ _ h) (eqb at (length trace)) refl

ended_only : {trace : List ℕ} {at : ℕ} → Reading trace at (Ok None) → at ≡ length trace
ended_only (ended e) = e

pub end_only_at_the_end : (trace : List ℕ) (at : ℕ) → read_at trace at ≡ Ok None → at ≡ length trace
end_only_at_the_end trace at e = ended_only (rw e at (each_answer trace at))

-- a record is found only whole, and of a known kind
pub record FoundAt (trace : List ℕ) (at : ℕ) (r : Record) (next : ℕ) : Type 0 where
  pub known : is_kind (get_or trace at 0) ≡ true
  pub inside : end_at trace at ≤ length trace
  pub it : r ≡ record_at trace at
  pub to : next ≡ end_at trace at

whole_only : {trace : List ℕ} {at : ℕ} {r : Record} {next : ℕ} → Reading trace at (found r next) → FoundAt trace at r next
whole_only (whole k l) = record { known = k; inside = l; it = refl; to = refl }

pub found_only_whole : (trace : List ℕ) (at : ℕ) (r : Record) (next : ℕ) → read_at trace at ≡ found r next → FoundAt trace at r next
found_only_whole trace at r next e = whole_only (rw e at (each_answer trace at))

-- ---- refusals 16, 17 and 28
unknown_only : {trace : List ℕ} {at : ℕ} → Reading trace at (Err UnknownKind) → (at < length trace) × (is_kind (get_or trace at 0) ≡ false)
unknown_only (unknown i k) = (i, k)

-- a known kind whose body is not all there
pub record CutAt (trace : List ℕ) (at : ℕ) : Type 0 where
  pub inside : at < length trace
  pub known : is_kind (get_or trace at 0) ≡ true
  pub short : length trace < end_at trace at

cut_only : {trace : List ℕ} {at : ℕ} → Reading trace at (Err CutShort) → (length trace < at) ⊎ CutAt trace at
cut_only (beyond h) = inl h
cut_only (cut i k h) = inr (record { inside = i; known = k; short = h })

module _ (trace : List ℕ) (at : ℕ) where
  pub refusal_16_exactly_when : (read_at trace at ≡ Err UnknownKind) ↔ ((at < length trace) × (is_kind (get_or trace at 0) ≡ false))
  refusal_16_exactly_when = (λ e. unknown_only (rw e at (each_answer trace at)), λ w. unknown_is_refused trace at w.0 w.1)

  pub refusal_17_exactly_when : (read_at trace at ≡ Err CutShort) ↔ ((length trace < at) ⊎ CutAt trace at)
  refusal_17_exactly_when = (
    λ e. cut_only (rw e at (each_answer trace at)),
    ⊎_elim (beyond_is_cut trace at) (λ (w : CutAt trace at). short_is_cut trace at w.inside w.known w.short),
  )

module _ (r : Record) (lent : List ℕ) where
  pub refusal_28_exactly_when : (writing r lent ≡ Err ShortBuffer) ↔ (length lent < length (record_bytes r))
  unfolding writing
  refusal_28_exactly_when = go (ltb (length lent) (length (record_bytes r))) refl
    where
      go : (b : Bool) → ltb (length lent) (length (record_bytes r)) ≡ b
          → (cond b (Err ShortBuffer) (Ok (length (record_bytes r))) ≡ Err ShortBuffer) ↔ (length lent < length (record_bytes r))
      go true h = (λ e. ltb-true _ _ h, λ l. refl)
      go false h = (λ e. never (cc), λ l. absurd (omega (arith, ltb-false (length lent) (length (record_bytes r)) h)))

  pub a_refused_write_changes_nothing : (x : Refusal) → writing r lent ≡ Err x → written_to r lent ≡ lent
  unfolding writing written_to
  a_refused_write_changes_nothing x = go (ltb (length lent) (length (record_bytes r)))
    where
      go : (b : Bool) → cond b (Err ShortBuffer) (Ok (length (record_bytes r))) ≡ Err x
          → cond b lent (record_bytes r ++ drop (length (record_bytes r)) lent) ≡ lent
      go true e = refl
      go false e = never (cc)

-- ---- written, then read
body_is_found : (front body rest : List ℕ) (kind : ℕ) → is_kind kind ≡ true → length body ≡ total (layout kind)
    → read_at (front ++ (kind ∷ body ++ rest)) (length front) ≡ found (record_of kind (fields_from (layout kind) (body ++ rest))) (length front + suc (length body))
unfolding behind
body_is_found front body rest kind known long =
    let trace : List ℕ = front ++ (kind ∷ body ++ rest) in
    let all : length trace ≡ length front + suc (length body + length rest) = simp length-append (omega arith) in
    let here : get_or trace (length front) 0 ≡ kind = get_or_at front kind (body ++ rest) 0 (length front) refl in
    let ends : length front + 1 + total (layout kind) ≡ length front + suc (length body) = omega arith in
    let past : drop (length front + 1) trace ≡ body ++ rest = drop-append-add front (kind ∷ body ++ rest) 1 in
    whole_is_found trace (length front) (omega arith) (rw here known) (rw (here, ends) (omega arith)) ∙ rw (here, past, ends)

pub written_reads_back_at : (front rest : List ℕ) (r : Record) → Fits r
    → read_at (front ++ (record_bytes r ++ rest)) (length front) ≡ found r (length front + length (record_bytes r))
unfolding Fits record_bytes
written_reads_back_at front rest r fits =
    body_is_found front (body_of (layout (kind_of r)) (fields_of r)) rest (kind_of r) (kind_known r) (length_body (layout (kind_of r)) (fields_of r) fits)
    ∙ rw (fields_of_body (layout (kind_of r)) (fields_of r) rest fits, record_of_fields r)

pub written_reads_back : (rest : List ℕ) (r : Record) → Fits r → read_at (record_bytes r ++ rest) 0 ≡ found r (length (record_bytes r))
written_reads_back rest r fits = written_reads_back_at [] rest r fits ∙ rw zero-add

-- ---- read, then written
pub read_writes_back : (trace : List ℕ) (at : ℕ) (r : Record) (next : ℕ) → Bytes trace → read_at trace at ≡ found r next
    → take (next - at) (drop at trace) ≡ record_bytes r
unfolding record_bytes behind
read_writes_back trace at r next bytes e =
    let f = found_only_whole trace at r next e in
    let kind : ℕ = get_or trace at 0 in
    let inside : at < length trace = omega (arith, f.inside) in
    let body : List ℕ = drop (at + 1) trace in
    let left : total (layout kind) ≤ length body = simp length-drop (omega (arith, f.inside)) in
    let many : next - at ≡ suc (total (layout kind)) = omega (arith, f.to) in
    rw (
      many,
      drop-cons trace at 0 inside,
      f.it,
      kind_of_record (fields_from (layout kind) body) kind f.known,
      fields_of_record body kind f.known,
      body_of_fields (layout kind) body (bytes_drop (at + 1) trace bytes) left,
    ) (rw add-one)

-- what is read fits its widths
pub found_fits : (trace : List ℕ) (at : ℕ) (r : Record) (next : ℕ) → Bytes trace → read_at trace at ≡ found r next → Fits r
unfolding Fits behind
found_fits trace at r next bytes e =
    let f = found_only_whole trace at r next e in
    let kind : ℕ = get_or trace at 0 in
    let body : List ℕ = drop (at + 1) trace in
    let left : total (layout kind) ≤ length body = simp length-drop (omega (arith, f.inside)) in
    rw (f.it, kind_of_record (fields_from (layout kind) body) kind f.known, fields_of_record body kind f.known)
    (fields_fit (layout kind) body (bytes_drop (at + 1) trace bytes) left)

-- ---- the same over the entries' own words: what is written into a buffer is read at its front ..
pub what_is_written_reads_back : (r : Record) (lent : List ℕ) (n : ℕ) → Fits r → writing r lent ≡ Ok n → read_at (written_to r lent) 0 ≡ found r n
unfolding writing written_to
what_is_written_reads_back r lent n fits = go (ltb (length lent) (length (record_bytes r)))
  where
    go : (b : Bool) → cond b (Err ShortBuffer) (Ok (length (record_bytes r))) ≡ Ok n
        → read_at (cond b lent (record_bytes r ++ drop (length (record_bytes r)) lent)) 0 ≡ found r n
    go true e = never (cc)
    go false e =
        let long : length (record_bytes r) ≡ n = cc in
        rw (← long) (written_reads_back (drop (length (record_bytes r)) lent) r fits)

-- .. and what is read is written as the bytes that it was read from, and leaves those behind it
pub what_is_read_writes_back : (trace lent : List ℕ) (at : ℕ) (r : Record) (next : ℕ) → Bytes trace → read_at trace at ≡ found r next
    → next - at ≤ length lent
    → (writing r lent ≡ Ok (next - at)) × (written_to r lent ≡ take (next - at) (drop at trace) ++ drop (next - at) lent)
unfolding writing written_to
what_is_read_writes_back trace lent at r next bytes e room =
    let same : record_bytes r ≡ take (next - at) (drop at trace) = sym (read_writes_back trace at r next bytes e) in
    let f = found_only_whole trace at r next e in
    let long : length (record_bytes r) ≡ next - at = rw same (simp (length-take, length-drop) (omega (arith, f.to, f.inside))) in
    rw (long, le-ltb (length lent) (next - at) room, same) (refl, refl)

-- ---- a whole trace

-- the records written one behind the other
unfoldable pub trace_of : List Record → List ℕ
trace_of [] = []
trace_of (r ∷ rs) = record_bytes r ++ trace_of rs

-- reading from a place on finds these records, one behind the other, and then the end
pub data Reads (trace : List ℕ) : ℕ → List Record → Type 0 where
  none_left : {at : ℕ} → read_at trace at ≡ Ok None → Reads trace at []
  one_more : {at next : ℕ} {r : Record} {rs : List Record} → read_at trace at ≡ found r next → Reads trace next rs → Reads trace at (r ∷ rs)

abbrev pub AllFit : List Record → Type 0
AllFit [] = Unit {0}
AllFit (r ∷ rs) = Fits r × AllFit rs

written_trace_reads_on : (front : List ℕ) (rs : List Record) → AllFit rs → Reads (front ++ trace_of rs) (length front) rs
unfolding trace_of
written_trace_reads_on front [] fit = none_left (end_at_the_end (front ++ []) (length front) (rw append-nil))
written_trace_reads_on front (r ∷ rs) fit =
    let here : read_at (front ++ (record_bytes r ++ trace_of rs)) (length front) ≡ found r (length (front ++ record_bytes r)) =
    rw length-append (written_reads_back_at front (trace_of rs) r fit.0) in
    one_more here (rw append_assoc at (written_trace_reads_on (front ++ record_bytes r) rs fit.1))

pub written_trace_reads_back : (rs : List Record) → AllFit rs → Reads (trace_of rs) 0 rs
written_trace_reads_back rs fit = written_trace_reads_on [] rs fit

-- one record of each kind, whose body counts from 1: what its bytes are, spelt out
pub one_of_each : List Record
one_of_each =
    Node 1 770
    ∷ Model (record { rbps = 578437695752307201; rseqiops = 1157159078456920585; rrandiops = 1735880461161533969; wbps = 2314601843866147353; wseqiops = 2893323226570760737; wrandiops = 3472044609275374121 })
    ∷ Start 578437695752307201
    ∷ BioOf (record { node = 1; flags = 2; id = 100992003; sector = 1012478732780767239; bytes = 303108111 })
    ∷ Tick 578437695752307201
    ∷ Plan
    ∷ Vrate 513
    ∷ Weight 1 770
    ∷ []

abbrev pub counting : ℕ → List ℕ
counting n = table_from (λ i. i) 1 n

pub one_of_each_in_bytes :
    trace_of one_of_each
    ≡ (1 ∷ counting 3) ++ ((2 ∷ counting 48) ++ ((3 ∷ counting 8) ++ ((4 ∷ counting 18) ++ ((5 ∷ counting 8) ++ ((6 ∷ []) ++ ((7 ∷ counting 2) ++ (8 ∷ counting 3)))))))
unfolding trace_of one_of_each record_bytes body_of bytes_of layout fields_of table_from
one_of_each_in_bytes = refl

-- what is read to the end writes back as the same bytes
pub read_trace_writes_back : {trace : List ℕ} {at : ℕ} {rs : List Record} → Bytes trace → Reads trace at rs → trace_of rs ≡ drop at trace
unfolding trace_of behind
read_trace_writes_back {trace} bytes (none_left {at = at} e) = sym (rw (end_only_at_the_end trace at e) (drop-length trace))
read_trace_writes_back {trace} bytes (one_more {at = at} {next = next} {r = r} {rs = rs} e more) =
    let f = found_only_whole trace at r next e in
    let on : at + (next - at) ≡ next = omega (arith, f.to) in
    let rest : drop next trace ≡ drop (next - at) (drop at trace) = sym (rw on at (drop-drop (next - at) at trace)) in
    rw (read_trace_writes_back bytes more, ← read_writes_back trace at r next bytes e, rest) (take-append-drop (next - at) (drop at trace))

-- what is found, of a read that finds something
abbrev record_or : Record → Read → Record
record_or r (Ok (Some f)) = f.item
record_or r (Ok None) = r
record_or r (Err x) = r

abbrev next_or : ℕ → Read → ℕ
next_or n (Ok (Some f)) = f.next
next_or n (Ok None) = n
next_or n (Err x) = n

-- reading has one result
pub reads_one : {trace : List ℕ} {at : ℕ} {rs ss : List Record} → Reads trace at rs → Reads trace at ss → rs ≡ ss
reads_one (none_left e) (none_left d) = refl
reads_one (none_left e) (one_more d more) = never (cc)
reads_one (one_more e more) (none_left d) = never (cc)
reads_one (one_more {next = n} {r = r} e more) (one_more {next = m} {r = q} d less) =
    let both : found r n ≡ found q m = sym e ∙ d in
    let same : r ≡ q = ap (record_or r) both in
    let on : m ≡ n = sym (ap (next_or n) both) in
    rw (same, reads_one more (rw on at less))
