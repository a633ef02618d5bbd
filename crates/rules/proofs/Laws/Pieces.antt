-- What is read in a piece of a trace is read in the whole: bytes behind it change nothing of a whole record, and bytes dropped
-- before it move its place alone.
-- Assumes nothing.
use Rattle.std.specs.Prelude.{◌≡◌, refl, false, List, [], ◌∷◌, ◌++◌, get_or, drop, Err, None, Ok, Some}
use Rattle.std.proofs.Math.Path.{sym}
use Rattle.std.proofs.Common.{◌∙◌, length-append}
use Prim.Native.Nat.{ℕ, ◌+◌, ◌-◌, ◌≤◌}
use native.Mathlib.Omega.{arith}
use Rattle.std.proofs.Math.ListN.{length, length-drop, get_or-append}
use Rattle.std.proofs.lemmas.List.{take-append-le, drop-append-le}
use Rattle.std.proofs.Math.Seq.{drop-drop, get_or-drop}
use Rattle.rules.specs.Trace.{total, layout, fields_from, behind, read_at}
use Rattle.rules.specs.Chunks.{is_cut}
use Rattle.rules.proofs.Laws.Bools.{true_not_false}
use Rattle.rules.proofs.Laws.Trace.{Reading, each_answer, beyond_is_cut, end_at_the_end, unknown_is_refused, short_is_cut, whole_is_found}
use Rattle.rules.proofs.Laws.Trace.Reading.{beyond, ended, unknown, cut, whole}
use Rattle.rules.specs.Results.{Read, found}

-- ---- bytes behind it
fields_stay : (ws bytes later : List ℕ) → total ws ≤ length bytes → fields_from ws (bytes ++ later) ≡ fields_from ws bytes
unfolding fields_from
fields_stay [] bytes later h = refl
fields_stay (w ∷ ws) bytes later h =
    let left : total ws ≤ length (drop w bytes) = simp length-drop (omega arith) in
    rw (take-append-le w bytes later (omega arith), drop-append-le w bytes later (omega arith), fields_stay ws (drop w bytes) later left)

-- more bytes behind it change nothing of a record that is here whole, or of an unknown kind
stays_read : {here : List ℕ} {at : ℕ} {read : Read} (later : List ℕ) → Reading here at read → is_cut read ≡ false
    → read_at (here ++ later) at ≡ read
unfolding is_cut behind
stays_read later (beyond h) c = absurd (true_not_false refl c)
stays_read later (ended e) c = absurd (true_not_false refl c)
stays_read {here} {at} later (unknown i k) c =
    unknown_is_refused (here ++ later) at (rw length-append (omega arith)) (rw (get_or-append here later 0 at i) k)
stays_read later (cut i k h) c = absurd (true_not_false refl c)
stays_read {here} {at} later (whole k l) c =
    let kind : ℕ = get_or here at 0 in
    let one : get_or (here ++ later) at 0 ≡ kind = get_or-append here later 0 at (omega arith) in
    let body : drop (at + 1) (here ++ later) ≡ drop (at + 1) here ++ later = drop-append-le (at + 1) here later (omega arith) in
    let fits : total (layout kind) ≤ length (drop (at + 1) here) = simp length-drop (omega arith) in
    whole_is_found (here ++ later) at (rw length-append (omega arith)) (rw one k) (rw (one, length-append) (omega arith))
    ∙ rw (one, body, fields_stay (layout kind) (drop (at + 1) here) later fits)

pub same_with_more : (here later : List ℕ) (at : ℕ) → is_cut (read_at here at) ≡ false → read_at (here ++ later) at ≡ read_at here at
same_with_more here later at c = stays_read later (each_answer here at) c

-- ---- bytes dropped before it: a record's end moves, and nothing else
unfoldable pub shifted : ℕ → Read → Read
shifted k (Ok (Some f)) = found f.item (k + f.next)
shifted k (Ok None) = Ok None
shifted k (Err x) = Err x

module _ (trace : List ℕ) (k : ℕ) (h : k ≤ length trace) where
  shifts_read : {at : ℕ} {read : Read} → Reading (drop k trace) at read → read_at trace (k + at) ≡ shifted k read
  unfolding shifted behind
  shifts_read {at} (beyond l) = beyond_is_cut trace (k + at) (omega (arith, rw length-drop at l))
  shifts_read {at} (ended e) = end_at_the_end trace (k + at) (omega (arith, rw length-drop at e))
  shifts_read {at} (unknown i n) = unknown_is_refused trace (k + at) (omega (arith, rw length-drop at i)) (rw get_or-drop at n)
  shifts_read {at} (cut i n l) =
      short_is_cut trace (k + at) (omega (arith, rw length-drop at i)) (rw get_or-drop at n) (omega (arith, rw (length-drop, get_or-drop) at l))
  shifts_read {at} (whole n l) =
      let size : ℕ = total (layout (get_or trace (k + at) 0)) in
      let inside : at + 1 + size ≤ length trace - k = rw (length-drop, get_or-drop) at l in
      let body : k + (at + 1) ≡ k + at + 1 = omega arith in
      let end : k + (at + 1 + size) ≡ k + at + 1 + size = omega arith in
      whole_is_found trace (k + at) (omega arith) (rw get_or-drop at n) (omega arith) ∙ sym (rw (get_or-drop, drop-drop, body, end))

  pub shifted_with_less : (at : ℕ) → read_at trace (k + at) ≡ shifted k (read_at (drop k trace) at)
  shifted_with_less at = shifts_read (each_answer (drop k trace) at)
