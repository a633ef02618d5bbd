-- What stands at a place by its kind and its length: each case, and the record that a whole one is.
-- Assumes nothing.
use mathlib.Core.Path.{◌≡◌, refl, sym, ap, ◌∙◌}
use mathlib.Core.Bool.{true}
use mathlib.Core.List.{List}
use Prim.Native.Nat.{ℕ, ◌+◌, ◌≤◌, ◌<◌}
use native.Mathlib.Omega.{arith}
use lib.ListN.{length, get_or}
use Rattle.std.specs.Prelude.{Ok, Err, Some, None}
use Rattle.rules.specs.Results.{Read, found}
use Rattle.rules.specs.Trace.{is_kind, layout, total, record_of, behind, read_at}
use Rattle.rules.specs.declared.refusals.Refusal.{Refusal}
use Rattle.rules.specs.declared.refusals.Refusal.TheVariants.{CutShort}
use Rattle.rules.proofs.Laws.Trace.{kind_of_record, short_is_cut, whole_is_found, Reading, beyond, ended, unknown, cut, whole, each_answer, record_at, end_at}
use Rattle.trace.specs.declared.kind.Kind.{Kind}
use Rattle.trace.specs.declared.decoder.Whole.{Whole}
use Rattle.trace.specs.Fields.{fields_at}
use Rattle.trace.specs.Kinds.{code, kind_in}
use Rattle.trace.specs.Extents.{extent_of, extent_at}
use Rattle.trace.proofs.KindLaws.{code_in, kind_in_record}

-- a kind that the byte at a place is the number of
module _ (l : List ℕ) (at len : ℕ) (k : Kind) (inside : at < length l) (known : is_kind (get_or l at 0) ≡ true) (is : code k ≡ get_or l at 0) (body : len ≡ total (layout (code k))) where
  pub cut_short : length l < at + 1 + len → Err CutShort ≡ extent_at l at
  unfolding extent_at behind
  cut_short h = let short : length l < behind (get_or l at 0) at = omega (arith, rw is at body) in
      rw (short_is_cut l at inside known short) refl

  pub whole_stands : at + 1 + len ≤ length l → Ok (Some (record { kind = k; next = at + 1 + len })) ≡ extent_at l at
  unfolding extent_at behind
  whole_stands h =
      let within : behind (get_or l at 0) at ≤ length l = omega (arith, rw is at body) in
      rw (whole_is_found l at inside known within, ← is, body, kind_in_record k (fields_at (code k) (at + 1) l)) refl

-- what is found at a place where a whole record stands
pub record IsWhole (l : List ℕ) (at : ℕ) (w : Whole) : Type 0 where
  pub inside : w.next ≤ length l
  pub to : w.next ≡ at + 1 + total (layout (code w.kind))
  pub it : read_at l at ≡ found (record_of (code w.kind) (fields_at (code w.kind) (at + 1) l)) w.next

pub whole_only : (l : List ℕ) (at : ℕ) (w : Whole) → extent_at l at ≡ Ok (Some w) → IsWhole l at w
unfolding extent_at behind
whole_only l at w e = go (read_at l at) refl (each_answer l at) e
  where
    go : (r : Read) → read_at l at ≡ r → Reading l at r → extent_of r ≡ Ok (Some w) → IsWhole l at w
    go r is (beyond h) e = absurd (cc)
    go r is (ended h) e = absurd (cc)
    go r is (unknown i k) e = absurd (cc)
    go r is (cut i k h) e = absurd (cc)
    go r is (whole k h) e =
        let this : Whole = record { kind = kind_in (record_at l at); next = end_at l at } in
        let same : this ≡ w = cc in
        let kind : kind_in (record_at l at) ≡ w.kind = ap (λ (v : Whole). v.kind) same in
        let next : end_at l at ≡ w.next = ap (λ (v : Whole). v.next) same in
        let number : code w.kind ≡ get_or l at 0 = rw kind at (code_in (record_at l at) ∙ kind_of_record _ (get_or l at 0) k) in
        record {
          inside = rw next at h;
          to = rw number (sym next);
          it = rw (number, ← next) is;
        }

-- and where none does
pub err_only : (l : List ℕ) (at : ℕ) (x : Refusal) → extent_at l at ≡ Err x → read_at l at ≡ Err x
unfolding extent_at
err_only l at x = go (read_at l at)
  where
    go : (r : Read) → extent_of r ≡ Err x → r ≡ Err x
    go (Ok (Some f)) e = cc
    go (Ok None) e = cc
    go (Err y) e = cc

pub end_only : (l : List ℕ) (at : ℕ) → extent_at l at ≡ Ok None → read_at l at ≡ Ok None
unfolding extent_at
end_only l at = go (read_at l at)
  where
    go : (r : Read) → extent_of r ≡ Ok None → r ≡ Ok None
    go (Ok (Some f)) e = cc
    go (Ok None) e = refl
    go (Err y) e = cc
