-- What a record's bytes leave of a lent buffer, by the record's length.
-- Assumes nothing.
use mathlib.Core.Path.{◌≡◌, refl, ◌∙◌}
use mathlib.Core.List.{List, [], ◌∷◌, ◌++◌}
use Prim.Native.Nat.{ℕ, ◌+◌, ◌≤◌, ◌<◌}
use native.Mathlib.Nat.{zero-add}
use native.Mathlib.Omega.{arith}
use lib.Dec.{lit≤}
use lib.ListN.{length, drop, set, length-set, length-take, length-drop}
use mir.Val.{Val}
use denote.Laws.{Is}
use denote.Enum.Declared.{row}
use denote.Enum.Laws.{owed}
use borrow.Author.Tests.{lt-ltb, le-ltb}
use Rattle.rules.specs.contracts.trace.Record.{the_type}
use Rattle.rules.proofs.trace.Record.TheLaws.{the_laws}
use Rattle.rules.specs.Trace.{bytes_of, layout, total, kind_of, fields_of, body_of, record_bytes, Fits, writing, written_to}
use Rattle.rules.specs.Buffers.{rest_of, put_back}
use Rattle.rules.specs.declared.refusals.Refusal.TheVariants.{ShortBuffer}
use Rattle.rules.specs.declared.trace.Record.{Record}
use Rattle.rules.specs.declared.trace.Record.TheVariants.{Node, Model, Start, Bio, Tick, Plan, Vrate, Weight}
use Rattle.trace.specs.declared.kind.Kind.{Kind}
use Rattle.trace.specs.declared.kind.Kind.TheVariants.{Node as NodeKind, Model as ModelKind, Start as StartKind, Bio as BioKind, Tick as TickKind, Plan as PlanKind, Vrate as VrateKind, Weight as WeightKind}
use Rattle.trace.specs.Kinds.{code}
use Rattle.trace.specs.Laid.{laid}
use Rattle.trace.proofs.Laid.{laid_one, laid_on, laid_behind, length_body_le}
use Rattle.std.specs.Prelude.{Err, Ok}

-- a record's numbers are of the types of its fields, which are as wide as its layout says
pub numbers_fit : (r : Record) (vs : List Val) → Is (row the_type) r vs → Fits r
unfolding Fits layout fields_of
numbers_fit (Node p w) vs is = omega (arith, owed the_type the_laws (Node p w) vs is)
numbers_fit (Model r) vs is = omega (arith, owed the_type the_laws (Model r) vs is)
numbers_fit (Start t) vs is = omega (arith, owed the_type the_laws (Start t) vs is)
numbers_fit (Bio b) vs is = omega (arith, owed the_type the_laws (Bio b) vs is)
numbers_fit (Tick t) vs is = omega (arith, owed the_type the_laws (Tick t) vs is)
numbers_fit Plan vs is = tt
numbers_fit (Vrate v) vs is = omega (arith, owed the_type the_laws (Vrate v) vs is)
numbers_fit (Weight n w) vs is = omega (arith, owed the_type the_laws (Weight n w) vs is)

pub body_most : (k : Kind) → total (layout (code k)) ≤ 48
unfolding layout
body_most NodeKind = lit≤ tt
body_most ModelKind = lit≤ tt
body_most StartKind = lit≤ tt
body_most BioKind = lit≤ tt
body_most TickKind = lit≤ tt
body_most PlanKind = lit≤ tt
body_most VrateKind = lit≤ tt
body_most WeightKind = lit≤ tt

length_record : (r : Record) → length (record_bytes r) ≡ total (layout (kind_of r)) + 1
unfolding record_bytes body_of bytes_of layout fields_of
length_record (Node p w) = refl
length_record (Model r) = refl
length_record (Start t) = refl
length_record (Bio b) = refl
length_record (Tick t) = refl
length_record Plan = refl
length_record (Vrate v) = refl
length_record (Weight n w) = refl

record_laid : (r : Record) (l : List ℕ) → length (record_bytes r) ≤ length l
    → laid (body_of (layout (kind_of r)) (fields_of r)) 1 (set l 0 (kind_of r)) ≡ record_bytes r ++ drop (length (record_bytes r)) l
unfolding record_bytes laid
record_laid r l h =
    let body : List ℕ = body_of (layout (kind_of r)) (fields_of r) in
    let some : 0 < length l = omega arith in
    let room : 0 + 1 + length body ≤ length l = omega arith in
    rw (laid_one (kind_of r) 0 l some) (laid_on (kind_of r ∷ []) body 0 l room ∙ rw zero-add)

module _ (r : Record) (l : List ℕ) (len : ℕ) (e : len ≡ total (layout (kind_of r))) where
  pub too_short : length l < 1 + len → (Err ShortBuffer ≡ writing r l) × (l ≡ written_to r l)
  unfolding writing written_to
  too_short h =
      let short : length l < length (record_bytes r) = omega (arith, length_record r) in
      (rw (lt-ltb (length l) (length (record_bytes r)) short), rw (lt-ltb (length l) (length (record_bytes r)) short))

  module _ (h : 1 + len ≤ length l) (kind : ℕ) (k : kind ≡ kind_of r) where
    within : length (body_of (layout (kind_of r)) (fields_of r)) ≤ total (layout (kind_of r))
    within = length_body_le (layout (kind_of r)) (fields_of r)

    room : 1 + total (layout (kind_of r)) ≤ length (set l 0 kind)
    room = rw length-set (omega arith)

    pub body_room : total (layout (kind_of r)) ≤ length (rest_of (set l 0 kind) 1)
    body_room = simp (length-take, length-drop) (omega (arith, room))

    module _ (ys : List ℕ) (d : ys ≡ laid (body_of (layout (kind_of r)) (fields_of r)) 0 (rest_of (set l 0 kind) 1)) where
      behind : put_back (set l 0 kind) 1 ys ≡ laid (body_of (layout (kind_of r)) (fields_of r)) 1 (set l 0 kind)
      behind = laid_behind 1 (body_of (layout (kind_of r)) (fields_of r)) (set l 0 kind) (omega (arith, within, room)) d

      pub written : (Ok (1 + len) ≡ writing r l) × (put_back (set l 0 kind) 1 ys ≡ written_to r l)
      unfolding writing written_to
      written =
          let long : 1 + len ≡ length (record_bytes r) = omega (arith, length_record r) in
          let enough : length (record_bytes r) ≤ length l = omega arith in
          let bytes : laid (body_of (layout (kind_of r)) (fields_of r)) 1 (set l 0 kind) ≡ record_bytes r ++ drop (length (record_bytes r)) l = rw k (record_laid r l enough) in
          (rw (le-ltb (length l) (length (record_bytes r)) enough, long), rw (le-ltb (length l) (length (record_bytes r)) enough) (behind ∙ bytes))
