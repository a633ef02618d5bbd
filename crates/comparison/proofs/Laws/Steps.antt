-- Laws of one step and of the walks: what each answer says, that each goes on, and that there are steps enough.
-- Assumes nothing.
use Rattle.std.specs.Prelude.{◌≡◌, Bool, ◌&&◌, List, eqb, length, get_or, take, drop, Some, None, Ok, Err}
use Rattle.std.proofs.Math.Path.{refl, sym}
use Rattle.std.proofs.Common.{◌∙◌, arith, drop-cons}
use Rattle.std.proofs.Math.Bool.{true, false, cond}
use Prim.Native.Nat.{ℕ, zero, suc, ◌+◌, ◌-◌, ◌≤◌, ◌<◌}
use Rattle.rules.specs.Trace.{is_kind, layout, total, behind, read_at}
use Rattle.rules.proofs.Laws.Bools.{true_not_false, is_false}
use Rattle.rules.proofs.Laws.Trace.{Reading, each_answer, end_at_the_end, whole_is_found, short_is_cut, record_at, kind_of_record}
use Rattle.rules.proofs.Laws.Trace.Reading.{beyond, ended, unknown, cut, whole}
use Rattle.rules.specs.declared.refusals.Refusal.{Refusal}
use Rattle.rules.specs.declared.refusals.Refusal.TheVariants.{CutShort}
use Rattle.trace.specs.Extents.{extent_of, extent_at}
use Rattle.trace.specs.Kinds.{code, kind_in}
use Rattle.trace.specs.declared.decoder.Whole.{Whole}
use Rattle.trace.proofs.KindLaws.{code_in}
use Rattle.comparison.specs.Compare.{Extent, is_whole, past_of, records_end_from, records_end, same_bytes, pair_at, Stepped, step_by, step_at, is_pair, advanced, passed, step_of, walk_from}
use Rattle.comparison.specs.declared.Side.TheVariants.{First, Second}
use Rattle.comparison.specs.declared.Step.TheVariants.{Pair, Over}
use Rattle.comparison.specs.declared.Walk.{Walk}
use Rattle.rules.specs.Results.{Read, found}

-- ---- one trace
-- a whole record stands here, of this kind and up to there
pub record WholeAt (trace : List ℕ) (at : ℕ) (w : Whole) : Type 0 where
  pub reads : read_at trace at ≡ found (record_at trace at) w.next
  pub kind_here : code w.kind ≡ get_or trace at 0
  pub extent : extent_at trace at ≡ Ok (Some w)
  pub long : w.next ≡ at + 1 + total (layout (code w.kind))
  pub onward : at < w.next
  pub within : w.next ≤ length trace

pub data Extending (trace : List ℕ) (at : ℕ) : Extent → Type 0 where
  stands : {w : Whole} → WholeAt trace at w → Extending trace at (Ok (Some w))
  over : at ≡ length trace → Extending trace at (Ok None)
  broken : {x : Refusal} → read_at trace at ≡ Err x → Extending trace at (Err x)

pub extent_of_lem : (trace : List ℕ) (at : ℕ) (read : Read) → read_at trace at ≡ read → extent_at trace at ≡ extent_of read
unfolding extent_at
extent_of_lem trace at read e = rw e

extends : {trace : List ℕ} {at : ℕ} {read : Read} → read_at trace at ≡ read → Reading trace at read → Extending trace at (extent_of read)
unfolding behind
extends e (beyond h) = broken e
extends e (ended h) = over h
extends e (unknown i k) = broken e
extends e (cut i k h) = broken e
extends {trace} {at} e (whole k l) =
    let kind : code (kind_in (record_at trace at)) ≡ get_or trace at 0 = code_in (record_at trace at) ∙ kind_of_record _ (get_or trace at 0) k in
    stands (record { reads = e; kind_here = kind; extent = extent_of_lem trace at _ e; long = rw kind; onward = omega arith; within = l })

pub each_extent : (trace : List ℕ) (at : ℕ) → Extending trace at (extent_at trace at)
unfolding extent_at
each_extent trace at = extends refl (each_answer trace at)

whole_here : {trace : List ℕ} {at : ℕ} {w : Whole} → Extending trace at (Ok (Some w)) → WholeAt trace at w
whole_here (stands w) = w

pub whole_at : (trace : List ℕ) (at : ℕ) {w : Whole} → extent_at trace at ≡ Ok (Some w) → WholeAt trace at w
whole_at trace at e = whole_here (rw e at (each_extent trace at))

-- a record whose body is all here, and one whose body is not
module _ (trace : List ℕ) (at len : ℕ) (inside : at < length trace) (known : is_kind (get_or trace at 0) ≡ true) (body : len ≡ total (layout (get_or trace at 0))) where
  pub whole_extent : len ≤ length trace - (at + 1) → Ok (Some (record { kind = kind_in (record_at trace at); next = at + 1 + len })) ≡ extent_at trace at
  unfolding behind
  whole_extent h = sym (extent_of_lem trace at _ (whole_is_found trace at inside known (omega arith)) ∙ rw body)

  pub cut_extent : length trace - (at + 1) < len → Err CutShort ≡ extent_at trace at
  unfolding behind
  cut_extent h = sym (extent_of_lem trace at _ (short_is_cut trace at inside known (omega arith)))

-- ---- how far whole records go
module _ (trace : List ℕ) where
  pub records_end_here : (f at : ℕ) → is_whole (extent_at trace at) ≡ false → records_end_from f trace at ≡ at
  unfolding records_end_from
  records_end_here zero at e = refl
  records_end_here (suc f) at e = rw e

  past_the_end : (at : ℕ) → length trace ≤ at → is_whole (extent_at trace at) ≡ false
  past_the_end at h = go (each_extent trace at)
    where
      go : {e : Extent} → Extending trace at e → is_whole e ≡ false
      go (stands w) = absurd (omega (arith, w.onward, w.within))
      go (over e) = refl
      go (broken e) = refl

  enough_records : (f g at : ℕ) → length trace ≤ at + f → length trace ≤ at + g → records_end_from f trace at ≡ records_end_from g trace at
  unfolding records_end_from
  enough_records zero g at h k = sym (records_end_here g at (past_the_end at (omega arith)))
  enough_records (suc f) zero at h k = records_end_here (suc f) at (past_the_end at (omega arith))
  enough_records (suc f) (suc g) at h k = go (each_extent trace at) (λ next on. enough_records f g next (omega arith) (omega arith))
    where
      go : {e : Extent} → Extending trace at e → ((next : ℕ) → at < next → records_end_from f trace next ≡ records_end_from g trace next)
          → cond (is_whole e) (records_end_from f trace (past_of e at)) at ≡ cond (is_whole e) (records_end_from g trace (past_of e at)) at
      go (stands {w} v) rest = rest w.next v.onward
      go (over e) rest = refl
      go (broken e) rest = refl

  pub records_end_on : (at : ℕ) {w : Whole} → extent_at trace at ≡ Ok (Some w) → records_end trace at ≡ records_end trace w.next
  unfolding records_end records_end_from
  records_end_on at {w} e =
      let v = whole_at trace at e in
      rw e (enough_records (length trace) (suc (length trace)) w.next (omega (arith, v.onward)) (omega arith))

  pub records_end_stops : (at : ℕ) → is_whole (extent_at trace at) ≡ false → records_end trace at ≡ at
  unfolding records_end
  records_end_stops at e = records_end_here (suc (length trace)) at e

-- ---- both traces
-- one byte more in front of those that are compared
pub same_bytes_more : (a b : List ℕ) (i j k : ℕ) → i < length a → j < length b
    → same_bytes (take (suc k) (drop i a)) (take (suc k) (drop j b)) ≡ (eqb (get_or a i 0) (get_or b j 0) && same_bytes (take k (drop (suc i) a)) (take k (drop (suc j) b)))
same_bytes_more a b i j k h g = rw (drop-cons a i 0 h, drop-cons b j 0 g)

pub data Stepping (first : List ℕ) (p : ℕ) (second : List ℕ) (q : ℕ) : Stepped → Type 0 where
  pair : {v w : Whole} → WholeAt first p v → WholeAt second q w → Stepping first p second q (Ok (Pair (pair_at first p v second q w)))
  first_ends : {w : Whole} → p ≡ length first → WholeAt second q w → Stepping first p second q (Ok (Over (Some First)))
  second_ends : {v : Whole} → WholeAt first p v → q ≡ length second → Stepping first p second q (Ok (Over (Some Second)))
  both_end : p ≡ length first → q ≡ length second → Stepping first p second q (Ok (Over None))
  first_broken : {x : Refusal} → read_at first p ≡ Err x → Stepping first p second q (Err (record { side = First; refusal = x; place = p }))
  second_broken : {x : Refusal} → read_at second q ≡ Err x → Stepping first p second q (Err (record { side = Second; refusal = x; place = q }))

module _ (first : List ℕ) (p : ℕ) (second : List ℕ) (q : ℕ) where
  pub each_step : Stepping first p second q (step_at first p second q)
  unfolding step_at step_by
  each_step = go (each_extent first p) (each_extent second q)
    where
      go : {d e : Extent} → Extending first p d → Extending second q e → Stepping first p second q (step_by first p d second q e)
      go (broken x) e = first_broken x
      go (over h) (broken x) = second_broken x
      go (stands v) (broken x) = second_broken x
      go (over h) (over k) = both_end h k
      go (over h) (stands w) = first_ends h w
      go (stands v) (over k) = second_ends v k
      go (stands v) (stands w) = pair v w

-- two whole records, and what their bytes decide
pub pair_step : {first : List ℕ} {p : ℕ} {second : List ℕ} {q : ℕ} {v w : Whole} → WholeAt first p v → WholeAt second q w
    → step_at first p second q ≡ Ok (Pair (pair_at first p v second q w))
unfolding step_at step_by
pair_step v w = rw (v.extent, w.extent)

pub ended_extent : (trace : List ℕ) (at : ℕ) → at ≡ length trace → extent_at trace at ≡ Ok None
ended_extent trace at e = extent_of_lem trace at (Ok None) (end_at_the_end trace at e)

pub first_ends_step : (first : List ℕ) {p : ℕ} {second : List ℕ} {q : ℕ} {w : Whole} → p ≡ length first → WholeAt second q w
    → step_at first p second q ≡ Ok (Over (Some First))
unfolding step_at step_by
first_ends_step first {p} e w = rw (ended_extent first p e, w.extent)

pub second_ends_step : {first : List ℕ} {p : ℕ} (second : List ℕ) {q : ℕ} {v : Whole} → WholeAt first p v → q ≡ length second
    → step_at first p second q ≡ Ok (Over (Some Second))
unfolding step_at step_by
second_ends_step second {q = q} v e = rw (v.extent, ended_extent second q e)

pub both_end_step : (first : List ℕ) (p : ℕ) (second : List ℕ) (q : ℕ) → p ≡ length first → q ≡ length second
    → step_at first p second q ≡ Ok (Over None)
unfolding step_at step_by
both_end_step first p second q d e = rw (ended_extent first p d, ended_extent second q e)

-- ---- the walk
module _ (first second : List ℕ) (from : ℕ) where
  pub walk_here : (f : ℕ) (w : Walk) → is_pair (step_of first second w) ≡ false → walk_from f first second from w ≡ w
  unfolding walk_from
  walk_here zero w e = refl
  walk_here (suc f) w e = rw e

  -- a step over a pair goes on in both, and stays inside
  pub record Onward (s : Stepped) (w : Walk) : Type 0 where
    pub first_on : w.reach.first < (passed from s w).reach.first
    pub second_on : w.reach.second < (passed from s w).reach.second
    pub first_in : (passed from s w).reach.first ≤ length first
    pub second_in : (passed from s w).reach.second ≤ length second
    pub counted : (passed from s w).reach.number ≡ w.reach.number + 1

  goes_on : (w : Walk) {s : Stepped} → Stepping first w.reach.first second w.reach.second s → is_pair s ≡ true → Onward s w
  unfolding passed advanced
  goes_on w (pair v u) t = record { first_on = v.onward; second_on = u.onward; first_in = v.within; second_in = u.within; counted = refl }
  goes_on w (first_ends h u) t = absurd (true_not_false t refl)
  goes_on w (second_ends v h) t = absurd (true_not_false t refl)
  goes_on w (both_end h k) t = absurd (true_not_false t refl)
  goes_on w (first_broken x) t = absurd (true_not_false t refl)
  goes_on w (second_broken x) t = absurd (true_not_false t refl)

  pub a_pair_goes_on : (w : Walk) → is_pair (step_of first second w) ≡ true → Onward (step_of first second w) w
  a_pair_goes_on w t = goes_on w (each_step first w.reach.first second w.reach.second) t

  -- no pair is left where the first trace is at its end
  no_pair_left : (w : Walk) → length first ≤ w.reach.first → is_pair (step_of first second w) ≡ false
  no_pair_left w h = is_false _ (λ t. let o = a_pair_goes_on w t in omega (arith, o.first_on, o.first_in))

  enough_steps : (f g : ℕ) (w : Walk) → length first ≤ w.reach.first + f → length first ≤ w.reach.first + g
      → walk_from f first second from w ≡ walk_from g first second from w
  unfolding walk_from
  enough_steps zero g w h k = sym (walk_here g w (no_pair_left w (omega arith)))
  enough_steps (suc f) zero w h k = walk_here (suc f) w (no_pair_left w (omega arith))
  enough_steps (suc f) (suc g) w h k =
      go (is_pair (step_of first second w)) refl
      (λ o. enough_steps f g (passed from (step_of first second w) w) (omega (arith, o.first_on)) (omega (arith, o.first_on)))
    where
      next : Walk
      next = passed from (step_of first second w) w

      go : (b : Bool) → is_pair (step_of first second w) ≡ b
          → (Onward (step_of first second w) w → walk_from f first second from next ≡ walk_from g first second from next)
          → cond b (walk_from f first second from next) w ≡ cond b (walk_from g first second from next) w
      go true t rest = rest (a_pair_goes_on w t)
      go false t rest = refl

  -- what is left of the walk
  abbrev pub walk_on : Walk → Walk
  walk_on w = walk_from (suc (length first)) first second from w

  pub walk_on_lem : (w : Walk) → is_pair (step_of first second w) ≡ true → walk_on w ≡ walk_on (passed from (step_of first second w) w)
  unfolding walk_from
  walk_on_lem w t = rw t (enough_steps (length first) (suc (length first)) (passed from (step_of first second w) w) (omega arith) (omega arith))
