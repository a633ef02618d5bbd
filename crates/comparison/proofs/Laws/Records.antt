-- The answer in other words: by the records of both traces, each as its bytes, one beside the other.
-- Assumes nothing.
use Rattle.std.specs.Prelude.{◌≡◌, Bool, true, cond, not, ◌&&◌, ◌↔◌, leb, length, drop, Option, Some, None, Ok, Err}
use Rattle.std.proofs.Math.Path.{refl, ap}
use Rattle.std.proofs.Common.{sym, ◌∙◌, arith, take-append-drop, get_or-take, get_or-drop, drop-drop}
use Rattle.std.proofs.Math.Bool.{false}
use mathlib.Core.List.{List, [], ◌∷◌, ◌++◌}
use Prim.Native.Nat.{ℕ, zero, suc, ◌+◌, ◌-◌, ◌<◌}
use Rattle.std.proofs.Math.Seq.{drop-length}
use Rattle.rules.specs.Trace.{read_at}
use Rattle.rules.proofs.Laws.Bools.{never, true_not_false}
use Rattle.rules.specs.declared.refusals.Refusal.{Refusal}
use Rattle.rules.proofs.Laws.Trace.{beyond_is_cut}
use Rattle.trace.specs.Extents.{extent_at}
use Rattle.trace.specs.declared.decoder.Whole.{Whole}
use Rattle.trace.specs.Kinds.{code}
use Rattle.comparison.specs.Compare.{Extent, is_whole, past_of, records_end_from, records_end, Fault, error_by, error_in, same_bytes, between, pair_at, Stepped, is_pair, else_difference, advanced, passed, step_of, likeness_if, concluded, compared_from, compared, error_of, walked, at_start}
use Rattle.comparison.specs.Theorems.{kind_in, first_differs, ends_first, ends_second, ends_neither}
use Rattle.comparison.proofs.Laws.Steps.{WholeAt, Extending, each_extent, extent_of_lem, ended_extent, records_end_here, records_end_on, pair_step, first_ends_step, second_ends_step, both_end_step, walk_here, walk_on_lem, walk_on}
use Rattle.comparison.proofs.Laws.Steps.Extending.{stands, over, broken}
use Rattle.comparison.specs.declared.Side.{Side}
use Rattle.comparison.specs.declared.Side.TheVariants.{First, Second}
use Rattle.comparison.specs.declared.Difference.{Difference}
use Rattle.comparison.specs.declared.Ends.{Ends}
use Rattle.comparison.specs.declared.Likeness.{Likeness}
use Rattle.comparison.specs.declared.Likeness.TheVariants.{Equal, Prefix, Different}
use Rattle.comparison.specs.declared.Comparison.{Comparison}
use Rattle.comparison.specs.declared.Pair.{Pair as PairOf}
use Rattle.comparison.specs.declared.Step.TheVariants.{Pair, Over}
use Rattle.comparison.specs.declared.Walk.{Walk}

-- ---- the records of a trace
-- from a place on these records stand one behind the other, each as its bytes, and then the end
pub data Records (trace : List ℕ) : ℕ → List (List ℕ) → Type 0 where
  none_left : {at : ℕ} → at ≡ length trace → Records trace at []
  one_more : {at : ℕ} {w : Whole} {rs : List (List ℕ)} → WholeAt trace at w → Records trace w.next rs
      → Records trace at (between at w.next trace ∷ rs)

abbrev pub joined : List (List ℕ) → List ℕ
joined [] = []
joined (r ∷ rs) = r ++ joined rs

pub records_make_the_trace : {trace : List ℕ} {at : ℕ} {rs : List (List ℕ)} → Records trace at rs → joined rs ≡ drop at trace
records_make_the_trace {trace} (none_left e) = sym (rw e (drop-length trace))
records_make_the_trace {trace} (one_more {at} {w} v more) =
    let on : at + (w.next - at) ≡ w.next = omega (arith, v.onward) in
    let rest : drop w.next trace ≡ drop (w.next - at) (drop at trace) = sym (rw on at (drop-drop (w.next - at) at trace)) in
    rw (records_make_the_trace more, rest) (take-append-drop (w.next - at) (drop at trace))

pub one_list_of_records : {trace : List ℕ} {at : ℕ} {rs ss : List (List ℕ)} → Records trace at rs → Records trace at ss → rs ≡ ss
one_list_of_records (none_left e) (none_left d) = refl
one_list_of_records (none_left e) (one_more w more) = absurd (omega (arith, w.onward, w.within))
one_list_of_records (one_more w more) (none_left d) = absurd (omega (arith, w.onward, w.within))
one_list_of_records {trace} (one_more {w = a} v more) (one_more {w = b} w less) =
    let on : b.next ≡ a.next = ap (λ (x : Extent). past_of x 0) (sym w.extent ∙ v.extent) in
    rw (on, one_list_of_records more (rw on at less))

-- ---- no error exactly where there are only records, up to the end
-- whole records, one behind the other, lead from a place to another
pub data Leads (trace : List ℕ) : ℕ → ℕ → Type 0 where
  here : {at : ℕ} → Leads trace at at
  past : {at end : ℕ} {w : Whole} → WholeAt trace at w → Leads trace w.next end → Leads trace at end

abbrev place_told : Fault → ℕ
place_told (Ok none) = 0
place_told (Err e) = e.place

abbrev refusal_told : Refusal → Fault → Refusal
refusal_told x (Ok none) = x
refusal_told x (Err e) = e.refusal

pub data Ending (trace : List ℕ) (at end : ℕ) : Type 0 where
  well : {rs : List (List ℕ)} → Records trace at rs → end ≡ length trace → Ending trace at end
  badly : {x : Refusal} → Leads trace at end → read_at trace end ≡ Err x → Ending trace at end

module _ (trace : List ℕ) where
  here_it_ends : {at : ℕ} {e : Extent} → Extending trace at e → is_whole e ≡ false → Ending trace at at
  here_it_ends (stands w) n = absurd (true_not_false refl n)
  here_it_ends (over d) n = well (none_left d) d
  here_it_ends (broken d) n = badly here d

  behind_it_ends : {at end : ℕ} {w : Whole} → WholeAt trace at w → Ending trace w.next end → Ending trace at end
  behind_it_ends w (well rs e) = well (one_more w rs) e
  behind_it_ends w (badly way d) = badly (past w way) d

  ending : (f at : ℕ) → length trace < at + f → Ending trace at (records_end_from f trace at)
  unfolding records_end_from
  ending zero at h = badly here (beyond_is_cut trace at (omega arith))
  ending (suc f) at h = go (each_extent trace at) (λ next on. ending f next (omega arith))
    where
      go : {e : Extent} → Extending trace at e → ((next : ℕ) → at < next → Ending trace next (records_end_from f trace next))
          → Ending trace at (cond (is_whole e) (records_end_from f trace (past_of e at)) at)
      go (stands {w} v) rest = behind_it_ends v (rest w.next v.onward)
      go (over d) rest = here_it_ends (over d) refl
      go (broken d) rest = here_it_ends (broken d) refl

  -- what stands where the whole records end
  records_or_error : Ending trace 0 (records_end trace 0)
  unfolding records_end
  records_or_error = ending (suc (length trace)) 0 (omega arith)

  -- no whole record does
  pub none_stands_there : (at : ℕ) → is_whole (extent_at trace (records_end trace at)) ≡ false
  unfolding records_end
  none_stands_there at = go (ending (suc (length trace)) at (omega arith))
    where
      go : {end : ℕ} → Ending trace at end → is_whole (extent_at trace end) ≡ false
      go {end} (well records e) = ap is_whole (ended_extent trace end e)
      go {end} (badly {x} way e) = ap is_whole (extent_of_lem trace end (Err x) e)

  records_end_at_the_end : {at : ℕ} {rs : List (List ℕ)} → Records trace at rs → records_end trace at ≡ length trace
  unfolding records_end
  records_end_at_the_end (none_left {at} e) = records_end_here trace (suc (length trace)) at (ap is_whole (ended_extent trace at e)) ∙ e
  records_end_at_the_end (one_more {at} w more) = records_end_on trace at w.extent ∙ records_end_at_the_end more

  pub records_have_no_error : (side : Side) {rs : List (List ℕ)} → Records trace 0 rs → error_in side trace ≡ Ok tt
  unfolding error_in
  records_have_no_error side records =
      rw (records_end_at_the_end records, ended_extent trace (length trace) refl)

  pub without_error : (side : Side) → error_in side trace ≡ Ok tt → (rs : List (List ℕ)) × Records trace 0 rs
  unfolding error_in
  without_error side none = go records_or_error
    where
      go : Ending trace 0 (records_end trace 0) → (rs : List (List ℕ)) × Records trace 0 rs
      go (well {rs} records e) = (rs, records)
      go (badly {x} way d) =
          let told : error_by side (extent_at trace (records_end trace 0)) (records_end trace 0) ≡ Err (record { side = side; refusal = x; place = records_end trace 0 }) =
          ap (λ (e : Extent). error_by side e (records_end trace 0)) (extent_of_lem trace (records_end trace 0) (Err x) d) in
          never (cc)

  -- an error is where whole records lead, and there alone
  broken_end : {x : Refusal} {at end : ℕ} → Leads trace at end → read_at trace end ≡ Err x → records_end trace at ≡ end
  unfolding records_end
  broken_end {x} (here {at}) e =
      records_end_here trace (suc (length trace)) at (ap is_whole (extent_of_lem trace at (Err x) e))
  broken_end (past {at} w way) e = records_end_on trace at w.extent ∙ broken_end way e

  pub error_exactly_where : (side : Side) (x : Refusal) (at : ℕ) → (error_in side trace ≡ Err (record { side = side; refusal = x; place = at })) ↔ (Leads trace 0 at × (read_at trace at ≡ Err x))
  unfolding error_in
  error_exactly_where side x at = (λ e. forth e records_or_error, back)
    where
      forth : error_by side (extent_at trace (records_end trace 0)) (records_end trace 0) ≡ Err (record { side = side; refusal = x; place = at }) → Ending trace 0 (records_end trace 0)
          → Leads trace 0 at × (read_at trace at ≡ Err x)
      forth e (well records d) =
          let none : error_by side (extent_at trace (records_end trace 0)) (records_end trace 0) ≡ Ok tt =
          ap (λ (f : Extent). error_by side f (records_end trace 0)) (ended_extent trace (records_end trace 0) d) in
          never (cc)
      forth e (badly {x = y} way d) =
          let told : error_by side (extent_at trace (records_end trace 0)) (records_end trace 0) ≡ Err (record { side = side; refusal = y; place = records_end trace 0 }) =
          ap (λ (f : Extent). error_by side f (records_end trace 0)) (extent_of_lem trace (records_end trace 0) (Err y) d) in
          let place : records_end trace 0 ≡ at = ap place_told (sym told ∙ e) in
          let which : y ≡ x = ap (refusal_told x) (sym told ∙ e) in
          (rw place at way, rw place at d ∙ ap Err which)

      back : Leads trace 0 at × (read_at trace at ≡ Err x) → error_by side (extent_at trace (records_end trace 0)) (records_end trace 0) ≡ Err (record { side = side; refusal = x; place = at })
      back w = rw (broken_end w.0 w.1, extent_of_lem trace at (Err x) w.1)

-- ---- a record begins with its kind
begins_with : {trace : List ℕ} {at : ℕ} {w : Whole} → WholeAt trace at w → kind_in (between at w.next trace) ≡ code w.kind
begins_with {trace} {at} {w} v =
    let long : 0 < w.next - at = omega (arith, v.onward) in
    let here : at + 0 ≡ at = omega arith in
    get_or-take (w.next - at) (drop at trace) 0 0 long ∙ get_or-drop at trace 0 0 ∙ rw here (sym v.kind_here)

-- ---- the answer by the records: one definition for each of its members
unfoldable pub difference_in : ℕ → ℕ → List (List ℕ) → List (List ℕ) → Option Difference
difference_in from n [] ss = None
difference_in from n (r ∷ rs) [] = None
difference_in from n (r ∷ rs) (s ∷ ss) =
    cond (leb from n && not (same_bytes r s)) (Some (first_differs n (kind_in r) (kind_in s))) (difference_in from (n + 1) rs ss)

unfoldable pub ends_in : ℕ → List (List ℕ) → List (List ℕ) → Ends
ends_in n [] [] = ends_neither n
ends_in n [] (s ∷ ss) = ends_first n
ends_in n (r ∷ rs) [] = ends_second n
ends_in n (r ∷ rs) (s ∷ ss) = ends_in (n + 1) rs ss

unfoldable pub likeness_in : Bool → List (List ℕ) → List (List ℕ) → Likeness
likeness_in alike [] [] = cond alike Equal Different
likeness_in alike [] (s ∷ ss) = cond alike Prefix Different
likeness_in alike (r ∷ rs) [] = cond alike Prefix Different
likeness_in alike (r ∷ rs) (s ∷ ss) = likeness_in (alike && same_bytes r s) rs ss

abbrev pub listed : ℕ → Walk → List (List ℕ) → List (List ℕ) → Comparison
listed from w rs ss =
    record {
      difference = else_difference w.difference (difference_in from w.reach.number rs ss);
      ends = ends_in w.reach.number rs ss;
      likeness = likeness_in w.reach.alike rs ss;
    }

else_none : (d : Option Difference) → else_difference d None ≡ d
else_none (Some d) = refl
else_none None = refl

-- alike at the end of both, and of one
alike_equal : (alike : Bool) → likeness_if alike None ≡ cond alike Equal Different
alike_equal true = refl
alike_equal false = refl

alike_prefix : (alike : Bool) (side : Side) → likeness_if alike (Some side) ≡ cond alike Prefix Different
alike_prefix true side = refl
alike_prefix false side = refl

-- ---- the walk over the records of both
module _ (first second : List ℕ) (from : ℕ) where
  -- where no pair stands, the walk is over
  stops : (w : Walk) (s : Stepped) → step_of first second w ≡ s → is_pair s ≡ false → compared_from first second (walk_on first second from w) ≡ concluded s w
  unfolding compared_from
  stops w s e none = rw (walk_here first second from (suc (length first)) w (ap is_pair e ∙ none), e)

  stops_at : (w : Walk) (s : Stepped) → step_of first second w ≡ s → is_pair s ≡ false → step_of first second (walk_on first second from w) ≡ s
  stops_at w s e none = rw (walk_here first second from (suc (length first)) w (ap is_pair e ∙ none)) e

  goes_on : (w : Walk) (s : Stepped) → step_of first second w ≡ s → is_pair s ≡ true
      → compared_from first second (walk_on first second from w) ≡ compared_from first second (walk_on first second from (passed from s w))
  goes_on w s e pair = rw (walk_on_lem first second from w (ap is_pair e ∙ pair), e)

  -- one pair more: the first difference is the one found before, that of the pair, or one behind it
  noted_lem : (d : Option Difference) (same asked : Bool) (x : Difference) (rest : Option Difference)
      → else_difference (cond same d (else_difference d (cond asked (Some x) None))) rest ≡ else_difference d (cond (asked && not same) (Some x) rest)
  noted_lem (Some y) true asked x rest = refl
  noted_lem (Some y) false asked x rest = refl
  noted_lem None true true x rest = refl
  noted_lem None true false x rest = refl
  noted_lem None false true x rest = refl
  noted_lem None false false x rest = refl

  pair_listed : {p q : ℕ} {a b : Whole} (rs ss : List (List ℕ)) → WholeAt first p a → WholeAt second q b → (w : Walk) → w.reach.first ≡ p → w.reach.second ≡ q
      → ((v : Walk) → v.reach.first ≡ a.next → v.reach.second ≡ b.next → compared_from first second (walk_on first second from v) ≡ listed from v rs ss)
      → compared_from first second (walk_on first second from w) ≡ listed from w (between p a.next first ∷ rs) (between q b.next second ∷ ss)
  unfolding passed advanced difference_in ends_in likeness_in
  pair_listed {p} {q} {a} {b} rs ss v u w f g rest =
      goes_on w (Ok (Pair both)) (rw (f, g) (pair_step v u)) refl
      ∙ rest (passed from (Ok (Pair both)) w) refl refl
      ∙ rw (begins_with v, begins_with u, noted_lem w.difference both.same (leb from w.reach.number) here (difference_in from (w.reach.number + 1) rs ss))
    where
      both : PairOf
      both = pair_at first p a second q b

      here : Difference
      here = record { number = w.reach.number; first = code a.kind; second = code b.kind }

  pub by_the_records : {p q : ℕ} {rs ss : List (List ℕ)} → Records first p rs → Records second q ss → (w : Walk) → w.reach.first ≡ p → w.reach.second ≡ q
      → compared_from first second (walk_on first second from w) ≡ listed from w rs ss
  unfolding concluded difference_in ends_in likeness_in
  by_the_records (none_left d) (none_left e) w f g =
      stops w (Ok (Over None)) (both_end_step first w.reach.first second w.reach.second (f ∙ d) (g ∙ e)) refl ∙ rw (else_none, alike_equal)
  by_the_records (none_left d) (one_more v more) w f g =
      stops w (Ok (Over (Some First))) (rw g (first_ends_step first (f ∙ d) v)) refl ∙ rw (else_none, alike_prefix)
  by_the_records (one_more v more) (none_left e) w f g =
      stops w (Ok (Over (Some Second))) (rw f (second_ends_step second v (g ∙ e))) refl ∙ rw (else_none, alike_prefix)
  by_the_records (one_more {rs = rs} v more) (one_more {rs = ss} u less) w f g =
      pair_listed rs ss v u w f g (λ x h k. by_the_records more less x h k)

  pub compared_by_the_records : {rs ss : List (List ℕ)} → Records first 0 rs → Records second 0 ss
      → compared first second from ≡ Ok (listed from at_start rs ss)
  unfolding compared error_of walked
  compared_by_the_records records others =
      rw (records_have_no_error first First records, records_have_no_error second Second others) (ap Ok (by_the_records records others at_start refl refl))

  -- of two traces without errors the walk is over where one of them has no record any more
  pub walk_is_over : {p q : ℕ} {rs ss : List (List ℕ)} → Records first p rs → Records second q ss → (w : Walk) → w.reach.first ≡ p → w.reach.second ≡ q
      → (side : Option Side) × (step_of first second (walk_on first second from w) ≡ Ok (Over side))
  unfolding passed advanced
  walk_is_over (none_left d) (none_left e) w f g =
      (None, stops_at w _ (both_end_step first w.reach.first second w.reach.second (f ∙ d) (g ∙ e)) refl)
  walk_is_over (none_left d) (one_more v more) w f g =
      (Some First, stops_at w _ (rw g (first_ends_step first (f ∙ d) v)) refl)
  walk_is_over (one_more v more) (none_left e) w f g =
      (Some Second, stops_at w _ (rw f (second_ends_step second v (g ∙ e))) refl)
  walk_is_over {p} {q} (one_more {w = a} v more) (one_more {w = b} u less) w f g =
      let both : Stepped = Ok (Pair (pair_at first p a second q b)) in
      let here : step_of first second w ≡ both = rw (f, g) (pair_step v u) in
      let on = walk_is_over more less (passed from both w) refl refl in
      (on.0, rw (walk_on_lem first second from w (ap is_pair here), here) on.1)
