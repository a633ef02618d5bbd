-- The theorems of request Seven, over traces without errors: equal and prefix are those of the bytes, the rest makes the
-- shorter trace the longer, all before the record given is the same, the number asked changes the difference alone, and the
-- other way round the sides are swapped. And an error stands alone; where it is, is in Laws/Records.
-- Assumes nothing.
use Rattle.std.specs.Prelude.{◌≡◌, Bool, false, cond, not, ◌&&◌, ◌⊎◌, ◌↔◌, ℕ, zero, suc, ◌+◌, ◌≤◌, ◌<◌, eqb, leb, get_or, drop, Option, Some, None, Ok, Err}
use Rattle.std.proofs.Math.Path.{refl}
use Rattle.std.proofs.Common.{sym, ap, ◌∙◌, arith, length-append, drop_at, le-leb, eqb-true, eq-eqb, leb-true}
use Rattle.std.proofs.Math.Bool.{true}
use mathlib.Core.List.{List, [], ◌∷◌, ◌++◌, append-nil}
use Rattle.std.proofs.Math.Logic.{inl, inr}
use Rattle.std.proofs.Math.ListN.{length}
use Rattle.std.proofs.Math.Seq.{drop-length}
use Rattle.rules.proofs.Laws.Bools.{never, true_not_false, same_test}
use Rattle.trace.specs.Extents.{extent_at}
use Rattle.comparison.specs.Compare.{Extent, records_end, Fault, error_by, error_in, else_error, error_of, same_bytes, at_start, step_of, walked, concluded, unless_error, compared_from, compared, fault_told, difference_told, ends_told, likeness_told, other_side, other_of, longer_by, longer_of, rest_by, rest_of}
use Rattle.comparison.proofs.Laws.Records.{Records, joined, records_make_the_trace, one_list_of_records, without_error, difference_in, ends_in, likeness_in, listed, compared_by_the_records, walk_is_over}
use Rattle.comparison.proofs.Laws.Records.Records.{none_left}
use Rattle.comparison.specs.declared.Side.{Side}
use Rattle.comparison.specs.declared.Side.TheVariants.{First, Second}
use Rattle.comparison.specs.declared.Step.TheVariants.{Over}
use Rattle.comparison.specs.declared.Difference.{Difference}
use Rattle.comparison.specs.declared.Ends.{Ends}
use Rattle.comparison.specs.declared.Likeness.{Likeness}
use Rattle.comparison.specs.declared.Likeness.TheVariants.{Equal, Prefix, Different}
use Rattle.comparison.specs.declared.Error.{Error}
use Rattle.comparison.proofs.Laws.Lists.{same_bytes_are_equal, equal_bytes_are_the_same, equal_records, records_equal, Longer, prefix_records, second_is_longer, first_is_longer, joined_append, More, goes_likewise, ends_by_count, counted}
use Rattle.comparison.proofs.Laws.Lists.Longer.{second_longer, first_longer}
use Rattle.comparison.specs.Theorems.{kind_in, first_differs, IsPrefix, ends_first, ends_second, Rest, FirstFrom, swap_error, swap_fault, swap_difference, swap_ends, swapped, Alone}

some_is : {A : Type 0} {x y : A} → Some x ≡ Some y → x ≡ y
some_is e = cc

-- who ends first is one of both
one_side : {m n : ℕ} → Some (ends_first m) ≡ Some (ends_second n) → ◌≡◌ {A = ℕ} 0 1
one_side e = let side : Some First ≡ Some Second = ap (λ (e : Ends). e.side) (some_is e) in cc

same_records : {a b : List ℕ} {rs ss : List (List ℕ)} → a ≡ b → Records a 0 rs → Records b 0 ss → rs ≡ ss
same_records e reads others = one_list_of_records (rw e at reads) others

-- the records of a trace and of a longer one
longer_records : {a b : List ℕ} (rest : List ℕ) {rs ss : List (List ℕ)} → b ≡ a ++ rest → 0 < length rest → Records a 0 rs → Records b 0 ss
    → (t : List ℕ) × ((ts : List (List ℕ)) × (ss ≡ rs ++ (t ∷ ts)))
longer_records {a} {b} rest {rs} e long reads others = go (goes_likewise a rest reads (rw e at others))
  where
    go : {ss : List (List ℕ)} → More a (a ++ rest) rs ss → (t : List ℕ) × ((ts : List (List ℕ)) × (ss ≡ rs ++ (t ∷ ts)))
    go m = by m.more m.both m.behind
      where
        by : {ss : List (List ℕ)} (more : List (List ℕ)) → ss ≡ rs ++ more → Records (a ++ rest) (length a) more
            → (t : List ℕ) × ((ts : List (List ℕ)) × (ss ≡ rs ++ (t ∷ ts)))
        by [] f (none_left d) = absurd (omega (arith, length-append a rest))
        by (t ∷ ts) f there = (t, (ts, f))

is_prefix : (a b : List ℕ) (rs : List (List ℕ)) (t : List ℕ) (ts : List (List ℕ)) → joined rs ≡ a → joined (rs ++ (t ∷ ts)) ≡ b → (a ≡ b → ⊥) → IsPrefix a b
is_prefix a b rs t ts e f other =
    let all : b ≡ a ++ joined (t ∷ ts) = sym f ∙ joined_append rs (t ∷ ts) ∙ rw e in
    (joined (t ∷ ts), (all, some (joined (t ∷ ts)) all))
  where
    -- nothing more would be equal
    some : (rest : List ℕ) → b ≡ a ++ rest → 0 < length rest
    some [] g = absurd (other (sym (append-nil a) ∙ sym g))
    some (x ∷ rest) g = omega arith

longer_traces : {a b : List ℕ} {rs ss : List (List ℕ)} → Longer rs ss → joined rs ≡ a → joined ss ≡ b → (a ≡ b → ⊥) → IsPrefix a b ⊎ IsPrefix b a
longer_traces {a} {b} (second_longer {rs} t ts) e f other = inl (is_prefix a b rs t ts e f other)
longer_traces {a} {b} (first_longer {ss} t ts) e f other = inr (is_prefix b a ss t ts f e (λ g. other (sym g)))

rest_behind : (a b : List ℕ) (rs : List (List ℕ)) (t : List ℕ) (ts : List (List ℕ)) → joined rs ≡ a → joined (rs ++ (t ∷ ts)) ≡ b → a ++ drop (length a) b ≡ b
rest_behind a b rs t ts e f =
    let all : b ≡ a ++ joined (t ∷ ts) = sym f ∙ joined_append rs (t ∷ ts) ∙ rw e in
    rw all (ap (λ (l : List ℕ). a ++ l) (drop_at a (joined (t ∷ ts)) (length a) refl))

pub no_error : (first second : List ℕ) → error_of first second ≡ Ok tt → (error_in First first ≡ Ok tt) × (error_in Second second ≡ Ok tt)
unfolding error_of
no_error first second e = go (error_in First first) e
  where
    go : (d : Fault) → else_error d (error_in Second second) ≡ Ok tt → (d ≡ Ok tt) × (error_in Second second ≡ Ok tt)
    go (Ok none) f = (refl, f)
    go (Err e) f = never (cc)

module _ (first second : List ℕ) (sound : error_of first second ≡ Ok tt) where
  -- the records of both
  record Both : Type 0 where
    rs : List (List ℕ)
    ss : List (List ℕ)
    reads : Records first 0 rs
    others : Records second 0 ss

  both : Both
  both =
      let f = without_error first First (no_error first second sound).0 in
      let g = without_error second Second (no_error first second sound).1 in
      record { rs = f.0; ss = g.0; reads = f.1; others = g.1 }

  by_records : (from : ℕ) → compared first second from ≡ Ok (listed from at_start both.rs both.ss)
  by_records from = compared_by_the_records first second from both.reads both.others

  -- so the answer tells who ends first as its last step does
  pub the_walk_is_over : (from : ℕ) → (side : Option Side) × (step_of first second (walked first second from) ≡ Ok (Over side))
  unfolding walked
  the_walk_is_over from = walk_is_over first second from both.reads both.others at_start refl refl

  first_is : joined both.rs ≡ first
  first_is = records_make_the_trace both.reads

  second_is : joined both.ss ≡ second
  second_is = records_make_the_trace both.others

  pub equal_exactly_when : (from : ℕ) → (likeness_told (compared first second from) ≡ Some Equal) ↔ (first ≡ second)
  equal_exactly_when from = (forth, back)
    where
      forth : likeness_told (compared first second from) ≡ Some Equal → first ≡ second
      forth e =
          let same : both.rs ≡ both.ss = (equal_records true both.rs both.ss (some_is (sym (ap likeness_told (by_records from)) ∙ e))).1 in
          sym first_is ∙ ap joined same ∙ second_is

      back : first ≡ second → likeness_told (compared first second from) ≡ Some Equal
      back e =
          let same : both.rs ≡ both.ss = same_records e both.reads both.others in
          ap likeness_told (by_records from) ∙ rw same (ap Some (records_equal both.ss))

  likeness_is : (from : ℕ) → likeness_told (compared first second from) ≡ Some (likeness_in true both.rs both.ss)
  likeness_is from = ap likeness_told (by_records from)

  ends_is : (from : ℕ) → ends_told (compared first second from) ≡ Some (ends_in 0 both.rs both.ss)
  ends_is from = ap ends_told (by_records from)

  pub prefix_exactly_when : (from : ℕ) → (likeness_told (compared first second from) ≡ Some Prefix) ↔ (IsPrefix first second ⊎ IsPrefix second first)
  prefix_exactly_when from = (forth, back)
    where
      forth : likeness_told (compared first second from) ≡ Some Prefix → IsPrefix first second ⊎ IsPrefix second first
      forth e =
          longer_traces (prefix_records true both.rs both.ss (some_is (sym (likeness_is from) ∙ e))).1 first_is second_is
          (λ f. let d : likeness_told (compared first second from) ≡ Some Equal = (equal_exactly_when from).1 f in never (cc))

      back : IsPrefix first second ⊎ IsPrefix second first → likeness_told (compared first second from) ≡ Some Prefix
      back (inl p) =
          let l = longer_records p.0 p.1.0 p.1.1 both.reads both.others in
          likeness_is from ∙ rw l.1.1 (ap Some (second_is_longer 0 both.rs l.0 l.1.0).0)
      back (inr p) =
          let l = longer_records p.0 p.1.0 p.1.1 both.others both.reads in
          likeness_is from ∙ rw l.1.1 (ap Some (first_is_longer 0 both.ss l.0 l.1.0).0)

  pub the_rest_makes_the_longer : likeness_told (compared first second 0) ≡ Some Prefix → Rest first second (ends_told (compared first second 0)) (rest_of first second)
  unfolding rest_of
  the_rest_makes_the_longer e =
      go (prefix_records true both.rs both.ss (some_is (sym (likeness_is 0) ∙ e))).1 refl refl
    where
      go : {rs ss : List (List ℕ)} → Longer rs ss → both.rs ≡ rs → both.ss ≡ ss
          → Rest first second (ends_told (compared first second 0)) (rest_by (longer_by (likeness_told (compared first second 0)) (ends_told (compared first second 0))) first second)
      go (second_longer {rs} t ts) f g =
          let ends : ends_told (compared first second 0) ≡ Some (ends_first (0 + length rs)) = ends_is 0 ∙ rw (f, g) (ap Some (second_is_longer 0 rs t ts).1) in
          rw (e, ends)
          (record {
            of_the_second = λ n h. rest_behind first second rs t ts (sym (ap joined f) ∙ first_is) (sym (ap joined g) ∙ second_is);
            of_the_first = λ n h. never (one_side h);
            one_ends = (0 + length rs, inl refl);
          })
      go (first_longer {ss} t ts) f g =
          let ends : ends_told (compared first second 0) ≡ Some (ends_second (0 + length ss)) = ends_is 0 ∙ rw (f, g) (ap Some (first_is_longer 0 ss t ts).1) in
          rw (e, ends)
          (record {
            of_the_second = λ n h. never (one_side (sym h));
            of_the_first = λ n h. rest_behind second first ss t ts (sym (ap joined g) ∙ second_is) (sym (ap joined f) ∙ first_is);
            one_ends = (0 + length ss, inr refl);
          })

-- ---- the record given
first_from : (from m : ℕ) (rs ss : List (List ℕ)) (n k l : ℕ) → difference_in from m rs ss ≡ Some (first_differs n k l)
    → (i : ℕ) × ((n ≡ m + i) × FirstFrom from m i k l rs ss)
unfolding difference_in
first_from from m [] ss n k l e = never (cc)
first_from from m (r ∷ rs) [] n k l e = never (cc)
first_from from m (r ∷ rs) (s ∷ ss) n k l e =
    go (leb from m) refl (same_bytes r s) refl e (λ f. first_from from (m + 1) rs ss n k l f)
  where
    here : leb from m ≡ true → same_bytes r s ≡ false → first_differs m (kind_in r) (kind_in s) ≡ first_differs n k l
        → (i : ℕ) × ((n ≡ m + i) × FirstFrom from m i k l (r ∷ rs) (s ∷ ss))
    here c d f =
        let number : m ≡ n = ap (λ (d : Difference). d.number) f in (
          0,
          (
            omega arith,
            record {
              asked = omega (arith, leb-true from m c);
              in_first = omega arith;
              in_second = omega arith;
              kind_of_first = ap (λ (d : Difference). d.first) f;
              kind_of_second = ap (λ (d : Difference). d.second) f;
              differ = λ g. true_not_false (rw g (equal_bytes_are_the_same s)) d;
              same_before = λ j h less. absurd (omega arith);
            },
          ),
        )

    later : (i : ℕ) × ((n ≡ m + 1 + i) × FirstFrom from (m + 1) i k l rs ss) → (leb from m ≡ true → r ≡ s)
        → (i : ℕ) × ((n ≡ m + i) × FirstFrom from m i k l (r ∷ rs) (s ∷ ss))
    later w one =
        let f = w.1.1 in (
          suc w.0,
          (
            omega (arith, w.1.0),
            record {
              asked = omega (arith, f.asked);
              in_first = omega (arith, f.in_first);
              in_second = omega (arith, f.in_second);
              kind_of_first = f.kind_of_first;
              kind_of_second = f.kind_of_second;
              differ = f.differ;
              same_before = before;
            },
          ),
        )
      where
        before : (j : ℕ) → from ≤ m + j → j < suc w.0 → get_or (r ∷ rs) j [] ≡ get_or (s ∷ ss) j []
        before zero h less = one (le-leb from m (omega arith))
        before (suc j) h less = w.1.1.same_before j (omega arith) (omega arith)

    go : (a : Bool) → leb from m ≡ a → (b : Bool) → same_bytes r s ≡ b
        → cond (a && not b) (Some (first_differs m (kind_in r) (kind_in s))) (difference_in from (m + 1) rs ss) ≡ Some (first_differs n k l)
        → (difference_in from (m + 1) rs ss ≡ Some (first_differs n k l) → (i : ℕ) × ((n ≡ m + 1 + i) × FirstFrom from (m + 1) i k l rs ss))
        → (i : ℕ) × ((n ≡ m + i) × FirstFrom from m i k l (r ∷ rs) (s ∷ ss))
    go true c false d f rest = here c d (some_is f)
    go true c true d f rest = later (rest f) (λ x. same_bytes_are_equal r s d)
    go false c false d f rest = later (rest f) (λ x. absurd (true_not_false x c))
    go false c true d f rest = later (rest f) (λ x. same_bytes_are_equal r s d)

none_from : (from m : ℕ) (rs ss : List (List ℕ)) → difference_in from m rs ss ≡ None
    → (j : ℕ) → from ≤ m + j → j < length rs → j < length ss → get_or rs j [] ≡ get_or ss j []
unfolding difference_in
none_from from m [] ss e j h a b = absurd (omega arith)
none_from from m (r ∷ rs) [] e j h a b = absurd (omega arith)
none_from from m (r ∷ rs) (s ∷ ss) e j h a b =
    go (leb from m) refl (same_bytes r s) refl e j h a b (λ f i g c d. none_from from (m + 1) rs ss f i g c d)
  where
    go : (x : Bool) → leb from m ≡ x → (y : Bool) → same_bytes r s ≡ y
        → cond (x && not y) (Some (first_differs m (kind_in r) (kind_in s))) (difference_in from (m + 1) rs ss) ≡ None
        → (j : ℕ) → from ≤ m + j → j < suc (length rs) → j < suc (length ss)
        → (difference_in from (m + 1) rs ss ≡ None → (i : ℕ) → from ≤ m + 1 + i → i < length rs → i < length ss → get_or rs i [] ≡ get_or ss i [])
        → get_or (r ∷ rs) j [] ≡ get_or (s ∷ ss) j []
    go true p false q e j h a b rest = never (cc)
    go true p true q e zero h a b rest = same_bytes_are_equal r s q
    go true p true q e (suc j) h a b rest = rest e j (omega arith) (omega arith) (omega arith)
    go false p y q e zero h a b rest =
        let less : from ≤ m → ⊥ = λ g. true_not_false (le-leb from m g) p in
        absurd (less (omega arith))
    go false p y q e (suc j) h a b rest = rest e j (omega arith) (omega arith) (omega arith)

module _ {first second : List ℕ} {rs ss : List (List ℕ)} (reads : Records first 0 rs) (others : Records second 0 ss) (from : ℕ) where
  by_lists : compared first second from ≡ Ok (listed from at_start rs ss)
  by_lists = compared_by_the_records first second from reads others

  pub who_ends_first : ends_told (compared first second from) ≡ Some (ends_by_count (length rs) (length ss))
  who_ends_first =
      let a : 0 + length rs ≡ length rs = omega arith in
      let b : 0 + length ss ≡ length ss = omega arith in
      ap ends_told by_lists ∙ ap Some (counted 0 rs ss ∙ rw (a, b))

  difference_is : difference_told (compared first second from) ≡ difference_in from 0 rs ss
  difference_is = ap difference_told by_lists

  pub all_before_is_the_same : (n k l : ℕ) → difference_told (compared first second from) ≡ Some (first_differs n k l) → FirstFrom from 0 n k l rs ss
  all_before_is_the_same n k l e =
      let w = first_from from 0 rs ss n k l (sym difference_is ∙ e) in
      let number : w.0 ≡ n = omega (arith, w.1.0) in
      rw number at w.1.1

  pub none_is_all_the_same : difference_told (compared first second from) ≡ None
      → (j : ℕ) → from ≤ j → j < length rs → j < length ss → get_or rs j [] ≡ get_or ss j []
  none_is_all_the_same e j h a b = none_from from 0 rs ss (sym difference_is ∙ e) j (omega arith) a b

-- ---- the number asked changes the difference alone
pub error_told : (first second : List ℕ) (from : ℕ) → fault_told (compared first second from) ≡ error_of first second
unfolding compared compared_from concluded
error_told first second from = go (error_of first second)
  where
    go : (e : Fault) → fault_told (unless_error e (compared_from first second (walked first second from))) ≡ e
    go (Ok none) = refl
    go (Err e) = refl

with_error : (first second : List ℕ) (from : ℕ) (e : Error) → error_of first second ≡ Err e → compared first second from ≡ Err e
unfolding compared
with_error first second from e f = rw f

pub whatever_number_is_asked : (first second : List ℕ) (m n : ℕ)
    → (fault_told (compared first second m) ≡ fault_told (compared first second n))
    × ((ends_told (compared first second m) ≡ (ends_told (compared first second n))) × (likeness_told (compared first second m) ≡ (likeness_told (compared first second n))))
whatever_number_is_asked first second m n = (error_told first second m ∙ sym (error_told first second n), go (error_of first second) refl)
  where
    go : (d : Fault) → error_of first second ≡ d
        → (ends_told (compared first second m) ≡ (ends_told (compared first second n))) × (likeness_told (compared first second m) ≡ (likeness_told (compared first second n)))
    go (Ok none) e = (ends_is first second e m ∙ sym (ends_is first second e n), likeness_is first second e m ∙ sym (likeness_is first second e n))
    go (Err d) e = rw (with_error first second m d e, with_error first second n d e) (refl, refl)

-- ---- the other way round
same_bytes_either_way : (a b : List ℕ) → same_bytes a b ≡ same_bytes b a
same_bytes_either_way [] [] = refl
same_bytes_either_way [] (y ∷ b) = refl
same_bytes_either_way (x ∷ a) [] = refl
same_bytes_either_way (x ∷ a) (y ∷ b) =
    let one : eqb x y ≡ eqb y x =
    same_test (eqb x y) (eqb y x) (λ e. eq-eqb y x (sym (eqb-true x y e))) (λ e. eq-eqb x y (sym (eqb-true y x e))) in
    rw (one, same_bytes_either_way a b)

swap_if : (b : Bool) (d e : Option Difference) → swap_difference (cond b d e) ≡ cond b (swap_difference d) (swap_difference e)
swap_if true d e = refl
swap_if false d e = refl

difference_swaps : (from n : ℕ) (rs ss : List (List ℕ)) → difference_in from n ss rs ≡ swap_difference (difference_in from n rs ss)
unfolding difference_in
difference_swaps from n [] [] = refl
difference_swaps from n [] (s ∷ ss) = refl
difference_swaps from n (r ∷ rs) [] = refl
difference_swaps from n (r ∷ rs) (s ∷ ss) =
    rw (swap_if, difference_swaps from (n + 1) rs ss, same_bytes_either_way s r)

ends_swap : (n : ℕ) (rs ss : List (List ℕ)) → ends_in n ss rs ≡ swap_ends (ends_in n rs ss)
unfolding ends_in
ends_swap n [] [] = refl
ends_swap n [] (s ∷ ss) = refl
ends_swap n (r ∷ rs) [] = refl
ends_swap n (r ∷ rs) (s ∷ ss) = ends_swap (n + 1) rs ss

likeness_swaps : (alike : Bool) (rs ss : List (List ℕ)) → likeness_in alike ss rs ≡ likeness_in alike rs ss
unfolding likeness_in
likeness_swaps alike [] [] = refl
likeness_swaps alike [] (s ∷ ss) = refl
likeness_swaps alike (r ∷ rs) [] = refl
likeness_swaps alike (r ∷ rs) (s ∷ ss) = rw (same_bytes_either_way s r) (likeness_swaps (alike && same_bytes r s) rs ss)

swaps_listed : (from : ℕ) (rs ss : List (List ℕ)) → Ok (listed from at_start ss rs) ≡ swapped (Ok (listed from at_start rs ss))
swaps_listed from rs ss = rw (difference_swaps from 0 rs ss, ends_swap 0 rs ss, likeness_swaps true rs ss)

error_swaps : (side : Side) (trace : List ℕ) → error_in (other_side side) trace ≡ swap_fault (error_in side trace)
unfolding error_in
error_swaps side trace = go (extent_at trace (records_end trace 0))
  where
    go : (e : Extent) → error_by (other_side side) e (records_end trace 0) ≡ swap_fault (error_by side e (records_end trace 0))
    go (Ok found) = refl
    go (Err x) = refl

pub the_other_way_round : (first second : List ℕ) (from : ℕ) → (error_in First first ≡ Ok tt) ⊎ (error_in Second second ≡ Ok tt)
    → compared second first from ≡ swapped (compared first second from)
unfolding error_of
the_other_way_round first second from one =
    go (error_in First first) refl (error_in Second second) refl one
  where
    -- each trace's error on the other side
    of_first : {d : Fault} → error_in First first ≡ d → error_in Second first ≡ swap_fault d
    of_first f = error_swaps First first ∙ ap swap_fault f

    of_second : {e : Fault} → error_in Second second ≡ e → error_in First second ≡ swap_fault e
    of_second g = error_swaps Second second ∙ ap swap_fault g

    go : (d : Fault) → error_in First first ≡ d → (e : Fault) → error_in Second second ≡ e → (d ≡ Ok tt) ⊎ (e ≡ Ok tt)
        → compared second first from ≡ swapped (compared first second from)
    go (Ok none) f (Ok nothing) g w =
        let b = both first second (rw (f, g)) in
        compared_by_the_records second first from b.others b.reads
        ∙ swaps_listed from b.rs b.ss
        ∙ sym (ap swapped (compared_by_the_records first second from b.reads b.others))
    go (Ok none) f (Err e) g w =
        with_error second first from (swap_error e) (rw (of_second g)) ∙ sym (ap swapped (with_error first second from e (rw (f, g))))
    go (Err d) f (Ok none) g w =
        with_error second first from (swap_error d) (rw (of_second g, of_first f)) ∙ sym (ap swapped (with_error first second from d (rw f)))
    go (Err d) f (Err e) g (inl h) = never (cc)
    go (Err d) f (Err e) g (inr h) = never (cc)

-- ---- no rest but of a prefix
pub otherwise_no_rest : (first second : List ℕ) → (likeness_told (compared first second 0) ≡ Some Prefix → ⊥) → rest_of first second ≡ []
unfolding rest_of
otherwise_no_rest first second other = go (likeness_told (compared first second 0)) (ends_told (compared first second 0)) other
  where
    go : (l : Option Likeness) (e : Option Ends) → (l ≡ Some Prefix → ⊥) → rest_by (longer_by l e) first second ≡ []
    go (Some Equal) e h = drop-length first
    go (Some Different) e h = drop-length first
    go None e h = drop-length first
    go (Some Prefix) e h = absurd (h refl)

-- a prefix is told of traces without errors alone
pub prefix_without_error : (first second : List ℕ) → likeness_told (compared first second 0) ≡ Some Prefix → error_of first second ≡ Ok tt
prefix_without_error first second e = go (error_of first second) refl
  where
    go : (d : Fault) → error_of first second ≡ d → d ≡ Ok tt
    go (Ok none) f = refl
    go (Err d) f =
        let untold : likeness_told (compared first second 0) ≡ None = ap likeness_told (with_error first second 0 d f) in
        never (cc)

-- so the longer is longer
pub the_longer_is_longer : (first second : List ℕ)
    → (longer_of (compared first second 0) ≡ Some Second → length first ≤ length second)
    × (longer_of (compared first second 0) ≡ Some First → length second ≤ length first)
the_longer_is_longer first second = (
  λ e. (go (likeness_told (compared first second 0)) refl (ends_told (compared first second 0)) refl).0 e,
  λ e. (go (likeness_told (compared first second 0)) refl (ends_told (compared first second 0)) refl).1 e,
)
  where
    long : (a b c : List ℕ) → a ++ b ≡ c → length a ≤ length c
    long a b c e = omega (arith, simp length-append at (ap length e))

    go : (l : Option Likeness) → likeness_told (compared first second 0) ≡ l → (e : Option Ends) → ends_told (compared first second 0) ≡ e
        → (longer_by l e ≡ Some Second → length first ≤ length second) × (longer_by l e ≡ Some First → length second ≤ length first)
    go (Some Prefix) f (Some e) g =
        let r = the_rest_makes_the_longer first second (prefix_without_error first second f) f in
        by e.side g r
      where
        by : (side : Option Side) → ends_told (compared first second 0) ≡ Some (record { side = side; records = e.records })
            → Rest first second (ends_told (compared first second 0)) (rest_of first second)
            → (other_of side ≡ Some Second → length first ≤ length second) × (other_of side ≡ Some First → length second ≤ length first)
        by (Some First) g r = (λ h. long first _ second (r.of_the_second e.records g), λ h. never (cc))
        by (Some Second) g r = (λ h. never (cc), λ h. long second _ first (r.of_the_first e.records g))
        by None g r = (λ h. never (cc), λ h. never (cc))
    go (Some Prefix) f None g = (λ h. never (cc), λ h. never (cc))
    go (Some Equal) f e g = (λ h. never (cc), λ h. never (cc))
    go (Some Different) f e g = (λ h. never (cc), λ h. never (cc))
    go None f e g = (λ h. never (cc), λ h. never (cc))

-- ---- an error stands alone
pub an_error_stands_alone : (first second : List ℕ) (from : ℕ) (e : Error) → error_of first second ≡ Err e → Alone first second from e
an_error_stands_alone first second from e f =
    let untold : likeness_told (compared first second 0) ≡ None = ap likeness_told (with_error first second 0 e f) in
    let one = with_error first second from e f in
    record {
      told = one;
      no_difference = ap difference_told one;
      no_end = ap ends_told one;
      no_likeness = ap likeness_told one;
      no_rest = otherwise_no_rest first second (λ g. never (none_not_some (sym untold ∙ g)));
    }
  where
    none_not_some : None ≡ Some Prefix → ◌≡◌ {A = ℕ} 0 1
    none_not_some e = cc
