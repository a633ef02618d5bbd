-- Laws of two lists of records, each as its bytes: when they are equal, when one is the other and more, who ends first by counting,
-- and that a trace which begins with another begins with its records.
-- Assumes nothing.
use Rattle.std.specs.Prelude.{◌≡◌, refl, Bool, true, false, cond, ◌&&◌, List, [], ◌∷◌, ◌++◌, ℕ, suc, ◌+◌, ◌-◌, ◌<◌, eqb, ltb, length, drop}
use Rattle.std.proofs.Common.{sym, ap, ◌∙◌, append_assoc, arith, length-append, length-drop, eqb-true, eq-eqb, ltb-true, lt-ltb, le-ltb}
use Rattle.std.proofs.lemmas.List.{take-append-le, drop-append-le}
use Rattle.rules.specs.Trace.{read_at}
use Rattle.rules.specs.Chunks.{is_cut}
use Rattle.rules.proofs.Laws.Bools.{never, same_test, and_left, and_right, and_both}
use Rattle.rules.proofs.Laws.Pieces.{same_with_more}
use Rattle.rules.specs.declared.trace.Record.{Record}
use Rattle.trace.specs.Extents.{extent_of}
use Rattle.trace.specs.declared.decoder.Whole.{Whole}
use Rattle.comparison.specs.Compare.{past_of, same_bytes, between}
use Rattle.comparison.specs.Theorems.{ends_first, ends_second, ends_neither}
use Rattle.comparison.proofs.Laws.Steps.{WholeAt}
use Rattle.comparison.proofs.Laws.Records.{Records, joined, ends_in, likeness_in}
use Rattle.comparison.proofs.Laws.Records.Records.{none_left, one_more}
use Rattle.comparison.specs.declared.Ends.{Ends}
use Rattle.comparison.specs.declared.Likeness.TheVariants.{Equal, Prefix}
use Rattle.rules.specs.Results.{Read, found}

-- ---- bytes that are the same
pub same_bytes_are_equal : (a b : List ℕ) → same_bytes a b ≡ true → a ≡ b
same_bytes_are_equal [] [] e = refl
same_bytes_are_equal [] (y ∷ b) e = never (cc)
same_bytes_are_equal (x ∷ a) [] e = never (cc)
same_bytes_are_equal (x ∷ a) (y ∷ b) e = rw (eqb-true x y (and_left (eqb x y) _ e), same_bytes_are_equal a b (and_right (eqb x y) _ e))

pub equal_bytes_are_the_same : (a : List ℕ) → same_bytes a a ≡ true
equal_bytes_are_the_same [] = refl
equal_bytes_are_the_same (x ∷ a) = and_both (eqb x x) (same_bytes a a) (eq-eqb x x refl) (equal_bytes_are_the_same a)

-- ---- equal
pub equal_records : (alike : Bool) (rs ss : List (List ℕ)) → likeness_in alike rs ss ≡ Equal → (alike ≡ true) × (rs ≡ ss)
unfolding likeness_in
equal_records true [] [] e = (refl, refl)
equal_records false [] [] e = never (cc)
equal_records true [] (s ∷ ss) e = never (cc)
equal_records false [] (s ∷ ss) e = never (cc)
equal_records true (r ∷ rs) [] e = never (cc)
equal_records false (r ∷ rs) [] e = never (cc)
equal_records alike (r ∷ rs) (s ∷ ss) e =
    let on = equal_records (alike && same_bytes r s) rs ss e in
    (and_left alike _ on.0, rw (same_bytes_are_equal r s (and_right alike _ on.0), on.1))

pub records_equal : (rs : List (List ℕ)) → likeness_in true rs rs ≡ Equal
unfolding likeness_in
records_equal [] = refl
records_equal (r ∷ rs) = rw (equal_bytes_are_the_same r) (records_equal rs)

-- ---- prefix
-- one list of records is the other and more
pub data Longer : List (List ℕ) → List (List ℕ) → Type 0 where
  second_longer : {rs : List (List ℕ)} (t : List ℕ) (ts : List (List ℕ)) → Longer rs (rs ++ (t ∷ ts))
  first_longer : {ss : List (List ℕ)} (t : List ℕ) (ts : List (List ℕ)) → Longer (ss ++ (t ∷ ts)) ss

longer_more : (r : List ℕ) {rs ss : List (List ℕ)} → Longer rs ss → Longer (r ∷ rs) (r ∷ ss)
longer_more r (second_longer {rs} t ts) = second_longer {rs = r ∷ rs} t ts
longer_more r (first_longer {ss} t ts) = first_longer {ss = r ∷ ss} t ts

pub prefix_records : (alike : Bool) (rs ss : List (List ℕ)) → likeness_in alike rs ss ≡ Prefix → (alike ≡ true) × Longer rs ss
unfolding likeness_in
prefix_records true [] [] e = never (cc)
prefix_records false [] [] e = never (cc)
prefix_records true [] (s ∷ ss) e = (refl, second_longer {rs = []} s ss)
prefix_records false [] (s ∷ ss) e = never (cc)
prefix_records true (r ∷ rs) [] e = (refl, first_longer {ss = []} r rs)
prefix_records false (r ∷ rs) [] e = never (cc)
prefix_records alike (r ∷ rs) (s ∷ ss) e =
    let on = prefix_records (alike && same_bytes r s) rs ss e in
    let one : r ≡ s = same_bytes_are_equal r s (and_right alike _ on.0) in
    (and_left alike _ on.0, rw one (longer_more s on.1))

pub second_is_longer : (n : ℕ) (rs : List (List ℕ)) (t : List ℕ) (ts : List (List ℕ))
    → (likeness_in true rs (rs ++ (t ∷ ts)) ≡ Prefix) × (ends_in n rs (rs ++ (t ∷ ts)) ≡ ends_first (n + length rs))
unfolding likeness_in ends_in
second_is_longer n [] t ts = (refl, ap ends_first (omega arith))
second_is_longer n (r ∷ rs) t ts =
    let on = second_is_longer (n + 1) rs t ts in
    (rw (equal_bytes_are_the_same r) on.0, on.1 ∙ ap ends_first (omega arith))

pub first_is_longer : (n : ℕ) (ss : List (List ℕ)) (t : List ℕ) (ts : List (List ℕ))
    → (likeness_in true (ss ++ (t ∷ ts)) ss ≡ Prefix) × (ends_in n (ss ++ (t ∷ ts)) ss ≡ ends_second (n + length ss))
unfolding likeness_in ends_in
first_is_longer n [] t ts = (refl, ap ends_second (omega arith))
first_is_longer n (s ∷ ss) t ts =
    let on = first_is_longer (n + 1) ss t ts in
    (ap (λ (b : Bool). likeness_in b (ss ++ (t ∷ ts)) ss) (equal_bytes_are_the_same s) ∙ on.0, on.1 ∙ ap ends_second (omega arith))

pub joined_append : (rs ts : List (List ℕ)) → joined (rs ++ ts) ≡ joined rs ++ joined ts
joined_append [] ts = refl
joined_append (r ∷ rs) ts = rw (joined_append rs ts, append_assoc)

-- ---- what one trace begins with, the other reads likewise
pub record More (first second : List ℕ) (rs ss : List (List ℕ)) : Type 0 where
  pub more : List (List ℕ)
  pub both : ss ≡ rs ++ more
  pub behind : Records second (length first) more

still_whole : (first later : List ℕ) {at : ℕ} {v w : Whole} → WholeAt first at v → WholeAt (first ++ later) at w
    → (w.next ≡ v.next) × (between at w.next (first ++ later) ≡ between at v.next first)
unfolding is_cut
still_whole first later {at} {v = a} {w = b} v w =
    let there : read_at (first ++ later) at ≡ read_at first at = same_with_more first later at (rw v.reads) in
    let one : b.next ≡ a.next = next_of (sym w.reads ∙ there ∙ v.reads) in
    (one, rw (one, drop-append-le at first later (omega (arith, v.onward, v.within)), take-append-le (a.next - at) (drop at first) later (omega (arith, length-drop at first, v.within))))
  where
    next_of : {r s : Record} {m n : ℕ} → found r m ≡ found s n → m ≡ n
    next_of e = ap (λ (read : Read). past_of (extent_of read) 0) e

both_parts : {r s : List ℕ} {rs ss : List (List ℕ)} → r ≡ s → rs ≡ ss → ◌≡◌ {A = List (List ℕ)} (r ∷ rs) (s ∷ ss)
both_parts e f = rw (e, f)

pub goes_likewise : (first later : List ℕ) {at : ℕ} {rs ss : List (List ℕ)} → Records first at rs → Records (first ++ later) at ss → More first (first ++ later) rs ss
goes_likewise first later (none_left e) others = record { more = _; both = refl; behind = rw e at others }
goes_likewise first later (one_more v more) (none_left d) = absurd (omega (arith, v.onward, v.within, length-append first later))
goes_likewise first later (one_more {rs = rs} v rest) (one_more {rs = ss} w others) =
    let here = still_whole first later v w in
    let on = goes_likewise first later rest (rw here.0 at others) in
    record { more = on.more; both = both_parts here.1 on.both; behind = on.behind }

-- ---- the count of the shorter, and whose it is
abbrev pub ends_by_count : ℕ → ℕ → Ends
ends_by_count m n = cond (ltb m n) (ends_first m) (cond (ltb n m) (ends_second n) (ends_neither m))

less_suc : (m n : ℕ) → ltb (suc m) (suc n) ≡ ltb m n
less_suc m n =
    same_test (ltb (suc m) (suc n)) (ltb m n)
    (λ e. let h : suc m < suc n = ltb-true (suc m) (suc n) e in lt-ltb m n (omega arith))
    (λ e. let h : m < n = ltb-true m n e in lt-ltb (suc m) (suc n) (omega arith))

pub counted : (n : ℕ) (rs ss : List (List ℕ)) → ends_in n rs ss ≡ cond (ltb (length rs) (length ss)) (ends_first (n + length rs)) (cond (ltb (length ss) (length rs)) (ends_second (n + length ss)) (ends_neither (n + length rs)))
unfolding ends_in
counted n [] [] = ap ends_neither (omega arith)
counted n [] (s ∷ ss) = rw (lt-ltb 0 (suc (length ss)) (omega arith)) (ap ends_first (omega arith))
counted n (r ∷ rs) [] = rw (le-ltb (suc (length rs)) 0 (omega arith), lt-ltb 0 (suc (length rs)) (omega arith)) (ap ends_second (omega arith))
counted n (r ∷ rs) (s ∷ ss) =
    let a : n + 1 + length rs ≡ n + suc (length rs) = omega arith in
    let b : n + 1 + length ss ≡ n + suc (length ss) = omega arith in
    counted (n + 1) rs ss ∙ rw (a, b, less_suc (length rs) (length ss), less_suc (length ss) (length rs))
