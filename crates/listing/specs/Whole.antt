-- However two traces are cut into parts, and whatever room the lines are given, they are those of the whole traces.
-- Assumes nothing.
use Rattle.std.specs.Prelude.{◌≡◌, Bool, true, false, cond, drop, Some, None, Ok, Err}
use Rattle.std.proofs.Math.Path.{refl, sym}
use Rattle.std.proofs.Common.{ap, ◌∙◌, length-drop, drop-drop}
use mathlib.Core.List.{List, ◌++◌, append_assoc}
use Prim.Native.Nat.{ℕ, zero, suc, ◌+◌, ◌-◌, ◌≤◌}
use native.Mathlib.Omega.{arith}
use Rattle.std.proofs.Math.ListN.{length}
use Rattle.std.proofs.lemmas.List.{take-append-le, drop-append-le}
use Rattle.rules.specs.Trace.{read_at}
use Rattle.rules.specs.Results.{Read, found}
use Rattle.rules.specs.Chunks.{is_cut}
use Rattle.rules.proofs.Laws.Bools.{true_not_false, and_left}
use Rattle.rules.proofs.Laws.Trace.{record_at}
use Rattle.rules.proofs.Laws.Pieces.{same_with_more, shifted, shifted_with_less}
use Rattle.rules.specs.declared.trace.Record.{Record}
use Rattle.trace.specs.Kinds.{kind_in}
use Rattle.trace.specs.declared.kind.Kind.{Kind}
use Rattle.trace.specs.declared.decoder.Whole.{Whole}
use Rattle.comparison.specs.Compare.{Extent, Stepped, between, is_pair, advanced}
use Rattle.comparison.proofs.Laws.Steps.{WholeAt, whole_at, extent_of_lem, Stepping, each_step, pair_step}
use Rattle.comparison.proofs.Laws.Steps.Stepping.{pair, first_ends, second_ends, both_end, first_broken, second_broken}
use Rattle.comparison.specs.declared.Step.TheVariants.{Pair, Over}
use Rattle.comparison.specs.declared.Reach.{Reach}
use Rattle.listing.specs.Listing.{differs_at, line_by, step_in, at_the_front, Lines, none, before, goes_on, list_from, listed, closing_by, differs_from}
use Rattle.listing.specs.Laws.{a_pair_goes_on, no_pair_left}
use Rattle.comparison.specs.declared.Sides.{Sides}

-- ---- a part of a trace
-- these bytes of a trace are held, from a place on
pub record Held (trace : List ℕ) (from : ℕ) (here : List ℕ) : Type 0 where
  pub later : List ℕ
  pub split : drop from trace ≡ here ++ later
  pub inside : from ≤ length trace

-- the record that reading finds
abbrev record_or : Record → Read → Record
record_or r (Ok (Some f)) = f.item
record_or r (Ok None) = r
record_or r (Err x) = r

one_record : {r s : Record} {m n : ℕ} → found r m ≡ found s n → r ≡ s
one_record {r} e = ap (record_or r) e

abbrev kind_or : Whole → Extent → Kind
kind_or w (Ok (Some v)) = v.kind
kind_or w (Ok None) = w.kind
kind_or w (Err x) = w.kind

kind_of_whole : {trace : List ℕ} {at : ℕ} {w : Whole} → WholeAt trace at w → kind_in (record_at trace at) ≡ w.kind
kind_of_whole {trace} {at} {w} v = ap (kind_or w) (sym (extent_of_lem trace at _ v.reads) ∙ v.extent)

-- a record that is whole in the part is the same record in the trace
abbrev pub whole_from : ℕ → Whole → Whole
whole_from from w = record { kind = w.kind; next = from + w.next }

module _ {trace : List ℕ} {from : ℕ} {here : List ℕ} (h : Held trace from here) {at : ℕ} {w : Whole} (v : WholeAt here at w) where
  reads_whole : read_at trace (from + at) ≡ found (record_at here at) (from + w.next)
  unfolding is_cut shifted
  reads_whole =
      let more : read_at (here ++ h.later) at ≡ found (record_at here at) w.next = same_with_more here h.later at (rw v.reads) ∙ v.reads in
      shifted_with_less trace from h.inside at ∙ rw (h.split, more)

  pub whole_there : WholeAt trace (from + at) (whole_from from w)
  whole_there =
      let kind_is : kind_in (record_at here at) ≡ w.kind = kind_of_whole v in
      whole_at trace (from + at) (extent_of_lem trace (from + at) _ reads_whole ∙ rw kind_is)

  pub record_there : record_at trace (from + at) ≡ record_at here at
  record_there = one_record (sym whole_there.reads ∙ reads_whole)

  pub bytes_there : between (from + at) (from + w.next) trace ≡ between at w.next here
  bytes_there =
      let long : from + w.next - (from + at) ≡ w.next - at = omega arith in
      let fits : w.next - at ≤ length (drop at here) = simp length-drop (omega (arith, v.within)) in
      rw (long, ← drop-drop at from trace, h.split, drop-append-le at here h.later (omega (arith, v.onward, v.within)), take-append-le (w.next - at) (drop at here) h.later fits)

-- ---- a pair in parts is the same pair in the traces
abbrev pub moved : Sides ℕ → Stepped → Stepped
moved b (Ok (Pair p)) =
    Ok (Pair (record { first = whole_from b.first p.first; second = whole_from b.second p.second; same = p.same }))
moved b (Ok (Over side)) = Ok (Over side)
moved b (Err e) = Err e

-- how far the lines have come, in the traces
abbrev pub shift : Sides ℕ → Reach → Reach
shift b r = record { number = r.number; first = b.first + r.first; second = b.second + r.second; alike = r.alike }

module _ {first second : List ℕ} {b : Sides ℕ} {here there : List ℕ} (f : Held first b.first here) (g : Held second b.second there) where
  -- the step, its line and what is passed
  record There (r : Reach) (s : Stepped) : Type 0 where
    step_there : step_in first second (shift b r) ≡ moved b s
    line_there : line_by at_the_front first second (moved b s) (shift b r) ≡ line_by b here there s r
    past_there : advanced (moved b s) (shift b r) ≡ shift b (advanced s r)

  there_is : (r : Reach) {s : Stepped} → Stepping here r.first there r.second s → is_pair s ≡ true → There r s
  unfolding line_by advanced differs_at
  there_is r (pair v w) t =
      record {
        step_there = pair_step (whole_there f v) (whole_there g w) ∙ rw (bytes_there f v, bytes_there g w);
        line_there =
            let p : 0 + (b.first + r.first) ≡ b.first + r.first = omega arith in
            let q : 0 + (b.second + r.second) ≡ b.second + r.second = omega arith in
            rw (p, q, record_there f v, record_there g w);
        past_there = refl;
      }
  there_is r (first_ends h w) t = absurd (true_not_false t refl)
  there_is r (second_ends v h) t = absurd (true_not_false t refl)
  there_is r (both_end h k) t = absurd (true_not_false t refl)
  there_is r (first_broken x) t = absurd (true_not_false t refl)
  there_is r (second_broken x) t = absurd (true_not_false t refl)

  there_too : (r : Reach) → is_pair (step_in here there r) ≡ true → There r (step_in here there r)
  there_too r t = there_is r (each_step here r.first there r.second) t

  still_pair : (s : Stepped) → is_pair (moved b s) ≡ is_pair s
  still_pair (Ok (Pair p)) = refl
  still_pair (Ok (Over side)) = refl
  still_pair (Err e) = refl

-- ---- the lines of the whole from here on, whatever is said at their end
module _ (first second : List ℕ) (end : Reach → List ℕ) where
  differs_enough : (m n : ℕ) (r : Reach) → length first ≤ r.first + m → length first ≤ r.first + n
      → differs_from m first second end r ≡ differs_from n first second end r
  unfolding differs_from
  differs_enough zero zero r h k = refl
  differs_enough zero (suc n) r h k = sym (rw (no_pair_left first second r (omega arith)))
  differs_enough (suc m) zero r h k = rw (no_pair_left first second r (omega arith))
  differs_enough (suc m) (suc n) r h k =
      go (is_pair (step_in first second r)) refl
      (λ t. let o = a_pair_goes_on first second r t in differs_enough m n (advanced (step_in first second r) r) (omega (arith, o.first_on)) (omega (arith, o.first_on)))
    where
      next : Reach
      next = advanced (step_in first second r) r

      line : List ℕ
      line = line_by at_the_front first second (step_in first second r) r

      go : (x : Bool) → is_pair (step_in first second r) ≡ x
          → (is_pair (step_in first second r) ≡ true → differs_from m first second end next ≡ differs_from n first second end next)
          → cond x (line ++ differs_from m first second end next) (end r) ≡ cond x (line ++ differs_from n first second end next) (end r)
      go true t rest = ap (λ (l : List ℕ). line ++ l) (rest t)
      go false t rest = refl

  abbrev pub differs_on : Reach → List ℕ
  differs_on r = differs_from (suc (length first)) first second end r

  pub differs_on_lem : (r : Reach) → is_pair (step_in first second r) ≡ true
      → differs_on r ≡ line_by at_the_front first second (step_in first second r) r ++ differs_on (advanced (step_in first second r) r)
  unfolding differs_from
  differs_on_lem r t =
      rw t
      (ap (λ (l : List ℕ). line_by at_the_front first second (step_in first second r) r ++ l)
      (differs_enough (length first) (suc (length first)) (advanced (step_in first second r) r) (omega arith) (omega arith)))

  pub differs_here : (r : Reach) → is_pair (step_in first second r) ≡ false → differs_on r ≡ end r
  unfolding differs_from
  differs_here r t = rw t

-- ---- the lines of parts, and then those of what is left
module _ {first second : List ℕ} {b : Sides ℕ} {here there : List ℕ} (f : Held first b.first here) (g : Held second b.second there) (end : Reach → List ℕ) where
  one_more : (r : Reach) → is_pair (step_in here there r) ≡ true
      → differs_on first second end (shift b r) ≡ line_by b here there (step_in here there r) r ++ differs_on first second end (shift b (advanced (step_in here there r) r))
  one_more r t =
      let w = there_too f g r t in
      let pair : is_pair (step_in first second (shift b r)) ≡ true = ap is_pair w.step_there ∙ still_pair f g (step_in here there r) ∙ t in
      differs_on_lem first second end (shift b r) pair ∙ rw (w.step_there, w.line_there, w.past_there)

  parts_from : (m room : ℕ) (r : Reach)
      → differs_on first second end (shift b r) ≡ (list_from m b here there room r).bytes ++ differs_on first second end (shift b (list_from m b here there room r).reach)
  unfolding list_from
  parts_from zero room r = refl
  parts_from (suc m) room r =
      go (goes_on (step_in here there r) room) refl (parts_from m (room - length (line_by b here there (step_in here there r) r)) (advanced (step_in here there r) r))
    where
      next : Reach
      next = advanced (step_in here there r) r

      line : List ℕ
      line = line_by b here there (step_in here there r) r

      rest : Lines
      rest = list_from m b here there (room - length line) next

      go : (x : Bool) → goes_on (step_in here there r) room ≡ x
          → differs_on first second end (shift b next) ≡ rest.bytes ++ differs_on first second end (shift b rest.reach)
          → differs_on first second end (shift b r)
          ≡ (cond x (before line rest) (none r)).bytes ++ differs_on first second end (shift b (cond x (before line rest) (none r)).reach)
      go true t more =
          one_more r (and_left _ _ t) ∙ ap (λ (l : List ℕ). line ++ l) more
          ∙ sym (append_assoc line rest.bytes (differs_on first second end (shift b rest.reach)))
      go false t more = refl

  pub parts_print : (room : ℕ) (r : Reach)
      → differs_on first second end (shift b r) ≡ (listed b here there room r).bytes ++ differs_on first second end (shift b (listed b here there room r).reach)
  unfolding listed
  parts_print room r = parts_from (suc (length here)) room r

-- ---- what is said behind the last pair
abbrev pub closing_at : List ℕ → List ℕ → Reach → List ℕ
closing_at first second r =
    closing_by (step_in first second r) r.number r.alike (length first - r.first) (length second - r.second)

-- ---- a program that holds a part of each trace, passes the pairs that are whole in them, and then holds other parts that go on from
-- the same places, up to where no pair is left; and all that it prints
pub data Ran (first second : List ℕ) : Sides ℕ → List ℕ → List ℕ → Reach → List ℕ → Type 0 where
  lists : {b : Sides ℕ} {here there : List ℕ} {r : Reach} {out : List ℕ} (room : ℕ) → Held first b.first here → Held second b.second there
      → Ran first second b here there (listed b here there room r).reach out
      → Ran first second b here there r ((listed b here there room r).bytes ++ out)
  holds : {b c : Sides ℕ} {here there here₁ there₁ : List ℕ} {r s : Reach} {out : List ℕ} → shift c s ≡ shift b r
      → Ran first second c here₁ there₁ s out → Ran first second b here there r out
  over : {b : Sides ℕ} {here there : List ℕ} {r : Reach} → is_pair (step_in first second (shift b r)) ≡ false
      → Ran first second b here there r (closing_at first second (shift b r))

pub ran_prints : {first second : List ℕ} {b : Sides ℕ} {here there : List ℕ} {r : Reach} {out : List ℕ} → Ran first second b here there r out
    → out ≡ differs_on first second (closing_at first second) (shift b r)
ran_prints {first} {second} (lists {b} {here} {there} {r} room f g on) =
    ap (λ (l : List ℕ). (listed b here there room r).bytes ++ l) (ran_prints on) ∙ sym (parts_print f g (closing_at first second) room r)
ran_prints {first} {second} (holds e on) = ran_prints on ∙ ap (differs_on first second (closing_at first second)) e
ran_prints {first} {second} (over {b} {r = r} e) = sym (differs_here first second (closing_at first second) (shift b r) e)
