-- Rounds of the second walk, one after the other, print the report of the two traces. That the reads bring the bytes of the traces
-- and the writes take those of the lines is taken for granted here: no contract can say it.
-- Assumes nothing.
use Rattle.std.specs.Prelude.{◌≡◌, ℕ, ◌+◌, ◌-◌, Bool, true, false, List, [], ◌++◌, length, Option, Some, None, Result, Ok, Err}
use Rattle.std.proofs.Math.Path.{refl, sym, ap}
use Rattle.std.proofs.Common.{◌∙◌, append-nil, arith}
use Rattle.rules.specs.Trace.{read_at}
use Rattle.rules.specs.Results.{Read}
use Rattle.rules.specs.Chunks.{is_cut as is_cut_read}
use Rattle.rules.proofs.Laws.Bools.{never, true_not_false, and_swap}
use Rattle.rules.proofs.Laws.Pieces.{same_with_more, shifted, shifted_with_less}
use Rattle.trace.specs.Extents.{extent_of, extent_at}
use Rattle.comparison.specs.Compare.{Extent, Stepped, step_by, step_at, is_pair, error_of, reach_at_start}
use Rattle.comparison.proofs.Laws.Steps.{Stepping, each_step, ended_extent}
use Rattle.comparison.proofs.Laws.Steps.Stepping.{pair, first_ends, second_ends, both_end, first_broken, second_broken}
use Rattle.comparison.specs.declared.Side.{Side}
use Rattle.comparison.specs.declared.Side.TheVariants.{First, Second}
use Rattle.comparison.specs.declared.Step.TheVariants.{Pair, Over}
use Rattle.listing.specs.Listing.{step_in, at_the_front, closing_by, report}
use Rattle.listing.specs.Whole.{Held as PartOf, shift, whole_from, closing_at, Ran}
use Rattle.listing.specs.Whole.Ran.{lists, holds, over as over_there}
use Rattle.listing.specs.Report.{however_cut}
use Rattle.compare.specs.Parts.{part, is_cut, wants_bytes, wants_more}
use Rattle.compare.specs.Rounds.{begins_of, reach_of, lines_of, reached_by, step_held, Next, OneRound, Fresh}
use Rattle.compare.specs.Rounds.Next.{first_more, second_more, first_unread, second_unread, stays, over}
use Rattle.compare.specs.Rounds.OneRound.{wrote, unwritten}
use Rattle.compare.specs.declared.Failure.{Failure}
use Rattle.compare.specs.declared.differences.Standing.{Standing}

-- ---- what is held is of these traces, and nothing comes behind a part that is the last
pub record Holding (first second : List ℕ) (s : Standing) (a b : List ℕ) : Type 0 where
  pub of_first : PartOf first s.first.base (part s.first a)
  pub of_second : PartOf second s.second.base (part s.second b)
  pub first_last : s.first.last ≡ true → of_first.later ≡ []
  pub second_last : s.second.last ≡ true → of_second.later ≡ []

-- ---- a record that no more bytes could make whole is in the trace what it is in the part
abbrev pub shifted_extent : ℕ → Extent → Extent
shifted_extent k (Ok (Some w)) = Ok (Some (whole_from k w))
shifted_extent k (Ok None) = Ok None
shifted_extent k (Err x) = Err x

extent_shifts : (k : ℕ) (read : Read) → extent_of (shifted k read) ≡ shifted_extent k (extent_of read)
unfolding shifted
extent_shifts k (Ok (Some f)) = refl
extent_shifts k (Ok None) = refl
extent_shifts k (Err x) = refl

cut_alike : (read : Read) → is_cut (extent_of read) ≡ is_cut_read read
unfolding is_cut_read
cut_alike (Ok (Some f)) = refl
cut_alike (Ok None) = refl
cut_alike (Err x) = refl

module _ {trace : List ℕ} {from : ℕ} {here : List ℕ} (h : PartOf trace from here) (at : ℕ) (last : Bool) (none : last ≡ true → h.later ≡ []) where
  reads_the_same : wants_bytes (extent_at here at) last ≡ false → read_at (here ++ h.later) at ≡ read_at here at
  unfolding extent_at
  reads_the_same w = go last refl w
    where
      go : (b : Bool) → last ≡ b → wants_bytes (extent_of (read_at here at)) b ≡ false → read_at (here ++ h.later) at ≡ read_at here at
      go true e v = rw (none e, append-nil)
      go false e v = same_with_more here h.later at (sym (cut_alike (read_at here at)) ∙ sym (and_swap (is_cut (extent_of (read_at here at))) true) ∙ v)

  pub settled : wants_bytes (extent_at here at) last ≡ false → extent_at trace (from + at) ≡ shifted_extent from (extent_at here at)
  unfolding extent_at
  settled w = ap extent_of (shifted_with_less trace from h.inside at) ∙ rw (h.split, reads_the_same w) (extent_shifts from (read_at here at))

-- ---- so an end in the parts is that end in the traces
abbrev pub is_ending : Stepped → Bool
is_ending (Ok (Pair p)) = false
is_ending (Ok (Over side)) = true
is_ending (Err e) = false

module _ {first second : List ℕ} {s : Standing} {a b : List ℕ} (h : Holding first second s a b)
    (f : wants_more s.first a ≡ false) (g : wants_more s.second b ≡ false) where
  first_there : extent_at first (s.first.base + s.first.place) ≡ shifted_extent s.first.base (extent_at (part s.first a) s.first.place)
  first_there = settled h.of_first s.first.place s.first.last h.first_last f

  second_there : extent_at second (s.second.base + s.second.place) ≡ shifted_extent s.second.base (extent_at (part s.second b) s.second.place)
  second_there = settled h.of_second s.second.place s.second.last h.second_last g

  ends_there : {t : Stepped} → Stepping (part s.first a) s.first.place (part s.second b) s.second.place t → is_ending t ≡ true
      → step_in first second (shift (begins_of s) (reach_of s)) ≡ t
  unfolding step_at step_by
  ends_there (first_ends e w) t =
      rw (first_there, second_there, ended_extent (part s.first a) s.first.place e, w.extent)
  ends_there (second_ends v e) t =
      rw (first_there, second_there, v.extent, ended_extent (part s.second b) s.second.place e)
  ends_there (both_end d e) t =
      rw (first_there, second_there, ended_extent (part s.first a) s.first.place d, ended_extent (part s.second b) s.second.place e)
  ends_there (pair v w) t = absurd (true_not_false t refl)
  ends_there (first_broken x) t = absurd (true_not_false t refl)
  ends_there (second_broken x) t = absurd (true_not_false t refl)

  end_is : is_ending (step_held s a b) ≡ true → step_in first second (shift (begins_of s) (reach_of s)) ≡ step_held s a b
  end_is t = ends_there (each_step (part s.first a) s.first.place (part s.second b) s.second.place) t

-- ---- a run: rounds with any room, each of which goes on, up to one that ends; and all that it prints. What it holds after a round is
-- of the traces again; where it ends, the lines that close it are printed
pub data Run (first second : List ℕ) : Standing → List ℕ → List ℕ → List ℕ → Type 0 where
  on : {s t : Standing} {a b a₁ b₁ out : List ℕ} {room : ℕ} → Holding first second s a b → OneRound s a b room (Ok false) t a₁ b₁
      → Run first second t a₁ b₁ out → Run first second s a b ((lines_of s a b room).bytes ++ out)
  end : {s t : Standing} {a b a₁ b₁ : List ℕ} {room : ℕ} → Holding first second s a b → OneRound s a b room (Ok true) t a₁ b₁
      → is_ending (step_held t a₁ b₁) ≡ true
      → Run first second s a b
      ((lines_of s a b room).bytes
      ++ closing_by (step_held t a₁ b₁) t.number t.alike (length first - (t.first.base + t.first.place)) (length second - (t.second.base + t.second.place)))

-- where the pairs of a round are passed
abbrev passed_in : Standing → List ℕ → List ℕ → ℕ → Standing
passed_in s a b room = reached_by (lines_of s a b room).reach (length (lines_of s a b room).bytes) s

-- an answer is one of three
goes_not_over : ◌≡◌ {A = Result Bool Failure} (Ok false) (Ok true) → ◌≡◌ {A = ℕ} 0 1
goes_not_over e = cc

-- what a round reads goes on from the same places
same_places : {s t : Standing} {a b a₁ b₁ : List ℕ} → Next s a b (Ok false) t a₁ b₁ → shift (begins_of t) (reach_of t) ≡ shift (begins_of s) (reach_of s)
same_places {s} {t} (first_more g f e c h) =
    let p : t.first.base + t.first.place ≡ s.first.base + s.first.place = omega (arith, f.begins, f.anew) in
    rw (p, e, c.number, c.alike)
same_places {s} {t} (second_more g f e c h) =
    let q : t.second.base + t.second.place ≡ s.second.base + s.second.place = omega (arith, f.begins, f.anew) in
    rw (q, e, c.number, c.alike)
same_places (first_unread g e h) = rw e
same_places (second_unread g e h) = rw e
same_places (stays g e h k) = rw e
same_places (over g e h k n f i) = rw e

-- a round that ends well leaves all as it was, and no side wants bytes
record Ended (s : Standing) (a b : List ℕ) (t : Standing) (a₁ b₁ : List ℕ) : Type 0 where
  is : t ≡ s
  same_a : a₁ ≡ a
  same_b : b₁ ≡ b
  first_done : wants_more s.first a ≡ false
  second_done : wants_more s.second b ≡ false

ended_so : {s t : Standing} {a b a₁ b₁ : List ℕ} → Next s a b (Ok true) t a₁ b₁ → Ended s a b t a₁ b₁
ended_so (first_more g f e c h) = never (goes_not_over (sym g))
ended_so (second_more g f e c h) = never (goes_not_over (sym g))
ended_so (first_unread g e h) = never (all_read g)
  where
    all_read : ◌≡◌ {A = Option Side} None (Some First) → ◌≡◌ {A = ℕ} 0 1
    all_read e = cc
ended_so (second_unread g e h) = never (all_read g)
  where
    all_read : ◌≡◌ {A = Option Side} None (Some Second) → ◌≡◌ {A = ℕ} 0 1
    all_read e = cc
ended_so (stays g e h k) = never (goes_not_over (sym g))
ended_so (over g e h k n f i) = record { is = e; same_a = h; same_b = k; first_done = f; second_done = i }

-- the lines that close a run are those of the traces
abbrev closing_of : List ℕ → List ℕ → Standing → List ℕ → List ℕ → List ℕ
closing_of first second s a b =
    closing_by (step_held s a b) s.number s.alike (length first - (s.first.base + s.first.place)) (length second - (s.second.base + s.second.place))

no_pair_ends : (t : Stepped) → is_ending t ≡ true → is_pair t ≡ false
no_pair_ends (Ok (Pair p)) e = absurd (true_not_false e refl)
no_pair_ends (Ok (Over side)) e = refl
no_pair_ends (Err x) e = refl

closes_so : {first second : List ℕ} (s t : Standing) (a b a₁ b₁ : List ℕ) → Holding first second s a b → Ended s a b t a₁ b₁ → is_ending (step_held t a₁ b₁) ≡ true
    → (closing_at first second (shift (begins_of s) (reach_of s)) ≡ closing_of first second t a₁ b₁)
    × (is_pair (step_in first second (shift (begins_of s) (reach_of s))) ≡ false)
closes_so {first} {second} s t a b a₁ b₁ h d e =
    let here : is_ending (step_held s a b) ≡ true = rw (d.is, d.same_a, d.same_b) at e in
    let end = end_is h d.first_done d.second_done here in
    (rw (d.is, d.same_a, d.same_b, end), ap is_pair end ∙ no_pair_ends (step_held s a b) here)

module _ {first second : List ℕ} where
  -- the pairs of a round are lines of a run over parts
  listed_so : {s : Standing} {a b out : List ℕ} (room : ℕ) → Holding first second s a b
      → Ran first second (begins_of s) (part s.first a) (part s.second b) (lines_of s a b room).reach out
      → Ran first second (begins_of s) (part s.first a) (part s.second b) (reach_of s) ((lines_of s a b room).bytes ++ out)
  listed_so room h ran = lists room h.of_first h.of_second ran

  run_ran : {s : Standing} {a b out : List ℕ} → Run first second s a b out
      → Ran first second (begins_of s) (part s.first a) (part s.second b) (reach_of s) out
  run_ran (on {s} {t} {a} {b} {a₁} {b₁} {out} {room} h (wrote o) rest) = listed_so room h (holds (same_places o.next) (run_ran rest))
  run_ran (on h (unwritten v g) rest) = absurd (true_not_false refl g)
  run_ran (end {s} {t} {a} {b} {a₁} {b₁} {room} h (wrote o) e) =
      let mid : Standing = passed_in s a b room in
      let held : Holding first second mid a b =
      record { of_first = h.of_first; of_second = h.of_second; first_last = h.first_last; second_last = h.second_last } in
      let c = closes_so mid t a b a₁ b₁ held (ended_so o.next) e in
      listed_so room h (rw c.0 at (over_there {b = begins_of s} {here = part s.first a} {there = part s.second b} {r = (lines_of s a b room).reach} c.1))
  run_ran (end h (unwritten v g) e) = absurd (true_not_false refl g)

  -- a run from the beginning of two traces without errors prints their report
  pub a_run_prints_the_report : {s : Standing} {a b out : List ℕ} → error_of first second ≡ Ok tt → Fresh s → Run first second s a b out → out ≡ report first second
  a_run_prints_the_report {s} {a} {b} {out} sound f run =
      let p : s.first.base + s.first.place ≡ 0 = omega (arith, f.first_base, f.first_place) in
      let q : s.second.base + s.second.place ≡ 0 = omega (arith, f.second_base, f.second_place) in
      let same : shift (begins_of s) (reach_of s) ≡ shift at_the_front reach_at_start = rw (p, q, f.number, f.alike) in
      however_cut first second sound (holds {b = at_the_front} {here = []} {there = []} {r = reach_at_start} same (run_ran run))
