-- The answer says what is due on paper: by its error, and by its values where there is none.
-- Assumes nothing.
use Rattle.std.specs.Prelude.{◌≡◌, refl, List, [], ◌∷◌, ℕ, Ok, Err}
use Rattle.std.proofs.Math.Path.{ap}
use Rattle.std.proofs.Common.{◌∙◌}
use Rattle.rules.specs.Refusals.{Paper, paper, read_number}
use Rattle.rules.proofs.Laws.Refusals.{read_on_paper}
use Rattle.trace.specs.Extents.{extent_of, extent_at}
use Rattle.comparison.specs.Compare.{records_end, Fault, error_by, error_in, else_error, error_of, walked, concluded, compared_from, unless_error, Told, compared}
use Rattle.rules.proofs.Laws.Trace.{Reading, each_answer}
use Rattle.rules.proofs.Laws.Trace.Reading.{beyond, ended, unknown, cut, whole}
use Rattle.comparison.specs.declared.Side.{Side}
use Rattle.comparison.specs.declared.Side.TheVariants.{First, Second}
use Rattle.comparison.specs.declared.Comparison.{Comparison}
use Rattle.comparison.specs.Paper.{side_number, answer_values, error_paper, comparison_paper, due_in, unless_due, compared_paper}
use Rattle.rules.specs.Results.{Read}

module _ (side : Side) (trace : List ℕ) (p : Paper) where
  by_reading : {read : Read} → Reading trace (records_end trace 0) read
      → error_paper (error_by side (extent_of read) (records_end trace 0)) p ≡ unless_due (read_number read) (side_number side ∷ records_end trace 0 ∷ []) p
  by_reading (beyond h) = refl
  by_reading (ended h) = refl
  by_reading (unknown i k) = refl
  by_reading (cut i k h) = refl
  by_reading (whole k l) = refl

  error_on_paper : error_paper (error_in side trace) p ≡ unless_due (due_in trace) (side_number side ∷ records_end trace 0 ∷ []) p
  unfolding error_in extent_at
  error_on_paper =
      by_reading (each_answer trace (records_end trace 0))
      ∙ ap (λ (n : ℕ). unless_due n (side_number side ∷ records_end trace 0 ∷ []) p) (ap (λ (q : Paper). q.number) (read_on_paper trace (records_end trace 0) refl))

either_error : (d e : Fault) (p : Paper) → error_paper (else_error d e) p ≡ error_paper d (error_paper e p)
either_error (Err d) e p = refl
either_error (Ok none) e p = refl

unless_error_lem : (e : Fault) (c : Comparison) → comparison_paper (unless_error e c) ≡ error_paper e (paper 0 (answer_values (Ok c)))
unless_error_lem (Err e) c = refl
unless_error_lem (Ok none) c = refl

pub compared_on_paper : (first second : List ℕ) (from : ℕ) {r : Told} → r ≡ compared first second from → comparison_paper r ≡ compared_paper first second from
unfolding compared error_of compared_from concluded compared_paper
compared_on_paper first second from e =
    let c : Comparison = compared_from first second (walked first second from) in
    ap comparison_paper e ∙ unless_error_lem (error_of first second) c ∙ either_error (error_in First first) (error_in Second second) (paper 0 (answer_values (Ok c)))
    ∙ ap (error_paper (error_in First first)) (error_on_paper Second second (paper 0 (answer_values (Ok c))))
    ∙ error_on_paper First first (unless_due (due_in second) (side_number Second ∷ records_end second 0 ∷ []) (paper 0 (answer_values (Ok c))))
