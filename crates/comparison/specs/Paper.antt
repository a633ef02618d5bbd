-- The answer as the paper has it: the number of the error, 0 where there is none, and the values.
-- Assumes nothing.
use Rattle.std.specs.Prelude.{cond, List, [], ◌∷◌, ◌++◌, ℕ, eqb, Option, Some, None, Ok, Err}
use Rattle.rules.specs.Refusals.{number, Paper, paper, due, read_checks}
use Rattle.comparison.specs.Compare.{records_end, walked, compared_from, Fault, Told, fault_told, difference_told, ends_told, likeness_told}
use Rattle.comparison.specs.declared.Side.{Side}
use Rattle.comparison.specs.declared.Side.TheVariants.{First, Second}
use Rattle.comparison.specs.declared.Difference.{Difference}
use Rattle.comparison.specs.declared.Ends.{Ends}
use Rattle.comparison.specs.declared.Likeness.{Likeness}
use Rattle.comparison.specs.declared.Likeness.TheVariants.{Equal, Prefix, Different}

abbrev pub side_number : Side → ℕ
side_number First = 1
side_number Second = 2

-- a difference by 1, its number and both kinds; none by 0
abbrev pub difference_values : Option Difference → List ℕ
difference_values (Some d) = 1 ∷ d.number ∷ d.first ∷ d.second ∷ []
difference_values None = 0 ∷ []

-- the side that ends first, 0 where neither does, and the count
abbrev pub ends_first : Option Side → ℕ
ends_first (Some side) = side_number side
ends_first None = 0

abbrev pub ends_values : Option Ends → List ℕ
ends_values (Some e) = ends_first e.side ∷ e.records ∷ []
ends_values None = []

abbrev pub likeness_values : Option Likeness → List ℕ
likeness_values (Some Equal) = 0 ∷ []
likeness_values (Some Prefix) = 1 ∷ []
likeness_values (Some Different) = 2 ∷ []
likeness_values None = []

abbrev pub answer_values : Told → List ℕ
answer_values c = difference_values (difference_told c) ++ ends_values (ends_told c) ++ likeness_values (likeness_told c)

abbrev pub error_paper : Fault → Paper → Paper
error_paper (Err e) p = paper (number e.refusal) (side_number e.side ∷ e.place ∷ [])
error_paper (Ok none) p = p

abbrev pub comparison_paper : Told → Paper
comparison_paper c = error_paper (fault_told c) (paper 0 (answer_values c))

-- ---- by the checks of reading, 16 and 17, at the place where the whole records of a trace end: those of the first trace, then those of
-- the second, then the answer
abbrev pub due_in : List ℕ → ℕ
due_in trace = due (read_checks trace (records_end trace 0))

abbrev pub unless_due : ℕ → List ℕ → Paper → Paper
unless_due n vs p = cond (eqb n 0) p (paper n vs)

unfoldable pub compared_paper : List ℕ → List ℕ → ℕ → Paper
compared_paper first second from =
    unless_due (due_in first) (side_number First ∷ records_end first 0 ∷ [])
    (unless_due (due_in second) (side_number Second ∷ records_end second 0 ∷ [])
    (paper 0 (answer_values (Ok (compared_from first second (walked first second from))))))
