-- The lines of an answer for two lent traces: what was found, then how many bytes the rest has; and a record of the rest.
-- Assumes nothing.
use Rattle.std.specs.Prelude.{List, ◌++◌, ℕ, length, Some, Ok, Err}
use Rattle.rules.specs.declared.trace.Record.{Record}
use Rattle.comparison.specs.Compare.{Told, compared, rest_of}
use Rattle.comparison.specs.declared.Comparison.{Comparison}
use Rattle.text.specs.Words.{bytes}
use Rattle.text.specs.Text.{record_text}
use Rattle.text.specs.Lines.{difference_line, ends_line, likeness_line, error_line, rest_length_line}

unfoldable pub told_lines : Comparison → List ℕ
told_lines c = (difference_line c.difference ++ ends_line (Some c.ends)) ++ likeness_line (Some c.likeness)

-- "with no differences": an error stands alone
unfoldable pub found_lines : Told → List ℕ
found_lines (Err e) = error_line e.side e.refusal e.place
found_lines (Ok c) = told_lines c

unfoldable pub answer_lines : List ℕ → List ℕ → ℕ → List ℕ
answer_lines first second from = found_lines (compared first second from) ++ rest_length_line (length (rest_of first second))

-- ---- the records of the rest
abbrev pub record_line : Record → List ℕ
record_line r = record_text r ++ bytes "\n"
