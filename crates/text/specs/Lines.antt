-- The lines of a comparison of two traces: words, and numbers in decimals behind them. How a record reads is in Text.
-- Assumes nothing.
use Rattle.std.specs.Prelude.{List, [], ◌∷◌, ◌++◌, ℕ, ◌+◌, ◌*◌, Option, Some, None}
use Rattle.rules.specs.Refusals.{number}
use Rattle.rules.specs.declared.refusals.Refusal.{Refusal}
use Rattle.rules.specs.declared.trace.Record.{Record}
use Rattle.comparison.specs.declared.Side.{Side}
use Rattle.comparison.specs.declared.Side.TheVariants.{First, Second}
use Rattle.comparison.specs.declared.Difference.{Difference}
use Rattle.comparison.specs.declared.Ends.{Ends}
use Rattle.comparison.specs.declared.Likeness.{Likeness}
use Rattle.comparison.specs.declared.Likeness.TheVariants.{Equal, Prefix, Different}
use Rattle.text.specs.Words.{bytes}
use Rattle.text.specs.Text.{worded, field_room, record_text, text_room}

abbrev pub word_line : List ℕ → List ℕ → List ℕ
word_line word ns = worded word ns ++ bytes "\n"

-- ---- lines to read: a record that differs by its number, the place where it begins in each trace, and what each has there
unfoldable pub differs_line : ℕ → ℕ → ℕ → Record → Record → List ℕ
differs_line n first second r s =
    worded (bytes "differs") (n ∷ first ∷ second ∷ []) ++ (bytes " " ++ record_text r) ++ (bytes " | " ++ record_text s) ++ bytes "\n"

-- a side, or neither
abbrev pub side_word : Option Side → List ℕ
side_word (Some First) = bytes "first"
side_word (Some Second) = bytes "second"
side_word None = bytes "neither"

-- "say which trace ends first, or neither, .."; nothing beside an error
unfoldable pub ends_line : Option Ends → List ℕ
ends_line (Some e) = word_line (bytes "ends " ++ side_word e.side) (e.records ∷ [])
ends_line None = []

-- "hand back the remaining records ..": of which trace, and how many bytes they take
unfoldable pub rest_line : Side → ℕ → List ℕ
rest_line side n = word_line (bytes "rest " ++ side_word (Some side)) (n ∷ [])

-- nothing beside an error
unfoldable pub likeness_line : Option Likeness → List ℕ
likeness_line (Some Equal) = word_line (bytes "equal") []
likeness_line (Some Prefix) = word_line (bytes "prefix") []
likeness_line (Some Different) = word_line (bytes "different") []
likeness_line None = []

-- "Trace errors 16 and 17 are reported with the side ..": the number, and the place where the record begins
unfoldable pub error_line : Side → Refusal → ℕ → List ℕ
error_line side x place = word_line (bytes "error " ++ side_word (Some side)) (number x ∷ place ∷ [])

-- ---- the answers as they are: "give the first record .. where both traces have one and they differ, with the kinds on both sides, or none"
unfoldable pub difference_line : Option Difference → List ℕ
difference_line (Some d) = word_line (bytes "difference") (d.number ∷ d.first ∷ d.second ∷ [])
difference_line None = word_line (bytes "difference none") []

-- how many bytes the rest takes
abbrev pub rest_length_line : ℕ → List ℕ
rest_length_line n = word_line (bytes "rest") (n ∷ [])

-- ---- room
-- 74 bytes: of the short lines a difference, of ten letters, three numbers and the line feed, takes the most
abbrev pub short_room : ℕ
short_room = 10 + 3 * field_room + 1

-- 337 bytes: seven letters and three numbers, a blank and a record, a bar between blanks and a record, and the line feed
abbrev pub differs_room : ℕ
differs_room = 7 + 3 * field_room + (1 + text_room) + (3 + text_room) + 1
