-- What the entries promise of an answer: what it leaves, and its number and values on paper, by the checks of the rules.
-- Assumes nothing.
use Rattle.std.specs.Prelude.{◌≡◌, List, [], ◌∷◌, ℕ, length}
use Rattle.rules.specs.Trace.{record_bytes, Fits, writing, written_to}
use Rattle.rules.specs.Refusals.{read_checks, values_at, read_paper, write_checks, write_paper, paper_of}
use Rattle.rules.specs.declared.trace.Record.{Record}
use Rattle.rules.specs.Results.{Read, Write}

abbrev pub ReadOnPaper : List ℕ → ℕ → Read → Type 0
ReadOnPaper trace at r = read_paper r ≡ paper_of (read_checks trace at) (values_at trace at)

abbrev pub WriteOnPaper : Record → List ℕ → Write → Type 0
WriteOnPaper r lent w = write_paper w ≡ paper_of (write_checks r lent) (length (record_bytes r) ∷ [])

-- the answer is the rule's, and so is the buffer, which held l₀; the record's numbers fit their widths
abbrev pub Writes : Record → Write → List ℕ → List ℕ → Type 0
Writes r w l₀ l = (w ≡ writing r l₀) × (l ≡ written_to r l₀) × Fits r
