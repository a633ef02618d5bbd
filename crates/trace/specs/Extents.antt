-- What stands at a place of a trace, by its kind and its length alone.
-- Assumes nothing.
use Rattle.std.specs.Prelude.{List, ℕ, Result, Ok, Err, Option, Some, None}
use Rattle.rules.specs.Trace.{read_at}
use Rattle.rules.specs.Results.{Read}
use Rattle.rules.specs.declared.refusals.Refusal.{Refusal}
use Rattle.trace.specs.declared.decoder.Whole.{Whole}
use Rattle.trace.specs.Kinds.{kind_in}

abbrev pub extent_of : Read → Result (Option Whole) Refusal
extent_of (Ok (Some f)) = Ok (Some (record { kind = kind_in f.item; next = f.next }))
extent_of (Ok None) = Ok None
extent_of (Err x) = Err x

unfoldable pub extent_at : List ℕ → ℕ → Result (Option Whole) Refusal
extent_at trace at = extent_of (read_at trace at)
