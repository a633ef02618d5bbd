-- Bytes laid into a buffer: what the encoder's helpers leave of it.
-- Assumes nothing.
use Rattle.std.specs.Prelude.{List, ◌++◌, ℕ, ◌+◌, length, take, drop}
use Rattle.rules.specs.Trace.{layout, fields_of, body_of}
use Rattle.rules.specs.declared.trace.Record.{Record}

-- these bytes from a place on, and every byte before and behind them as it was
unfoldable pub laid : List ℕ → ℕ → List ℕ → List ℕ
laid bs at l = take at l ++ (bs ++ drop (at + length bs) l)

-- the body of a record of this kind, in the room behind the kind
abbrev pub body_laid : ℕ → Record → List ℕ → List ℕ
body_laid kind r l = laid (body_of (layout kind) (fields_of r)) 0 l
