-- The fields of a kind behind a place of a trace.
-- Assumes nothing.
use Rattle.std.specs.Prelude.{List, ℕ, drop}
use Rattle.rules.specs.Trace.{layout, fields_from}

abbrev pub fields_at : ℕ → ℕ → List ℕ → List ℕ
fields_at kind body trace = fields_from (layout kind) (drop body trace)
