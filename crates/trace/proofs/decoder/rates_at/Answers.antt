-- `trace::decoder::rates_at` meets its contract: the six places are those of the model's layout.
-- Assumes nothing.
use native.Mathlib.Omega.{arith}
use lib.Dec.{lit<}
use Rattle.std.specs.Int.{w64}
use Rattle.rules.specs.Trace.{layout}
use Rattle.trace.proofs.Fields.{le_at, rates_fields}
use Rattle.trace.proofs.decoder.rates_at.Goals as goal

pub returns : goal.returns
unfolding layout
returns c =
    let l = c.args.body.now in
    rates_fields l _
    (le_at w64 l 0 (lit< tt) (omega arith) c.field.ensures c.from_le_bytes.ensures)
    (le_at w64 l 8 (lit< tt) (omega arith) c.field-2.ensures c.from_le_bytes-2.ensures)
    (le_at w64 l 16 (lit< tt) (omega arith) c.field-3.ensures c.from_le_bytes-3.ensures)
    (le_at w64 l 24 (lit< tt) (omega arith) c.field-4.ensures c.from_le_bytes-4.ensures)
    (le_at w64 l 32 (lit< tt) (omega arith) c.field-5.ensures c.from_le_bytes-5.ensures)
    (le_at w64 l 40 (lit< tt) (omega arith) c.field-6.ensures c.from_le_bytes-6.ensures)
