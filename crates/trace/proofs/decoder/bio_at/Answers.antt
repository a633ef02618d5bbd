-- `trace::decoder::bio_at` meets its contract: the five places are those of the bio's layout.
-- Assumes nothing.
use native.Mathlib.Omega.{arith}
use lib.Dec.{lit<}
use Rattle.std.specs.Int.{w32, w64}
use Rattle.rules.specs.Trace.{layout}
use Rattle.trace.proofs.Fields.{byte_number, le_at, bio_fields}
use Rattle.trace.proofs.decoder.bio_at.Goals as goal

pub returns : goal.returns
unfolding layout
returns c =
    let l = c.args.body.now in
    bio_fields l _
    (byte_number l 0 (omega arith))
    (byte_number l 1 (omega arith))
    (le_at w32 l 2 (lit< tt) (omega arith) c.field.ensures c.from_le_bytes.ensures)
    (le_at w64 l 6 (lit< tt) (omega arith) c.field-2.ensures c.from_le_bytes-2.ensures)
    (le_at w32 l 14 (lit< tt) (omega arith) c.field-3.ensures c.from_le_bytes-3.ensures)
