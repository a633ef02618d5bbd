-- `trace::decoder::record_of` meets its contract: each kind's record is made of its layout's fields.
-- Assumes nothing.
use native.Mathlib.Omega.{arith}
use lib.Dec.{lit<}
use Rattle.std.specs.Int.{w16, w64}
use Rattle.rules.specs.Trace.{layout, fields_from, record_of}
use Rattle.trace.proofs.Fields.{le_at, weighed_fields}
use Rattle.trace.proofs.decoder.record_of.Goals as goal

pub returns-in-Node : goal.returns-in-Node
unfolding layout record_of
returns-in-Node c =
    let room = rw c.in-Node.is at c.requires in
    rw (c.in-Node.is, weighed_fields c.args.body.now (omega arith) (le_at w16 c.args.body.now 1 (lit< tt) (omega arith) c.field.ensures c.from_le_bytes.ensures))

pub returns-in-Start : goal.returns-in-Start
unfolding layout fields_from record_of
returns-in-Start c =
    let room = rw c.in-Start.is at c.requires in
    rw (c.in-Start.is, le_at w64 c.args.body.now 0 (lit< tt) (omega arith) c.field-in-Start.ensures c.from_le_bytes-in-Start.ensures)

pub returns-in-Tick : goal.returns-in-Tick
unfolding layout fields_from record_of
returns-in-Tick c =
    let room = rw c.in-Tick.is at c.requires in
    rw (c.in-Tick.is, le_at w64 c.args.body.now 0 (lit< tt) (omega arith) c.field-in-Tick.ensures c.from_le_bytes-in-Tick.ensures)

pub returns-in-Vrate : goal.returns-in-Vrate
unfolding layout fields_from record_of
returns-in-Vrate c =
    let room = rw c.in-Vrate.is at c.requires in
    rw (c.in-Vrate.is, le_at w16 c.args.body.now 0 (lit< tt) (omega arith) c.field-in-Vrate.ensures c.from_le_bytes-in-Vrate.ensures)

pub returns-in-Weight : goal.returns-in-Weight
unfolding layout record_of
returns-in-Weight c =
    let room = rw c.in-Weight.is at c.requires in
    rw (c.in-Weight.is, weighed_fields c.args.body.now (omega arith) (le_at w16 c.args.body.now 1 (lit< tt) (omega arith) c.field-in-Weight.ensures c.from_le_bytes-in-Weight.ensures))
