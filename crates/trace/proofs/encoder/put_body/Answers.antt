-- `trace::encoder::put_body` meets its contract, by the variants of a record.
-- Assumes nothing.
use mathlib.Core.Logic.{inl, inr}
use mathlib.Core.Path.{sym}
use mathlib.Core.List.{append-nil}
use Rattle.std.specs.Int.{w16, w64}
use Rattle.rules.specs.Trace.{layout, fields_of, body_of}
use Rattle.rules.specs.declared.trace.Record.TheVariants.{Node, Weight}
use Rattle.trace.proofs.Laid.{laid_none, put_le, body_laid_lem}
use Rattle.trace.proofs.encoder.put_body.Goals as goal

pub returns-in-Node : goal.returns-in-Node
unfolding layout fields_of
returns-in-Node c =
    let p = put_le w16 c.in-Node.weight 1 _ c.to_le_bytes.ensures c.put.ensures in
    rw (c.in-Node.is, p, c.put_byte.ensures)
    (body_laid_lem (layout 1) (fields_of (Node c.in-Node.parent c.in-Node.weight)) 0 c.args.body.now (rw c.in-Node.is at c.requires))

pub returns-in-Start : goal.returns-in-Start
unfolding layout fields_of body_of
returns-in-Start c =
    let p = put_le w64 c.in-Start.time 0 _ c.to_le_bytes-in-Start.ensures c.put-in-Start.ensures in
    elim c.in-Start.is [ inl e ↦ rw (e, append-nil) p | inr e ↦ rw (e, append-nil) p ]

pub returns-in-Plan : goal.returns-in-Plan
unfolding layout fields_of body_of
returns-in-Plan c = rw c.in-Plan.is (sym (laid_none 0 c.args.body.now))

pub returns-in-Vrate : goal.returns-in-Vrate
unfolding layout fields_of body_of
returns-in-Vrate c = rw (c.in-Vrate.is, append-nil) (put_le w16 c.in-Vrate.vrate 0 _ c.to_le_bytes-in-Vrate.ensures c.put-in-Vrate.ensures)

pub returns-in-Weight : goal.returns-in-Weight
unfolding layout fields_of
returns-in-Weight c =
    let p = put_le w16 c.in-Weight.weight 1 _ c.to_le_bytes-in-Weight.ensures c.put-in-Weight.ensures in
    rw (c.in-Weight.is, p, c.put_byte-in-Weight.ensures)
    (body_laid_lem (layout 8) (fields_of (Weight c.in-Weight.node c.in-Weight.weight)) 0 c.args.body.now (rw c.in-Weight.is at c.requires))
