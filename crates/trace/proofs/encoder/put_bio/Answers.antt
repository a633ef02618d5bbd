-- `trace::encoder::put_bio` meets its contract: the five places are those of the bio's layout.
-- Assumes nothing.
use Rattle.std.specs.Int.{w32, w64}
use Rattle.rules.specs.Trace.{layout, fields_of}
use Rattle.rules.specs.declared.trace.Record.TheVariants.{Bio}
use Rattle.trace.proofs.Laid.{put_le, body_laid_lem}
use Rattle.trace.proofs.encoder.put_bio.Goals as goal

pub returns : goal.returns
unfolding layout fields_of
returns c =
    let b = c.args.bio in
    let p₁ = put_le w32 b.id 2 _ c.to_le_bytes.ensures c.put.ensures in
    let p₂ = put_le w64 b.sector 6 _ c.to_le_bytes-2.ensures c.put-2.ensures in
    let p₃ = put_le w32 b.bytes 14 _ c.to_le_bytes-3.ensures c.put-3.ensures in
    rw (p₃, p₂, p₁, c.put_byte-2.ensures, c.put_byte.ensures) (body_laid_lem (layout 4) (fields_of (Bio b)) 0 c.args.body.now c.requires)
