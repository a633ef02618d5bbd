-- `trace::encoder::put_rates` meets its contract: the six places are those of the model's layout.
-- Assumes nothing.
use Rattle.std.specs.Int.{w64}
use Rattle.rules.specs.Trace.{layout, fields_of}
use Rattle.rules.specs.declared.trace.Record.TheVariants.{Model}
use Rattle.trace.proofs.Laid.{put_le, body_laid_lem}
use Rattle.trace.proofs.encoder.put_rates.Goals as goal

pub returns : goal.returns
unfolding layout fields_of
returns c =
    let p₁ = put_le w64 c.args.rates.rbps 0 _ c.to_le_bytes.ensures c.put.ensures in
    let p₂ = put_le w64 c.args.rates.rseqiops 8 _ c.to_le_bytes-2.ensures c.put-2.ensures in
    let p₃ = put_le w64 c.args.rates.rrandiops 16 _ c.to_le_bytes-3.ensures c.put-3.ensures in
    let p₄ = put_le w64 c.args.rates.wbps 24 _ c.to_le_bytes-4.ensures c.put-4.ensures in
    let p₅ = put_le w64 c.args.rates.wseqiops 32 _ c.to_le_bytes-5.ensures c.put-5.ensures in
    let p₆ = put_le w64 c.args.rates.wrandiops 40 _ c.to_le_bytes-6.ensures c.put-6.ensures in
    rw (p₆, p₅, p₄, p₃, p₂, p₁) (body_laid_lem (layout 2) (fields_of (Model c.args.rates)) 0 c.args.body.now c.requires)
