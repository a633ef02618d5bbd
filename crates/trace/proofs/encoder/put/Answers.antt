-- `trace::encoder::put` meets its contract: what is copied is laid at its place.
-- Assumes nothing.
use mathlib.Core.Path.{refl, ◌∙◌}
use lib.ListN.{length}
use native.Mathlib.Omega.{arith}
use Rattle.std.proofs.lemmas.Slice.{put_mid-paste}
use Rattle.std.proofs.lemmas.List.Edits.{paste_all}
use Rattle.trace.specs.Laid.{laid}
use Rattle.trace.proofs.encoder.put.Goals as goal

pub returns : goal.returns
unfolding laid
returns c =
    let bytes = c.args.bytes.now in
    put_mid-paste c.args.at _ c.args.body.now _ bytes (length bytes) c.copy_from_slice.ensures.after (omega arith) refl
    ∙ paste_all c.args.body.now c.args.at bytes (length bytes) refl
