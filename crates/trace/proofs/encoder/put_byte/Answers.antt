-- `trace::encoder::put_byte` meets its contract: a byte is below 256.
-- Assumes nothing.
use mathlib.Core.Path.{◌≡◌}
use Prim.Native.Nat.{◌%◌}
use native.Mathlib.Omega.{arith}
use Rattle.rules.specs.Trace.{bytes_of}
use Rattle.trace.proofs.encoder.put_byte.Goals as goal

pub returns : goal.returns
unfolding bytes_of
returns c = let low : c.args.byte % 256 ≡ c.args.byte = omega arith in rw low c.put.ensures
