-- `sets::has` meets its contract: a mask of one bit is the remainder by 2.
-- Assumes nothing.
use mathlib.Core.Path.{ap}
use Prim.Native.Nat.{ℕ, ◌/◌, ◌^◌}
use lib.Bits.{and_mask}
use lib.Dec.{eqb}
use Rattle.rules.specs.Words.{has}
use Rattle.sets.proofs.has.Goals as goal

pub returns : goal.returns
unfolding has
returns c = ap (λ (x : ℕ). eqb x 1) (and_mask (c.args.set / 2 ^ c.args.n) 1)
