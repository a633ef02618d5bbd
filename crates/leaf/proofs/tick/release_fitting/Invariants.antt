-- `leaf::tick::release_fitting` meets its contract. The loop's invariant is `Going`: what was written so far, with the
-- release from here on behind it, is the whole release.
-- Assumes nothing.
use Prim.Native.Nat.{◌-◌}
use Rattle.leaf.specs.Turns.{cut}
use Rattle.leaf.proofs.Release.{Going}
use Rattle.leaf.proofs.tick.release_fitting.Given as goal

abbrev pub invariant-loop-count : goal.invariant-loop-count
invariant-loop-count l = Going l.share l.initial.row l.queue l.initial.out l.row (cut l.queue l.head (l.queue.len - l.count)) l.out l.count
