-- `leaf::tick::release_fitting` meets its contract. The loop's invariant is `Going`: what was written so far, with the
-- release from here on behind it, is the whole release.
-- Assumes nothing.
use mathlib.Core.Path.{refl}
use Prim.Native.Nat.{◌-◌}
use native.Mathlib.Omega.{arith}
use Rattle.leaf.specs.Turns.{cut}
use Rattle.leaf.proofs.Release.{cost_is_oldest, id_is_oldest, first_told, goes_on, ends, nothing_waits, first_does_not_fit}
use Rattle.leaf.proofs.tick.release_fitting.Goals as goal

-- above the needs that a lie about it may leave true: the first error is what is false
pub loop-count-preserved : goal.loop-count-preserved
loop-count-preserved c =
    let queue = cut c.args.queue.now c.loop-count.head (c.args.queue.now.len - c.loop-count.count) in
    let cost = cost_is_oldest queue c.from-oldest.ensures in
    goes_on c.loop-count.invariant (omega arith)
    (first_told c.loop-count.invariant cost c.fits.ensures c.if-not-fits.false)
    cost
    (id_is_oldest queue c.from-oldest.ensures)
    c.charged-row.ensures
    c.behind-head.ensures
    (omega arith)
    (omega arith)

pub returns-then-not-fits : goal.returns-then-not-fits
returns-then-not-fits c =
    let cost = cost_is_oldest (cut c.args.queue.now c.loop-count.head (c.args.queue.now.len - c.loop-count.count)) c.from-oldest.ensures in
    ends c.loop-count.invariant
    (first_does_not_fit _ _ _ (first_told c.loop-count.invariant cost c.fits.ensures c.if-not-fits.true))
    refl
    (omega arith)

pub returns : goal.returns
returns c = ends c.loop-count.invariant (nothing_waits _ _ _ (omega arith)) (omega arith) (omega arith)
