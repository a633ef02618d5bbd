-- `tick::turns::accepted` meets its contract: in each turn the lowest leaf of those that are left goes on.
-- Assumes nothing.
use native.Mathlib.Omega.{arith}
use Rattle.tick.proofs.Clocks.{grown_small}
use Rattle.tick.proofs.Going.{passing_is_near, begins, row_fits, rests, release_fits, count_fits, goes_on, ends}
use Rattle.tick.proofs.turns.accepted.Goals as goal

pub loop-n-init : goal.loop-n-init
loop-n-init c = rw c.into_iter-n-iterator.ensures.into_iter_gives (begins c.requires.0 c.growth-gain.result c.args.out.now)

pub settle-settled-requires : goal.settle-settled-requires
settle-settled-requires c =
    row_fits c.requires.0 c.growth-gain.result c.loop-n.invariant c.in-Some.ensures.steps.0 c.from-share.ensures
    (grown_small (passing_is_near c.requires.0 c.requires.1) c.growth-gain.ensures)

-- above the goals that a lie about it may leave true: the first error is what is false
pub loop-n-preserved-then-settled : goal.loop-n-preserved-then-settled
loop-n-preserved-then-settled c =
    goes_on c.requires.0 c.growth-gain.result c.loop-n.invariant c.in-Some.ensures.steps.0 c.from-share.ensures
    c.settle-settled.ensures c.if-settled.true c.requires.1.room c.released-left.ensures c.in-Some.ensures.steps.1

pub loop-n-preserved : goal.loop-n-preserved
loop-n-preserved c =
    rests c.requires.0 c.growth-gain.result c.loop-n.invariant c.in-Some.ensures.steps.0 c.from-share.ensures
    c.settle-settled.ensures c.if-settled.false c.in-Some.ensures.steps.1

pub released-left-requires : goal.released-left-requires
released-left-requires c =
    release_fits c.requires.0 c.growth-gain.result c.loop-n.invariant c.in-Some.ensures.steps.0 c.from-share.ensures
    c.settle-settled.ensures c.if-settled.true c.requires.1.room
    (grown_small (passing_is_near c.requires.0 c.requires.1) c.growth-gain.ensures)

pub overflow_add-at : goal.overflow_add-at
overflow_add-at c =
    let fits =
    count_fits c.requires.0 c.growth-gain.result c.loop-n.invariant c.in-Some.ensures.steps.0 c.from-share.ensures
    c.settle-settled.ensures c.if-settled.true c.requires.1.room c.released-left.ensures in
    record { fits = omega (arith, fits, c.well_formed) }

pub returns : goal.returns
returns c =
    ends c.requires.0 c.args.time c.growth-gain.ensures c.loop-n.invariant c.in-None.ensures.steps c.advanced-c.ensures
