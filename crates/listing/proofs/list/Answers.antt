-- `listing::list` meets its contract: each turn passes one pair, and its line stands behind those before it.
-- Assumes nothing.
use Rattle.std.proofs.Common.{Ok, ap, ◌∙◌}
use Rattle.comparison.specs.Compare.{is_pair}
use Rattle.listing.proofs.Going.{no_pair, no_room, there_is, counts, nearer, goes}
use Rattle.listing.proofs.list.Goals as goal

pub returns-in-Ok-Over : goal.returns-in-Ok-Over
returns-in-Ok-Over c = no_pair c.loop-pair.invariant c.step.ensures (ap is_pair (c.in-Ok-Over.is ∙ ap Ok c.in-Ok-Over.field-0-is))

pub returns-in-Err : goal.returns-in-Err
returns-in-Err c = no_pair c.loop-pair.invariant c.step.ensures (ap is_pair c.in-Err.is)

pub returns-then-out-count-lt-ROOM : goal.returns-then-out-count-lt-ROOM
returns-then-out-count-lt-ROOM c = no_room c.loop-pair.invariant c.step.ensures c.if-out-count-lt-ROOM.true

pub put_pair-count-requires-clause-stands : goal.put_pair-count-requires-clause-stands
put_pair-count-requires-clause-stands c = there_is c.loop-pair.invariant c.step.ensures c.in-Ok-Pair.is c.in-Ok-Pair.field-0-is

pub past-reach-requires : goal.past-reach-requires
past-reach-requires c = counts c.loop-pair.invariant c.step.ensures c.in-Ok-Pair.is c.in-Ok-Pair.field-0-is

pub loop-pair-smaller : goal.loop-pair-smaller
loop-pair-smaller c = nearer c.loop-pair.invariant c.step.ensures c.in-Ok-Pair.is c.in-Ok-Pair.field-0-is _ c.past-reach.ensures

pub loop-pair-preserved : goal.loop-pair-preserved
loop-pair-preserved c =
    goes c.loop-pair.invariant c.step.ensures c.in-Ok-Pair.is c.in-Ok-Pair.field-0-is c.if-out-count-lt-ROOM.false
    c.put_pair-count.auto.out c.put_pair-count.ensures.0 _ c.past-reach.ensures
