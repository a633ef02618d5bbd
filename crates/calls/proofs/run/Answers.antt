-- `run` meets its contract: each turn of the loop is one call of the run, and its lines stand behind those before.
-- Assumes nothing.
use Rattle.std.proofs.Common.{◌∙◌, arith}
use Rattle.rules.proofs.Laws.Buffers.{stands_left, stands_rest, stands_kept}
use Rattle.calls.proofs.Running.{begun, spent, full, no_call, called}
use Rattle.calls.proofs.run.Goals as goal

pub loop-init : goal.loop-init
loop-init c = begun _ _ _ _ _ c.requires

pub overflow_sub-out : goal.overflow_sub-out
overflow_sub-out c = stands_left c.loop.invariant.front

pub answer-count-requires : goal.answer-count-requires
answer-count-requires c =
    let v = c.loop.invariant in
    (v.sound, v.places, rw (stands_rest v.front) (omega (arith, c.if-out-count-lt-LINE_ROOM.false, stands_kept v.front)))

pub loop-preserved : goal.loop-preserved
loop-preserved c =
    called c.loop.invariant c.read_from-read.ensures.value c.call_of.ensures c.in-Some.call (omega (arith, c.loop-test.true)) c.if-out-count-lt-LINE_ROOM.false c.in-Some.is
    c.next_place-at.ensures _ _ c.answer-count.ensures c.answer-count.auto.out (c.answer-count.auto.ids ∙ c.loop.invariant.places) (omega arith)

pub returns-after-loop : goal.returns-after-loop
returns-after-loop c = spent c.loop.invariant (omega (arith, c.loop-test.false))

pub returns-then-out-count-lt-LINE_ROOM : goal.returns-then-out-count-lt-LINE_ROOM
returns-then-out-count-lt-LINE_ROOM c = full c.loop.invariant c.if-out-count-lt-LINE_ROOM.true

pub returns-in_default : goal.returns-in_default
returns-in_default c = no_call c.loop.invariant c.read_from-read.ensures.value c.call_of.ensures c.in_default.is
