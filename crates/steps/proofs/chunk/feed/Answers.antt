-- `steps::chunk::feed` meets its contract: each step of the loop is a step of the chunk's part.
-- Assumes nothing.
use Rattle.std.proofs.Common.{◌≡◌, refl, false, length, ◌-◌}
use Rattle.rules.specs.Chunks.{halts}
use Rattle.rules.proofs.Laws.Buffers.{stands_left}
use Rattle.steps.proofs.Feeding.{begun, goes_on_there, halts_there, asks_little, steps_on, falls, run_steps, run_falls, feeds}
use Rattle.steps.proofs.Records.{no_run}
use Rattle.steps.proofs.chunk.feed.Goals.{In_default}
use Rattle.steps.proofs.chunk.feed.Goals as goal

pub loop-pause-init : goal.loop-pause-init
loop-pause-init c = begun c.args.last c.args.trace.now c.args.place c.args.s c.args.out.now c.requires

pub overflow_sub-out : goal.overflow_sub-out
overflow_sub-out c = stands_left c.loop-pause.invariant.front

pub returns-in-Some : goal.returns-in-Some
returns-in-Some c =
    let h = halts_there _ _ _ _ c.pause_at.ensures c.in-Some.is in
    feeds c.loop-pause.invariant c.read_from-read.ensures.value h.0 _ h.1

goes : (c : In_default) → halts c.args.last c.read_from-read.result (length c.loop-pause.out - c.loop-pause.count) c.loop-pause.s ≡ false
goes c = goes_on_there _ _ _ _ c.pause_at.ensures c.in_default.is

pub slice_bounds-run-count : goal.slice_bounds-run-count
slice_bounds-run-count c = stands_left c.loop-pause.invariant.front

pub slice_bounds-run-start : goal.slice_bounds-run-start
slice_bounds-run-start c = stands_left c.loop-pause.invariant.front

pub run-ran-requires : goal.run-ran-requires
run-ran-requires c = c.loop-pause.invariant.plays.state

pub loop-pause-smaller-then-runs : goal.loop-pause-smaller-then-runs
loop-pause-smaller-then-runs c =
    run_falls c.loop-pause.invariant c.read_from-read.ensures.value (goes (goal.at.loop-pause-smaller-then-runs c).In_default) c.runs.ensures c.if-runs.true _
    c.run-ran.auto.out c.run-ran.ensures refl

pub loop-pause-preserved-then-runs : goal.loop-pause-preserved-then-runs
loop-pause-preserved-then-runs c =
    run_steps c.loop-pause.invariant c.read_from-read.ensures.value (goes (goal.at.loop-pause-preserved-then-runs c).In_default) c.runs.ensures c.if-runs.true _
    c.run-ran.auto.out c.run-ran.ensures

pub slice_bounds-follow-count : goal.slice_bounds-follow-count
slice_bounds-follow-count c = stands_left c.loop-pause.invariant.front

pub slice_bounds-follow-start : goal.slice_bounds-follow-start
slice_bounds-follow-start c = stands_left c.loop-pause.invariant.front

pub follow-count-requires : goal.follow-count-requires
follow-count-requires c =
    let v = c.loop-pause.invariant in
    (v.plays, asks_little v c.read_from-read.ensures.value (goes (goal.at.follow-count-requires c).In_default), no_run c.loop-pause.s _ refl c.runs.ensures c.if-runs.false)

pub loop-pause-smaller : goal.loop-pause-smaller
loop-pause-smaller c =
    falls c.loop-pause.invariant c.read_from-read.ensures.value (goes (goal.at.loop-pause-smaller c).In_default) c.follow-count.auto.out c.follow-count.ensures
    c.next_place-at.ensures

pub loop-pause-preserved : goal.loop-pause-preserved
loop-pause-preserved c =
    steps_on c.loop-pause.invariant c.read_from-read.ensures.value (goes (goal.at.loop-pause-preserved c).In_default) c.follow-count.auto.out c.follow-count.ensures
    c.next_place-at.ensures
