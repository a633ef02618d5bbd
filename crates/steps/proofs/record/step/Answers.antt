-- `record::step` meets its contract: nothing without room, nothing once stopped, a call alone, or what else was read.
-- Assumes nothing.
use Rattle.std.proofs.Common.{◌≡◌, refl, sym, ◌∙◌, rules}
use Rattle.rules.specs.Trace.{read_at}
use Rattle.rules.specs.Replay.{is_stopped}
use Rattle.steps.proofs.Records.{stopped_alone, steps_not, steps_no_more, steps_on, same_read, no_run, one_call}
use Rattle.steps.proofs.record.step.Goals.{Joined-matches, in-Stopped, in_default}
use Rattle.steps.proofs.record.step.Goals as goal

-- above the answers that cite the test, and without it: the first error is what is false
pub follow-count-requires : goal.follow-count-requires
follow-count-requires c = (c.requires, search rules, no_run c.args.s _ refl c.runs.ensures c.if-runs.false)

pub returns-then-out-lt-LINE_ROOM : goal.returns-then-out-lt-LINE_ROOM
returns-then-out-lt-LINE_ROOM c = steps_not (read_at c.args.trace.now c.args.at) c.args.s c.args.out.now c.if-out-lt-LINE_ROOM.true

is : (c : Joined-matches) → c.match-matches.matches ≡ is_stopped c.args.s.phase
is c =
    elim c.match-matches.branch [
      | in-Stopped w ↦ rw (w.matches-is, w.in-Stopped.is)
      | in_default w ↦ w.matches-is ∙ stopped_alone c.args.s.phase w.in_default.not-Stopped
    ]

pub returns-then-matches : goal.returns-then-matches
returns-then-matches c =
    let e = is (goal.at.returns-then-matches c).Joined-matches in
    steps_no_more (read_at c.args.trace.now c.args.at) c.args.s c.args.out.now c.if-out-lt-LINE_ROOM.false (sym e ∙ c.if-matches.true)

pub returns-then-runs : goal.returns-then-runs
returns-then-runs c =
    let a = c.args in
    let e = is (goal.at.returns-then-runs c).Joined-matches in
    steps_on (read_at a.trace.now a.at) a.s a.out.now c.if-out-lt-LINE_ROOM.false (sym e ∙ c.if-matches.false)
    (one_call a.trace.now a.at a.s a.out.now c.read_from-read.ensures.value c.runs.ensures c.if-runs.true refl
    c.if-out-lt-LINE_ROOM.false c.run-ran.ensures)

pub returns-else-runs : goal.returns-else-runs
returns-else-runs c =
    let a = c.args in
    let e = is (goal.at.returns-else-runs c).Joined-matches in
    steps_on (read_at a.trace.now a.at) a.s a.out.now c.if-out-lt-LINE_ROOM.false (sym e ∙ c.if-matches.false)
    (same_read a.s a.out.now c.read_from-read.ensures.value c.follow-count.ensures)
