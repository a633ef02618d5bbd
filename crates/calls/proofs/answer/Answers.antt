-- `answer` meets its contract: what each call answers and leaves is the rules'.
-- Assumes nothing.
use Rattle.std.proofs.Common.{◌∙◌}
use Rattle.calls.proofs.Answered.{released_fit, bio_answered, tick_answered, plan_answered, set_answered}
use Rattle.calls.proofs.answer.Goals as goal

pub returns-in-Bio : goal.returns-in-Bio
returns-in-Bio c = rw c.in-Bio.is (bio_answered _ _ _ c.in-Bio.bio c.submit_to-answer.ensures c.put_answer.ensures)

-- above the need that a lie about it may leave true: the first error is what is false
pub returns-in-Tick : goal.returns-in-Tick
returns-in-Tick c = rw c.in-Tick.is (tick_answered _ _ _ c.in-Tick.time c.args.ids.now c.requires.1 c.pass-answer.ensures c.put_ticked.ensures)

pub put_ticked-requires : goal.put_ticked-requires
put_ticked-requires c = (released_fit c.requires.0 c.in-Tick.time c.args.ids.now _ c.requires.1 (c.pass-answer.auto.out ∙ c.requires.1) c.pass-answer.ensures.0, c.requires.2)

pub returns-in-Plan : goal.returns-in-Plan
returns-in-Plan c = rw c.in-Plan.is (plan_answered _ _ _ c.replan-answer.ensures c.put_planned.ensures)

pub returns-in-Set : goal.returns-in-Set
returns-in-Set c = rw c.in-Set.is (set_answered _ _ _ c.in-Set.setting c.set-answer.ensures c.put_verdict.ensures)
