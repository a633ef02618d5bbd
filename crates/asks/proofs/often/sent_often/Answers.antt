-- `often::sent_often`: the state stays sound from submission to submission.
-- Assumes nothing.
use Rattle.rules.proofs.Laws.Submits.{submit_keeps}
use Rattle.asks.proofs.often.sent_often.Goals as goal

pub loop-preserved : goal.loop-preserved
loop-preserved c = rw c.submit-done.ensures.value (submit_keeps c.loop.invariant _)
