-- `refused` meets its contract, whatever start was asked.
-- Assumes nothing.
use Rattle.rules.specs.Entries.{started_by}
use Rattle.controller.proofs.start.refused.Goals as goal

pub returns : goal.returns
unfolding started_by
returns c = λ t s time. rw c.leafless.ensures
