-- `steps::chunk::feed` meets its contract: each step of the loop is a step of the chunk's part.
-- Assumes nothing.
use Rattle.steps.proofs.Feeding.{Feeding, left}
use Rattle.steps.proofs.chunk.feed.Given as goal

abbrev pub invariant-loop-pause : goal.invariant-loop-pause
invariant-loop-pause l = Feeding l.last l.trace l.place l.initial.s l.initial.out l.out l.at l.count l.s

abbrev pub decreases-loop-pause : goal.decreases-loop-pause
decreases-loop-pause l = left l.trace l.at l.s
