-- `decide_in` meets its contract: what a sound state shows can be decided on.
-- Assumes nothing.
use Rattle.submit.proofs.Shapes.{at_node}
use Rattle.submit.proofs.Decisions.{place_inside, can_decide}
use Rattle.submit.proofs.decide_in.Goals as goal

pub at-requires : goal.at-requires
at-requires c = (c.requires.0, at_node c.requires.1 (place_inside c.args.bio))

pub decide-requires : goal.decide-requires
decide-requires c = rw c.at.ensures (can_decide c.requires.0 (at_node c.requires.1 (place_inside c.args.bio)))
