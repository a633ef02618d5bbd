-- `replay::rounds::replay_from` meets its contract, by what `run` ensures from the beginning.
-- Assumes nothing.
use Rattle.std.proofs.Common.{refl}
use Rattle.replay.proofs.Round.{from_the_beginning}
use Rattle.replay.proofs.rounds.replay_from.Goals as goal

pub returns : goal.returns
returns g c = from_the_beginning c.run-end.result _ _ _ _ c.beginning.ensures.0 refl c.run-end.ensures.over
