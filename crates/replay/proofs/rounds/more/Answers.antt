-- `replay::rounds::more` meets its contract: what a read put behind the bytes that wait left them as they were.
-- Assumes nothing.
use Rattle.std.proofs.Common.{◌≤◌, length, refl, rules}
use Rattle.replay.proofs.Round.{reads_so}
use Rattle.replay.proofs.rounds.more.Goals as goal

pub returns : goal.returns
returns g c =
    let most : c.in_ok-count.count ≤ length c.read.new.buf = search rules in
    reads_so c.args.chunk.now c.read.new.buf _ c.in_ok-count.count c.requires most refl refl refl
