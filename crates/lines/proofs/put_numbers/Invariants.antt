-- `lines::put_numbers` meets its contract. The invariant: the numbers so far stand at the front.
-- Assumes nothing.
use Rattle.std.proofs.Common.{take}
use Rattle.rules.specs.Replay.{numbers}
use Rattle.rules.specs.Buffers.{Stands}
use Rattle.lines.proofs.put_numbers.Given as goal

abbrev pub invariant-loop-n : goal.invariant-loop-n
invariant-loop-n l = Stands (numbers (take l.n-index l.numbers)) l.initial.out l.out l.at
