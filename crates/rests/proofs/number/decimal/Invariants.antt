-- `rests::number::decimal` meets its contract: the digits that are left, behind what was read, make the number of the word.
-- Assumes nothing.
use Rattle.std.proofs.Common.{◌≡◌, ◌^◌, ◌<◌, drop}
use Rattle.rests.specs.Decimal.{behind, decimal_of}
use Rattle.rests.proofs.number.decimal.Given as goal

abbrev pub invariant-loop-byte : goal.invariant-loop-byte
invariant-loop-byte l = (l.value < 2 ^ 64) × (behind l.value (drop l.byte-index l.word) ≡ decimal_of l.word)
