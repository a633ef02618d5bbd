-- How long numbers behind blanks are at the most.
-- Assumes nothing.
use Rattle.std.proofs.Common.{List, [], ◌∷◌, ℕ, ◌*◌, ◌≤◌, arith, length, length-append}
use Rattle.rules.specs.Replay.{digits, numbers}
use Rattle.rules.proofs.Laws.Lines.{digits_room}

pub numbers_room : (ns : List ℕ) → length (numbers ns) ≤ 21 * length ns
numbers_room [] = omega arith
numbers_room (n ∷ ns) = simp length-append (omega (arith, digits_room n, numbers_room ns))
