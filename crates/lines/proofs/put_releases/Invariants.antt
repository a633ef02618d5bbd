-- `lines::put_releases` meets its contract. The invariant: the ids so far stand at the front, in at most 13 bytes each.
-- Assumes nothing.
use Rattle.std.proofs.Common.{List, ℕ, ◌*◌, ◌≤◌, take}
use Rattle.rules.specs.Replay.{release_lines}
use Rattle.rules.specs.Buffers.{Stands}
use Rattle.lines.proofs.put_releases.Given as goal

pub record Inv (ids o₀ o : List ℕ) (at i : ℕ) : Type 0 where
  pub front : Stands (release_lines (take i ids)) o₀ o at
  pub few : at ≤ 13 * i

abbrev pub invariant-loop-id : goal.invariant-loop-id
invariant-loop-id l = Inv l.ids l.initial.out l.out l.at l.id-index
