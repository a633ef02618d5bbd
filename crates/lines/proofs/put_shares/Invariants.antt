-- `lines::put_shares` meets its contract. The invariant: the leaves below n stand at the front, in at most 16 bytes each.
-- Assumes nothing.
use Rattle.std.proofs.Common.{List, ℕ, ◌-◌, ◌*◌, ◌≤◌, ◌<◌}
use Rattle.rules.specs.Buffers.{Stands}
use Rattle.rules.specs.Replay.{share_lines_to}
use Rattle.lines.proofs.put_shares.Given as goal

pub record Inv (active : ℕ) (shares o₀ o : List ℕ) (at n : ℕ) : Type 0 where
  pub from : 0 < n
  pub upto : n ≤ 64
  pub front : Stands (share_lines_to active shares (n - 1)) o₀ o at
  pub few : at ≤ 16 * (n - 1)

abbrev pub invariant-loop-n : goal.invariant-loop-n
invariant-loop-n l = Inv l.active l.shares l.initial.out l.out l.at l.n

abbrev pub decreases-loop-n : goal.decreases-loop-n
decreases-loop-n l = 64 - l.n
