-- `lines::put_releases` meets its contract. The invariant: the ids so far stand at the front, in at most 13 bytes each.
-- Assumes nothing.
use Rattle.std.proofs.Common.{List, [], ◌∷◌, ℕ, ◌+◌, ◌*◌, ◌≤◌, ◌<◌, arith, length, get_or, take_all, rules}
use Rattle.rules.specs.Replay.{line, release_lines}
use Rattle.rules.specs.Buffers.{Written, rest_of, put_back}
use Rattle.rules.proofs.Laws.Buffers.{stands_none, stands_rest, stands_more}
use Rattle.rules.proofs.Laws.Lines.{releases_next}
use Rattle.lines.proofs.put_releases.Invariants.{Inv}
use Rattle.lines.proofs.put_releases.Goals as goal

module _ {ids o₀ o : List ℕ} {at i : ℕ} (v : Inv ids o₀ o at i) where
  finished : length ids ≤ i → Written (release_lines ids) at o₀ o
  finished h = rw (take_all i ids h) at v.front.front

  module _ (room : 13 * length ids ≤ length o₀) (h : i < length ids) where
    asked : 13 ≤ length (rest_of o at)
    asked = rw (stands_rest v.front) (omega (arith, v.few))

    turn : (r : ℕ) (ys : List ℕ) → Written (line 114 (get_or ids i 0 ∷ [])) r (rest_of o at) ys → r ≤ 13
        → Inv ids o₀ (put_back o at ys) (at + r) (i + 1)
    turn r ys w short = record {
      front = rw (releases_next ids i h) (stands_more v.front (line 114 (get_or ids i 0 ∷ [])) ys r w (omega (arith, v.few)));
      few = omega (arith, v.few);
    }

pub loop-id-init : goal.loop-id-init
loop-id-init c = record { front = stands_none c.args.out.now; few = search rules }

pub put_id-at-requires : goal.put_id-at-requires
put_id-at-requires c = asked c.loop-id.invariant c.requires c.loop-id-test.true

pub loop-id-preserved : goal.loop-id-preserved
loop-id-preserved c =
    turn c.loop-id.invariant c.requires c.loop-id-test.true c.put_id-at.result c.put_id-at.new.out
    c.put_id-at.ensures.0 c.put_id-at.ensures.1

pub returns : goal.returns
returns c = finished c.loop-id.invariant c.loop-id-test.false
