-- `lines::put_numbers` meets its contract. The invariant: the numbers so far stand at the front.
-- Assumes nothing.
use Rattle.std.proofs.Common.{List, ◌∷◌, ℕ, ◌+◌, ◌≤◌, ◌<◌, arith, length, take, get_or, take_all}
use Rattle.rules.specs.Replay.{digits, numbers}
use Rattle.rules.specs.Buffers.{Written, Stands, rest_of, put_back}
use Rattle.rules.proofs.Laws.Buffers.{stands_none, stands_rest, stands_more}
use Rattle.lines.proofs.Room.{numbers_next, numbers_within}
use Rattle.lines.proofs.put_numbers.Goals as goal

module _ (ns : List ℕ) {o₀ o : List ℕ} {at : ℕ} (i : ℕ) (v : Stands (numbers (take i ns)) o₀ o at) where
  finished : length ns ≤ i → Written (numbers ns) at o₀ o
  finished h = rw (take_all i ns h) at v.front

  module _ (room : length (numbers ns) ≤ length o₀) (h : i < length ns) where
    asked : length (digits (get_or ns i 0)) < length (rest_of o at)
    asked = rw (stands_rest v) (omega (arith, numbers_within ns i h, v.front.0))

    turn : (r : ℕ) (ys : List ℕ) → Written (32 ∷ digits (get_or ns i 0)) r (rest_of o at) ys → Stands (numbers (take (i + 1) ns)) o₀ (put_back o at ys) (at + r)
    turn r ys w = rw (numbers_next ns i h) (stands_more v (32 ∷ digits (get_or ns i 0)) ys r w (omega (arith, numbers_within ns i h, v.front.0, w.0)))

pub loop-n-init : goal.loop-n-init
loop-n-init c = stands_none c.args.out.now

pub put_number-at-requires : goal.put_number-at-requires
put_number-at-requires c = asked c.args.numbers.now _ c.loop-n.invariant c.requires c.loop-n-test.true

pub loop-n-preserved : goal.loop-n-preserved
loop-n-preserved c = turn c.args.numbers.now _ c.loop-n.invariant c.requires c.loop-n-test.true c.put_number-at.result c.put_number-at.new.out c.put_number-at.ensures

pub returns : goal.returns
returns c = finished c.args.numbers.now _ c.loop-n.invariant c.loop-n-test.false
