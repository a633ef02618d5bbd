-- `lines::put_shares` meets its contract. The invariant: the leaves below n stand at the front, in at most 16 bytes each.
-- Assumes nothing.
use Rattle.std.proofs.Common.{◌≡◌, List, ℕ, ◌+◌, ◌-◌, ◌≤◌, ◌<◌, arith, length, get_or, rules}
use Rattle.rules.specs.Buffers.{Written, Stands, rest_of, put_back}
use Rattle.rules.proofs.Laws.Buffers.{stands_none, stands_rest, stands_more}
use Rattle.rules.proofs.Laws.Lines.{shares_none, shares_next}
use Rattle.rules.specs.Replay.{leaf_line, share_lines_to, share_lines_of}
use Rattle.lines.proofs.put_shares.Invariants.{Inv}
use Rattle.lines.proofs.put_shares.Goals as goal

begun : (active : ℕ) (shares o₀ : List ℕ) → Stands (share_lines_to active shares 0) o₀ o₀ 0
begun active shares o₀ = rw (shares_none active shares) (stands_none o₀)

module _ {active : ℕ} {shares o₀ o : List ℕ} {at n : ℕ} (v : Inv active shares o₀ o at n) where
  finished : 64 ≤ n → Written (share_lines_of active shares) at o₀ o
  finished h = let e : n - 1 ≡ 63 = omega (arith, v.upto) in rw e at v.front.front

  module _ (room : 1008 ≤ length o₀) (h : n < 64) where
    asked : 16 ≤ length (rest_of o at)
    asked = rw (stands_rest v.front) (omega (arith, v.few, v.from))

    turn : (r : ℕ) (ys : List ℕ) → Written (leaf_line active n (get_or shares n 0)) r (rest_of o at) ys → r ≤ 16
        → Inv active shares o₀ (put_back o at ys) (at + r) (n + 1)
    turn r ys w short = record {
      from = omega arith;
      upto = omega arith;
      front = rw (shares_next active shares n v.from) (stands_more v.front (leaf_line active n (get_or shares n 0)) ys r w (omega (arith, v.few, v.from)));
      few = omega (arith, v.few, v.from);
    }

pub loop-n-init : goal.loop-n-init
loop-n-init c =
    record { from = search rules; upto = search rules; front = begun c.args.active c.args.shares.now c.args.out.now; few = search rules }

pub put_leaf-at-requires : goal.put_leaf-at-requires
put_leaf-at-requires c =
    (omega (arith, c.loop-n-test.true), asked c.loop-n.invariant c.requires (omega (arith, c.loop-n-test.true)))

pub loop-n-preserved : goal.loop-n-preserved
loop-n-preserved c =
    turn c.loop-n.invariant c.requires (omega (arith, c.loop-n-test.true)) c.put_leaf-at.result c.put_leaf-at.new.out
    c.put_leaf-at.ensures.0 c.put_leaf-at.ensures.1

pub returns : goal.returns
returns c = finished c.loop-n.invariant (omega (arith, c.loop-n-test.false))
