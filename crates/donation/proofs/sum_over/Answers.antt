-- `donation::sum_over` meets its contract: at the loop's head is the sum over the nodes passed.
-- Assumes nothing.
use mathlib.Core.Path.{◌≡◌, refl, sym, ap, ◌∙◌}
use mathlib.Core.Bool.{Bool, true, false, cond}
use mathlib.Core.List.{List}
use Prim.Native.Nat.{ℕ, ◌+◌, ◌-◌, ◌<◌}
use native.Mathlib.Omega.{arith}
use lib.ListN.{get_or}
use Rattle.rules.specs.Words.{sum_to, has}
use Rattle.rules.specs.Plan.{sum_over}
use Rattle.rules.proofs.Laws.Sums.{sum_step}
use Rattle.donation.proofs.sum_over.Invariants.{part_at}
use Rattle.donation.proofs.sum_over.Goals.{then-has, else-has}
use Rattle.donation.proofs.sum_over.Goals as goal

-- the turn of a node, whether it is in the set or not
module _ (set : ℕ) (shares : List ℕ) {n sum : ℕ} (from : 0 < n) (e : sum ≡ sum_to (part_at set shares) (n - 1)) {b : Bool} (h : b ≡ has set n) where
  one_more : sum + cond b (get_or shares n 0) 0 ≡ sum_to (part_at set shares) (n + 1 - 1)
  one_more =
      let next : n + 1 - 1 ≡ n = omega arith in
      rw (next, e, h) (sym (sum_step (part_at set shares) n from))

  inside : b ≡ true → sum + get_or shares n 0 ≡ sum_to (part_at set shares) (n + 1 - 1)
  inside t = rw t at one_more

  outside : b ≡ false → sum ≡ sum_to (part_at set shares) (n + 1 - 1)
  outside f = let same : sum + 0 ≡ sum_to (part_at set shares) (n + 1 - 1) = rw f at one_more in omega (arith, same)

pub loop-n-init : goal.loop-n-init
unfolding sum_to
loop-n-init c = (refl, omega arith)

pub loop-n-preserved : goal.loop-n-preserved
loop-n-preserved c =
    let a = c.args in
    elim c.if-has.branch [
      | then-has w ↦ (
        w.sum-is ∙ ap (λ (x : ℕ). c.loop-n.sum + x) w.from-sum.ensures
            ∙ inside a.set a.shares.now c.loop-n.auto.n c.loop-n.invariant.0 c.has.ensures w.if-has.true,
        omega (arith, w.sum-is, w.from-sum.ensures, c.fits-shares c.loop-n.n, c.loop-n.auto.n),
      )
      | else-has w ↦ (
        w.sum-is ∙ outside a.set a.shares.now c.loop-n.auto.n c.loop-n.invariant.0 c.has.ensures w.if-has.false,
        omega (arith, w.sum-is),
      )
    ]

pub returns : goal.returns
unfolding sum_over
returns c =
    c.loop-n.invariant.0 ∙ ap (sum_to (part_at c.args.set c.args.shares.now)) (omega arith)
