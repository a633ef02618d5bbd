-- `targets_in` meets its contract: at the loop's head the places passed have their targets, each of which fits.
-- Assumes nothing.
use mathlib.Core.Path.{refl}
use mathlib.Core.List.{List}
use Prim.Native.Nat.{ℕ, ◌^◌, ◌<◌}
use native.Mathlib.Omega.{arith}
use lib.ListN.{get_or, replicate}
use Rattle.rules.specs.Budget.{empty_row}
use Rattle.rules.specs.Plan.{target_of}
use Rattle.rules.proofs.Laws.Sweeps.{place_put, places_done}
use Rattle.rules.specs.declared.units.Virt.{Virt}
use Rattle.rules.specs.declared.budget.Row.{Row}
use Rattle.plan.proofs.Turns.{target_fits}
use Rattle.plan.proofs.targets_in.Goals as goal

abbrev target_at : Virt → List Row → ℕ → ℕ
target_at since rows n = target_of since (get_or rows n empty_row).usage

pub overflow_cast-target : goal.overflow_cast-target
overflow_cast-target c =
    let fits : c.target_of.result < 2 ^ 32 =
    rw c.target_of.ensures (target_fits c.args.elapsed.since (get_or c.args.rows.now c.loop-n.n empty_row).usage c.args.elapsed.some) in
    record { fits = omega (arith, fits) }

pub loop-n-preserved : goal.loop-n-preserved
loop-n-preserved c =
    let a = c.args in
    place_put (target_at a.elapsed.since a.rows.now) (replicate 64 0) c.loop-n.target-items c.loop-n.n 0 refl c.loop-n.invariant
    c.loop-n-test.true c.target_of.result c.target_of.ensures

pub returns : goal.returns
returns c =
    let a = c.args in
    places_done (target_at a.elapsed.since a.rows.now) (replicate 64 0) c.loop-n.target-items c.loop-n.n refl c.loop-n.invariant (omega arith)
