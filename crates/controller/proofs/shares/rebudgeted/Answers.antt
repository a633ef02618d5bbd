-- `rebudgeted` meets its contract. The invariant: the rows below n have their scaled budgets, the others are as they came.
-- Assumes nothing.
use Rattle.std.proofs.Common.{◌≡◌, List, ℕ, ◌+◌, ◌*◌, ◌^◌, ◌≤◌, ◌<◌, arith, rules, length, get_or}
use lib.ListN.{set}
use Rattle.rules.specs.Words.{table}
use Rattle.rules.specs.Budget.{empty_row, with_budget, rebudget}
use Rattle.rules.proofs.Laws.Sweeps.{swept, place_here, place_put, places_done}
use Rattle.rules.specs.declared.budget.Row.{Row}
use Rattle.rules.specs.declared.units.Virt.{Virt}
use Rattle.controller.proofs.shares.rebudgeted.Invariants.{scaled}
use Rattle.controller.proofs.shares.rebudgeted.Goals as goal

-- ---- a turn, on plain values
module _ (before after : List ℕ) (rows s : List Row) (n : ℕ) (full : length rows ≡ 64)
    (e : s ≡ swept (table (scaled before after rows)) rows n) (h : n < 64) where
  here : get_or s n empty_row ≡ get_or rows n empty_row
  here = place_here (scaled before after rows) rows s n empty_row full e h

  step : (b : Virt) → b ≡ rebudget (get_or before n 0) (get_or after n 0) (get_or s n empty_row).budget
      → set s n (with_budget b (get_or s n empty_row)) ≡ swept (table (scaled before after rows)) rows (n + 1)
  step b same = place_put (scaled before after rows) rows s n empty_row full e h (with_budget b (get_or s n empty_row)) (rw (same, here))

-- above the needs that a lie about it may leave true: the first error is what is false
pub loop-n-preserved : goal.loop-n-preserved
loop-n-preserved c =
    step c.args.before.now c.args.after.now c.args.rows c.loop-n.row-items c.loop-n.n (search rules) c.loop-n.invariant (search rules)
    c.rebudget-row.result (rw (← c.from.ensures, ← c.from-in-loop-n.ensures) c.rebudget-row.ensures)

pub rebudget-row-requires : goal.rebudget-row-requires
rebudget-row-requires c =
    let same = here c.args.before.now c.args.after.now c.args.rows c.loop-n.row-items c.loop-n.n (search rules) c.loop-n.invariant (search rules) in
    let fits : (get_or c.args.rows c.loop-n.n empty_row).budget.0 * get_or c.args.before.now c.loop-n.n 0 ≤ 2 ^ 61 + 2 ^ 30 = c.requires c.loop-n.n in
    rw (c.from.ensures, same) (omega arith)

pub returns : goal.returns
returns c =
    places_done (scaled c.args.before.now c.args.after.now c.args.rows)
    c.args.rows c.loop-n.row-items c.loop-n.n (search rules) c.loop-n.invariant (omega arith)
