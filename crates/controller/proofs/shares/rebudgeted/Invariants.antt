-- `rebudgeted` meets its contract. The invariant: the rows below n have their scaled budgets, the others are as they came.
-- Assumes nothing.
use Rattle.std.proofs.Common.{◌≡◌, List, ℕ, get_or}
use Rattle.rules.specs.Words.{table}
use Rattle.rules.specs.Budget.{empty_row, with_budget, rebudget}
use Rattle.rules.proofs.Laws.Sweeps.{swept}
use Rattle.rules.specs.declared.budget.Row.{Row}
use Rattle.controller.proofs.shares.rebudgeted.Given as goal

abbrev pub scaled : List ℕ → List ℕ → List Row → ℕ → Row
scaled before after rows n =
    with_budget (rebudget (get_or before n 0) (get_or after n 0) (get_or rows n empty_row).budget) (get_or rows n empty_row)

abbrev pub invariant-loop-n : goal.invariant-loop-n
invariant-loop-n l = l.row-items ≡ swept (table (scaled l.before l.after l.fn.rows)) l.fn.rows l.n
