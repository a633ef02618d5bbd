-- "Whenever a share rises ..", of every leaf at once, and base shares anew with the budgets that follow them.
-- Assumes nothing.
use Rattle.std.specs.Prelude.{List, ℕ, get_or}
use Rattle.rules.specs.Words.{table}
use Rattle.rules.specs.Tree.{base_shares}
use Rattle.rules.specs.Budget.{empty_row, with_budget, rebudget}
use Rattle.rules.specs.declared.budget.Row.{Row}
use Rattle.rules.specs.declared.tree.Tree.{Tree}
use Rattle.controller.specs.declared.shares.Anew.{Anew}

-- each budget scaled from its leaf's share before to the one after
abbrev pub rebudgeted_rows : List Row → List ℕ → List ℕ → List Row
rebudgeted_rows rows before after =
    table (λ n. with_budget (rebudget (get_or before n 0) (get_or after n 0) (get_or rows n empty_row).budget) (get_or rows n empty_row))

abbrev pub base_anew : Tree → ℕ → List Row → List ℕ → Anew
base_anew tree active rows before =
    record { shares = base_shares tree active; rows = rebudgeted_rows rows before (base_shares tree active) }
