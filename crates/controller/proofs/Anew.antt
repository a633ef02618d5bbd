-- Base shares anew, put into the state that they were worked out of, are the rule's.
-- Assumes nothing.
use mathlib.Core.Path.{◌≡◌}
use Prim.Native.Nat.{ℕ}
use Rattle.rules.specs.Words.{no_node}
use Rattle.rules.specs.Budget.{with_sharing, with_books, reshared, rebased}
use Rattle.rules.specs.declared.budget.Controller.{Controller}
use Rattle.controller.specs.Rows.{base_anew}
use Rattle.controller.specs.declared.shares.Anew.{Anew}

pub anew_put : (active : ℕ) (c : Controller) {a : Anew} → a ≡ base_anew c.tree active c.rows c.shares
    → with_sharing active no_node a.shares (with_books a.rows c.queues c) ≡ rebased active c
unfolding rebased reshared
anew_put active c e = rw e
