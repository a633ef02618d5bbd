-- `shares::base_shares` meets its contract: at the loop's head the active nodes before have their shares, and the active leaves
-- among them their places.
-- Assumes nothing.
use Rattle.std.proofs.Common.{◌≡◌, true, List, ℕ, ◌≤◌, ◌<◌, length, get_or}
use lib.ListN.{replicate}
use Rattle.rules.specs.Words.{has, table}
use Rattle.rules.specs.Tree.{base_share}
use Rattle.rules.specs.declared.tree.Tree.{Tree}
use Rattle.rules.proofs.Laws.Sweeps.{swept}
use Rattle.tree.specs.View.{share_among}
use Rattle.tree.proofs.shares.base_shares.Given as goal

-- the active nodes below n have their shares
abbrev pub Shared : Tree → ℕ → List ℕ → ℕ → Type 0
Shared t nodes held n = (k : ℕ) → k < n → has nodes k ≡ true → get_or held k 0 ≡ share_among t nodes k

abbrev pub invariant-loop-n : goal.invariant-loop-n
invariant-loop-n l =
    (length l.held ≡ 64) × Shared l.fn.tree l.lit.nodes l.held l.n × (l.shares ≡ swept (table (base_share l.fn.tree l.active)) (replicate 64 0) l.n) × (l.n ≤ 64)
