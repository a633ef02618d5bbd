-- What holds when a plan donates, and what its sums leave for each taker.
-- Assumes nothing.
use Rattle.std.specs.Prelude.{◌≡◌, true, false, List, ℕ, ◌≤◌, ◌<◌, get_or}
use Rattle.std.proofs.Common.{arith}
use Rattle.rules.specs.Numbers.{whole, nodes_most}
use Rattle.rules.specs.Words.{has}
use Rattle.rules.specs.Tree.{base_shares, is_thin}
use Rattle.rules.specs.Plan.{is_taker, is_donation, sum_over}
use Rattle.rules.specs.Invariant.{SoundTree, Within}
use Rattle.rules.proofs.Laws.Trees.{no_root_within}
use Rattle.rules.proofs.Laws.Shares.{base_shares_at, base_shares_end, leaves_share_at_most_whole, not_thin_keeps_the_floor}
use Rattle.rules.proofs.Laws.Resharing.{active_node, bases_sum}
use Rattle.rules.specs.declared.tree.Tree.{Tree}

-- the root is no leaf, each active leaf has a base share, and a donor is active and its target is no more than its base share
pub record Donation (active donors : ℕ) (bases targets : List ℕ) : Type 0 where
  pub root : has active 0 ≡ false
  pub within : (n : ℕ) → has donors n ≡ true → has active n ≡ true
  pub based : (n : ℕ) → has active n ≡ true → 0 < get_or bases n 0
  pub lower : (n : ℕ) → has donors n ≡ true → get_or targets n 0 ≤ get_or bases n 0
  pub sum_most : sum_over (has active) bases ≤ whole
  pub donates : is_donation active donors ≡ true

-- what a quotient for each taker asks of kept, which stands for S - D: a taker's base share is within it
pub record Parts (active donors kept : ℕ) (bases : List ℕ) : Type 0 where
  pub base_kept : (n : ℕ) → n < nodes_most → is_taker active donors n ≡ true → get_or bases n 0 ≤ kept

-- ---- base shares of a tree that is not thin meet it, with donors whose targets are below them
module _ {t : Tree} (sound : SoundTree t) (thick : is_thin t ≡ false) (active donors : ℕ) (targets : List ℕ) (leaves : Within t active) where
  pub planned : ((n : ℕ) → has donors n ≡ true → has active n ≡ true)
      → ((n : ℕ) → has donors n ≡ true → get_or targets n 0 < get_or (base_shares t active) n 0)
      → is_donation active donors ≡ true → Donation active donors (base_shares t active) targets
  planned within lower donates = record {
    root = no_root_within t active leaves;
    within = within;
    based = λ n e. omega (arith, base_shares_at t active n (active_node sound active leaves n e), not_thin_keeps_the_floor sound thick active n leaves e);
    lower = λ n e. omega (arith, lower n e);
    sum_most = omega (arith, bases_sum sound active leaves, base_shares_end sound active leaves, leaves_share_at_most_whole sound active leaves);
    donates = donates;
  }
