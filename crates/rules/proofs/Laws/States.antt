-- What can be read off any sound state: who is active, how small the shares and usages are, and what stands past the last
-- node.
-- Assumes nothing.
use Rattle.std.specs.Prelude.{◌≡◌, refl, Bool, true, false, ℕ, ◌^◌, ◌≤◌, ◌<◌}
use Rattle.std.proofs.Common.{arith}
use Rattle.std.proofs.Math.ListN.{get_or-eq_default}
use Rattle.rules.specs.Numbers.{whole, nodes_most, leaf_most, queue_room, waiting_most}
use Rattle.rules.specs.Words.{sum_to, has}
use Rattle.rules.specs.Budget.{row_at, queue_at, share_at, empty_row, empty_queue}
use Rattle.rules.specs.Tick.{waiting_all}
use Rattle.rules.specs.Invariant.{Sound}
use Rattle.rules.proofs.Laws.Bools.{is_false}
use Rattle.rules.proofs.Laws.Sums.{sum_in, sum_bound}
use Rattle.rules.proofs.Laws.Trees.{leaf_pos, leaf_last, last_most}
use Rattle.rules.proofs.Laws.Shares.{base_shares_end, leaves_share_at_most_whole}
use Rattle.rules.specs.declared.budget.Controller.{Controller}

module _ {c : Controller} (sound : Sound c) where
  -- ---- an active leaf is one of the nodes 1 to 63
  pub active_pos : (n : ℕ) → has c.active n ≡ true → 0 < n
  active_pos n e = leaf_pos c.tree n (sound.active n e)

  pub active_most : (n : ℕ) → has c.active n ≡ true → n ≤ leaf_most
  active_most n e = omega (arith, leaf_last c.tree n (sound.active n e), last_most sound.tree)

  pub past_is_idle : (n : ℕ) → nodes_most ≤ n → has c.active n ≡ false
  past_is_idle n l = is_false (has c.active n) (λ e. let m : n ≤ leaf_most = active_most n e in omega arith)

  -- ---- past the last node there is nothing
  pub row_past : (n : ℕ) → nodes_most ≤ n → row_at c n ≡ empty_row
  row_past n l = get_or-eq_default c.rows empty_row (rw sound.rows_all l)

  pub queue_past : (n : ℕ) → nodes_most ≤ n → queue_at c n ≡ empty_queue
  queue_past n l = get_or-eq_default c.queues empty_queue (rw sound.queues_all l)

  -- ---- shares
  pub shares_at_most_whole : sum_to (share_at c) leaf_most ≤ whole
  shares_at_most_whole =
      omega (
        arith,
        sound.share_sum,
        base_shares_end sound.tree c.active sound.active,
        leaves_share_at_most_whole sound.tree c.active sound.active,
      )

  pub share_most : (n : ℕ) → share_at c n ≤ whole
  share_most n = go (has c.active n) refl
    where
      go : (t : Bool) → has c.active n ≡ t → share_at c n ≤ whole
      go true e = omega (arith, sum_in (share_at c) n leaf_most (active_pos n e) (active_most n e), shares_at_most_whole)
      go false e = omega (arith, sound.share_idle n e)

  pub share_pos : (n : ℕ) → has c.active n ≡ true → 0 < share_at c n
  share_pos n e = omega (arith, sound.share_at_floor n e)

  -- ---- usages
  pub usage_small : sum_to (λ n. (row_at c n).usage.0) leaf_most ≤ 2 ^ 38
  usage_small = omega (arith, sound.usage_at_most, sound.clock.since_at_most)

  pub usage_small_at : (n : ℕ) → 0 < n → n ≤ leaf_most → (row_at c n).usage.0 ≤ 2 ^ 38
  usage_small_at n p l = omega (arith, sum_in (λ k. (row_at c k).usage.0) n leaf_most p l, usage_small)

  -- ---- the queues: 63 leaves with 8 waiting bios each
  pub waiting_small : waiting_all c ≤ waiting_most
  unfolding waiting_all
  waiting_small = sum_bound (λ n. (queue_at c n).len) queue_room leaf_most (λ n p l. (sound.queue n).len_most)
