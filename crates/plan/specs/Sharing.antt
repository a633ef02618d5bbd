-- What a plan is shown of a state, what its step 4 asks of those before it and hands out, and the state that a plan's parts
-- make.
-- Assumes nothing.
use Rattle.std.specs.Prelude.{◌≡◌, true, false, cond, List, ℕ, ◌<◌}
use Rattle.rules.specs.Words.{table, has, no_node}
use Rattle.rules.specs.Budget.{queue_at, with_clock, with_sharing, with_books}
use Rattle.rules.specs.Plan.{is_donation, donated, restarted_clock}
use Rattle.rules.specs.Invariant.{Sound}
use Rattle.rules.specs.declared.units.Virt.{Virt}
use Rattle.rules.specs.declared.tree.Tree.{Tree}
use Rattle.rules.specs.declared.budget.Row.{Row}
use Rattle.rules.specs.declared.budget.Controller.{Controller}
use Rattle.donation.specs.Donation.{Donation}
use Rattle.plan.specs.declared.Sharing.{Sharing}
use Rattle.plan.specs.declared.Planned.{Planned}

-- these are the parts of a state in which a plan is not refused; of each queue it is how many wait there
pub record Shown (c : Controller) (tree : Tree) (since : Virt) (was : ℕ) (before : List ℕ) (rows : List Row) (waiting : List ℕ) : Type 0 where
  pub sound : Sound c
  pub passed : 0 < c.clock.since.0
  pub same_tree : tree ≡ c.tree
  pub same_since : since ≡ c.clock.since
  pub same_active : was ≡ c.active
  pub same_shares : before ≡ c.shares
  pub same_rows : rows ≡ c.rows
  pub counts : waiting ≡ table (λ n. (queue_at c n).len)

-- the root neither is active nor gives, and what donors give can be worked out
pub record CanShare (active donors : ℕ) (bases targets : List ℕ) : Type 0 where
  pub no_root : has active 0 ≡ false
  pub no_root_gives : has donors 0 ≡ false
  pub donation : is_donation active donors ≡ true → Donation active donors bases targets

-- "With no donor or no active non-donor, .."
abbrev pub sharing_of : ℕ → ℕ → List ℕ → List ℕ → Sharing
sharing_of active donors bases targets =
    cond (is_donation active donors)
    (record { donors = donors; shares = donated active donors bases targets })
    (record { donors = no_node; shares = bases })

abbrev pub put_plan : Planned → Controller → Controller
put_plan p c =
    with_sharing p.active p.donors p.shares (with_books p.rows c.queues (with_clock (restarted_clock c.clock) c))
