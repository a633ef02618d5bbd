-- What a bio is shown of the state, what is asked of that, and what the bio comes to by it.
-- Assumes nothing.
use Rattle.std.specs.Prelude.{◌≡◌, true, cond, ◌&&◌, ℕ, ◌<◌, ltb, Result, Ok, Err, Option, Some, None}
use Rattle.rules.specs.Numbers.{nodes_most}
use Rattle.rules.specs.Words.{has}
use Rattle.rules.specs.Budget.{row_at, queue_at, share_at, ends_donation}
use Rattle.rules.specs.Question.{own_of, ruling}
use Rattle.rules.specs.Invariant.{SoundModel}
use Rattle.rules.specs.Results.{Answered}
use Rattle.rules.specs.declared.units.Abs.{Abs}
use Rattle.rules.specs.declared.cost.Bio.{Bio}
use Rattle.rules.specs.declared.budget.Own.{Own}
use Rattle.rules.specs.declared.budget.Controller.{Controller}
use Rattle.rules.specs.declared.refusals.Refusal.{Refusal}
use Rattle.rules.specs.declared.refusals.Ruling.{Ruling}
use Rattle.rules.specs.declared.refusals.Answer.{Answer}
use Rattle.leaf.specs.Fit.{FitRow}
use Rattle.submit.specs.declared.View.{View}
use Rattle.submit.specs.declared.Shares.{Shares}
use Rattle.submit.specs.declared.Shares.TheVariants.{Activate, Return}
use Rattle.submit.specs.declared.Decision.{Decision}
use Rattle.submit.specs.OnLeaf.{queueing, booked_by}

-- where the books of a bio's node stand: those of the root, which is no leaf, where no tree has that node
unfoldable pub place_of : Bio → ℕ
place_of b = cond (ltb b.node nodes_most) b.node 0

-- what a state shows at a place
abbrev pub view_at : ℕ → Controller → View
view_at n c = record {
  leaves = c.leaves;
  active = c.active;
  donors = c.donors;
  model = c.model;
  share = share_at c n;
  row = row_at c n;
  waiting = (queue_at c n).len;
}

-- a view that a sound state can show
pub record CanDecide (n : ℕ) (v : View) : Type 0 where
  pub place : n < nodes_most
  pub model : SoundModel v.model
  pub fit : has v.active n ≡ true → FitRow v.share v.row

-- ---- the decision
-- "4. If the bio waited .."
unfoldable pub shares_after : Answer → ℕ → ℕ → Option Shares
shares_after answer donors n = cond (ends_donation answer && has donors n) (Some Return) None

-- "1. An inactive leaf becomes active ..": nothing is booked until it is
abbrev pub activates : Answer → View → Decision
activates answer v = record { answer = answer; shares = Some Activate; row = v.row; queue = None }

abbrev pub judged_at : Answer → Bio → Abs → ℕ → View → Decision
judged_at answer b cost n v = record {
  answer = answer;
  shares = shares_after answer v.donors n;
  row = booked_by answer b cost v.share v.row;
  queue = queueing answer cost;
}

-- what is the node's own of a view
abbrev pub own_in : ℕ → View → Own
own_in n v = own_of n v.leaves v.active v.model v.share v.row v.waiting

-- what is ruled on the bio, by which the question goes too, and what that does
unfoldable pub decided : Answered → Abs → Bio → ℕ → View → Result Decision Refusal
decided (Ok answer) cost b n v = Ok (cond (has v.active n) (judged_at answer b cost n v) (activates answer v))
decided (Err x) cost b n v = Err x

unfoldable pub decision_by : Ruling → Bio → ℕ → View → Result Decision Refusal
decision_by r b n v = decided r.answer r.cost b n v

unfoldable pub decision : Bio → ℕ → View → Result Decision Refusal
decision b n v = decision_by (ruling b (own_in n v)) b n v
