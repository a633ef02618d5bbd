-- What each step on one leaf asks of its callers, so that every number fits 64 bits, and that the state's invariant gives it.
-- Assumes nothing.
use Rattle.std.specs.Prelude.{◌≡◌, true, ℕ, ◌+◌, ◌*◌, ◌^◌, ◌≤◌, ◌<◌, Ok}
use Rattle.std.proofs.Common.{add-mul, mul-le-mul_left, arith, leb-true}
use Rattle.rules.specs.Numbers.{whole, queue_room, share_floor, cost_most, debt_most, elapsed_most}
use Rattle.rules.specs.Units.{relative}
use Rattle.rules.specs.Budget.{row_at, queue_at, share_at, fits}
use Rattle.rules.specs.Tick.{gained, repayment, repaid}
use Rattle.rules.proofs.Laws.Rows.{repayment_most, repayment_within, repayment_is_affordable, repaid_pays}
use Rattle.rules.specs.Words.{has}
use Rattle.rules.specs.Invariant.{Sound, SoundRow, SoundQueue, worth_most}
use Rattle.rules.proofs.Laws.States.{active_pos, active_most, share_most, usage_small_at}
use Rattle.rules.specs.declared.units.Abs.{Abs}
use Rattle.rules.specs.declared.units.Virt.{Virt}
use Rattle.rules.specs.declared.budget.Row.{Row}
use Rattle.rules.specs.declared.budget.Queue.{Queue}
use Rattle.rules.specs.declared.budget.Controller.{Controller}
use Rattle.rules.specs.Results.{Answered}
use Rattle.rules.specs.declared.refusals.Answer.TheVariants.{Issued, Waits}

-- the most that an active leaf was charged since the last plan, as the sum over all leaves allows it
abbrev pub usage_most : ℕ
usage_most = 2 ^ 38

-- a share that an active leaf holds
pub record Held (share : ℕ) : Type 0 where
  pub least : share_floor ≤ share
  pub most : share ≤ whole

-- an active leaf's row between two calls
pub record FitRow (share : ℕ) (row : Row) : Type 0 where
  pub held : Held share
  pub sound : SoundRow row
  pub worth : row.budget.0 * share ≤ worth_most
  pub usage : row.usage.0 ≤ usage_most

-- the same with its queue
pub record Fit (share : ℕ) (row : Row) (queue : Queue) : Type 0 where
  pub books : FitRow share row
  pub waiting : SoundQueue queue

-- a cost that has a relative cost at a share
pub record Priced (cost : Abs) (share : ℕ) : Type 0 where
  pub some : 0 < share
  pub room : cost.0 * whole + share ≤ 2 ^ 64

-- a cost that a row can be charged
pub record Payable (cost : Abs) (share : ℕ) (row : Row) : Type 0 where
  pub priced : Priced cost share
  pub fits : (relative cost share).0 ≤ row.budget.0
  pub usage : row.usage.0 + cost.0 < 2 ^ 64

-- a row that can take an answer to a bio of this cost: only what fits is issued, and nothing is asked of a refusal
pub record CanTake (answer : Answered) (cost : Abs) (share : ℕ) (row : Row) : Type 0 where
  pub books : FitRow share row
  pub cheap : cost.0 ≤ cost_most
  pub fitting : answer ≡ Ok Issued → fits cost share row ≡ true

-- a queue that can take an answer: there is room for one that waits
pub record HasRoom (answer : Answered) (queue : Queue) : Type 0 where
  pub sound : SoundQueue queue
  pub room : answer ≡ Ok Waits → queue.len < queue_room

-- a row that has gained and can repay
pub record CanRepay (share : ℕ) (row : Row) : Type 0 where
  pub held : Held share
  pub worth : row.budget.0 * share < 2 ^ 63
  pub debt : row.debt.0 ≤ debt_most
  pub usage : row.usage.0 ≤ usage_most

-- a row that has repaid and can release what waits in its queue
pub record CanRelease (share : ℕ) (row : Row) (queue : Queue) : Type 0 where
  pub held : Held share
  pub waiting : SoundQueue queue
  pub usage : row.usage.0 + queue.len * cost_most ≤ 2 ^ 41

-- ---- what gives what
module _ {cost : Abs} {share : ℕ} where
  pub cheap_is_priced : Held share → cost.0 ≤ cost_most → Priced cost share
  cheap_is_priced held cheap = record { some = omega arith; room = omega arith }

  pub fitting_is_payable : {row : Row} → Held share → cost.0 ≤ cost_most → row.usage.0 < 2 ^ 63 → fits cost share row ≡ true → Payable cost share row
  fitting_is_payable {row} held cheap usage fit = record {
    priced = cheap_is_priced held cheap;
    fits = leb-true (relative cost share).0 row.budget.0 fit;
    usage = omega arith;
  }

  pub issued_is_payable : {answer : Answered} {row : Row} → CanTake answer cost share row → answer ≡ Ok Issued → Payable cost share row
  issued_is_payable takes issued =
      fitting_is_payable takes.books.held takes.cheap (omega arith) (takes.fitting issued)

pub repayment_is_payable : {share : ℕ} {row : Row} → CanRepay share row → Payable (repayment share row) share row
repayment_is_payable {share} {row} repays =
    let within : (repayment share row).0 * whole ≤ row.budget.0 * share = repayment_within share row in
    let owed : (repayment share row).0 ≤ row.debt.0 = repayment_most share row in
    record {
      priced = record { some = omega arith; room = omega arith };
      fits = repayment_is_affordable share row (omega arith);
      usage = omega arith;
    }

-- what a tick generates at most: 10^9 nanoseconds at a vrate of 400
abbrev pub gain_most : ℕ
gain_most = 4 * elapsed_most

module _ {share : ℕ} {row : Row} (books : FitRow share row) (gain : Virt) (small : gain.0 ≤ gain_most) where
  -- the worth of what is gained, with the share taken out
  gained_worth : (row.budget.0 + gain.0) * share < 2 ^ 63
  gained_worth =
      let most : gain.0 * share ≤ gain.0 * whole = mul-le-mul_left gain.0 books.held.most in
      rw (add-mul row.budget.0 gain.0 share) (omega (arith, books.worth))

  pub gain_fits : row.budget.0 + gain.0 < 2 ^ 64
  gain_fits =
      let more : (row.budget.0 + gain.0) * share_floor ≤ (row.budget.0 + gain.0) * share =
      mul-le-mul_left (row.budget.0 + gain.0) books.held.least in
      omega (arith, gained_worth)

  pub gained_can_repay : CanRepay share (gained gain row)
  gained_can_repay =
      record { held = books.held; worth = gained_worth; debt = books.sound.debt_at_most; usage = books.usage }

pub repaid_can_release : {share : ℕ} {row : Row} {queue : Queue} → CanRepay share row → SoundQueue queue → CanRelease share (repaid share row) queue
repaid_can_release {share} {row} {queue} repays waiting = record {
  held = repays.held;
  waiting = waiting;
  usage = omega (arith, (repaid_pays share row (omega arith)).usage, repayment_most share row, waiting.len_most);
}

-- ---- the invariant gives it all: an active leaf of a sound state is fit
pub active_is_fit : {c : Controller} → Sound c → (n : ℕ) → has c.active n ≡ true → Fit (share_at c n) (row_at c n) (queue_at c n)
active_is_fit {c} sound n active = record {
  books = record {
    held = record { least = sound.share_at_floor n active; most = share_most sound n };
    sound = sound.row n;
    worth = sound.worth_at_most n;
    usage = usage_small_at sound n (active_pos sound n active) (active_most sound n active);
  };
  waiting = sound.queue n;
}
