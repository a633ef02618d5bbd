-- Tick.
-- Assumes nothing.
use Rattle.std.specs.Prelude.{cond, not, ◌&&◌, List, [], ◌∷◌, ◌++◌, ℕ, zero, suc, ◌+◌, ◌-◌, ◌*◌, ◌%◌, min, ltb, length, drop}
use Rattle.rules.specs.Numbers.{leaf_most, idle_cap}
use Rattle.rules.specs.Words.{sum_to, join_to, table, has}
use Rattle.rules.specs.Units.{abs, virt, floor_of, repayable}
use Rattle.rules.specs.Budget.{row_at, queue_at, share_at, with_clock, with_books, with_times, with_remainder, popped, oldest_id, oldest_cost, with_budget, with_debt, charged, owes, waits, fits}
use Rattle.rules.specs.declared.units.Abs.{Abs}
use Rattle.rules.specs.declared.units.Virt.{Virt}
use Rattle.rules.specs.declared.budget.Row.{Row}
use Rattle.rules.specs.declared.budget.Queue.{Queue}
use Rattle.rules.specs.declared.budget.Clock.{Clock}
use Rattle.rules.specs.declared.budget.Controller.{Controller}

-- ---- "With the new time, virtual time grows by .., and what is left over .." (DECISIONS 67)
-- what there is to share out, in hundredths
unfoldable pub hundredths : Clock → ℕ → ℕ
hundredths k time = (time - k.time) * k.vrate + k.remainder

unfoldable pub growth : Clock → ℕ → Virt
growth k time = virt (floor_of (hundredths k time) 100)

unfoldable pub left_over : Clock → ℕ → ℕ
left_over k time = hundredths k time % 100

unfoldable pub advanced : ℕ → Clock → Clock
advanced time k =
    with_remainder (left_over k time)
    (with_times time (virt (k.vtime.0 + (growth k time).0)) (virt (k.since.0 + (growth k time).0)) k)

-- ---- one active leaf
-- "the budget gains that amount"
abbrev pub gained : Virt → Row → Row
gained g r = with_budget (virt (r.budget.0 + g.0)) r

-- "if it owes, it repays p = .., and the budget falls by ..": of no debt, nothing
unfoldable pub repayment : ℕ → Row → Abs
repayment share r = abs (min r.debt.0 (repayable r.budget share).0)

unfoldable pub repaid : ℕ → Row → Row
repaid share r =
    cond (owes r)
    (with_debt (abs (r.debt.0 - (repayment share r).0)) (charged (repayment share r) share r))
    r

-- what a release leaves: the row, the queue, and the ids that went, in order
pub record Release : Type 0 where
  pub row : Row
  pub queue : Queue
  pub ids : List ℕ

abbrev pub no_release : Row → Queue → Release
no_release r q = record { row = r; queue = q; ids = [] }

abbrev pub and_first : ℕ → Release → Release
and_first id t = record { row = t.row; queue = t.queue; ids = id ∷ t.ids }

-- "waiting bios are released, ..": at most as many as wait, up to the first that does not fit (DECISIONS 18)
unfoldable pub release_in : ℕ → ℕ → Row → Queue → Release
release_in zero share r q = no_release r q
release_in (suc more) share r q =
    cond (fits (oldest_cost q) share r)
    (and_first (oldest_id q) (release_in more share (charged (oldest_cost q) share r) (popped q)))
    (no_release r q)

-- "if it now owes nothing, .."
unfoldable pub released : ℕ → Row → Queue → Release
released share r q = cond (owes r) (no_release r q) (release_in q.len share r q)

-- "last, if it owes nothing .."
unfoldable pub capped : Row → Queue → Row
capped r q = cond (not (owes r) && not (waits q) && ltb idle_cap r.budget.0) (with_budget (virt idle_cap) r) r

abbrev pub and_capped : Release → Release
and_capped t = record { row = capped t.row t.queue; queue = t.queue; ids = t.ids }

-- what a leaf's turn leaves: its row, its queue, what it repaid, and the ids that it released
pub record Turn : Type 0 where
  pub row : Row
  pub queue : Queue
  pub repaid : Abs
  pub ids : List ℕ

abbrev pub no_turn : Row → Queue → Turn
no_turn r q = record { row = r; queue = q; repaid = abs 0; ids = [] }

abbrev pub and_repaid : Abs → Release → Turn
and_repaid p t = record { row = t.row; queue = t.queue; repaid = p; ids = t.ids }

unfoldable pub turn : Virt → ℕ → Row → Queue → Turn
turn g share r q = and_repaid (repayment share (gained g r)) (and_capped (released share (repaid share (gained g r)) q))

-- ---- "Then for each active leaf, by rising number: .."
unfoldable pub turn_of : Virt → Controller → ℕ → Turn
turn_of g c n =
    cond (has c.active n)
    (turn g (share_at c n) (row_at c n) (queue_at c n))
    (no_turn (row_at c n) (queue_at c n))

-- "Released ids go .."
unfoldable pub releases : Virt → Controller → List ℕ
releases g c = join_to (λ n. (turn_of g c n).ids) leaf_most

-- "places behind the last stay"
unfoldable pub lent_after : List ℕ → List ℕ → List ℕ
lent_after ids lent = ids ++ drop (length ids) lent

unfoldable pub tick : ℕ → Controller → Controller
tick time c =
    with_clock (advanced time c.clock)
    (with_books
    (table (λ n. (turn_of (growth c.clock time) c n).row))
    (table (λ n. (turn_of (growth c.clock time) c n).queue))
    c)

-- the bios waiting over all leaves
unfoldable pub waiting_all : Controller → ℕ
waiting_all c = sum_to (λ n. (queue_at c n).len) leaf_most
