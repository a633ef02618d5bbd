-- The ledger's heads: what a call adds to each, by its answer and the state that it came upon. No head is a field of the
-- state; a refused call adds nothing.
-- Assumes nothing.
use Rattle.std.specs.Prelude.{cond, List, ℕ, zero, suc, ◌+◌, ◌-◌, ◌*◌, ◌%◌, eqb, length, get_or, Err, Ok}
use Rattle.rules.specs.Numbers.{queue_room, leaf_most}
use Rattle.rules.specs.Words.{sum_to, table_from}
use Rattle.rules.specs.Units.{abs}
use Rattle.rules.specs.Cost.{cost_of}
use Rattle.rules.specs.Budget.{row_at, queue_at, share_at}
use Rattle.rules.specs.Tick.{growth, turn_of}
use Rattle.rules.specs.Plan.{quiet_in, forgiveness}
use Rattle.rules.specs.Refusals.{first_of, tick_checks, plan_checks}
use Rattle.rules.specs.Entries.{submitted, ticked, planned, set_by}
use Rattle.rules.specs.declared.units.Virt.{Virt}
use Rattle.rules.specs.declared.cost.Bio.{Bio}
use Rattle.rules.specs.declared.budget.Queue.{Queue}
use Rattle.rules.specs.declared.budget.Controller.{Controller}
use Rattle.rules.specs.declared.replay.Setting.{Setting}
use Rattle.rules.specs.declared.refusals.Answer.TheVariants.{Issued, Waits, OnDebt}
use Rattle.rules.specs.Results.{Answered, Verdict}

-- ---- the calls, with any arguments; a tick has the contents of the buffer that it is lent
pub data Call : Type 0 where
  submit : Bio → Call
  ask : Bio → Call
  tick : ℕ → List ℕ → Call
  plan : Call
  set : Setting → Call

-- the state that a call leaves: what the entries' contracts say; a question is lent it and hands none back
abbrev pub after : Call → Controller → Controller
after (submit b) c = (submitted b c).state
after (ask b) c = c
after (tick time lent) c = (ticked time lent c).state
after plan c = (planned c).state
after (set x) c = (set_by x c).state

-- ---- what a leaf waits for: the cost of the bio in place i of its queue, and of the first k
unfoldable pub cost_waiting : Queue → ℕ → ℕ
cost_waiting q i = (get_or q.costs ((q.head + i) % queue_room) (abs 0)).0

unfoldable pub cost_of_first : Queue → ℕ → ℕ
cost_of_first q zero = 0
cost_of_first q (suc k) = cost_of_first q k + cost_waiting q k

-- and its id; and those of the first k, oldest first
unfoldable pub id_waiting : Queue → ℕ → ℕ
id_waiting q i = get_or q.ids ((q.head + i) % queue_room) 0

unfoldable pub ids_of_first : Queue → ℕ → List ℕ
ids_of_first q k = table_from (id_waiting q) 0 k

abbrev pub waiting : Controller → ℕ → ℕ
waiting c n = cost_of_first (queue_at c n) (queue_at c n).len

abbrev pub owed : Controller → ℕ → ℕ
owed c n = (row_at c n).debt.0

-- ---- a submission: by its answer
abbrev pub if_taken : Answered → ℕ → ℕ
if_taken (Ok Issued) cost = cost
if_taken (Ok Waits) cost = cost
if_taken (Ok OnDebt) cost = cost
if_taken (Err x) cost = 0

abbrev pub if_issued : Answered → ℕ → ℕ
if_issued (Ok Issued) cost = cost
if_issued (Ok Waits) cost = 0
if_issued (Ok OnDebt) cost = 0
if_issued (Err x) cost = 0

abbrev pub if_waits : Answered → ℕ → ℕ
if_waits (Ok Issued) cost = 0
if_waits (Ok Waits) cost = cost
if_waits (Ok OnDebt) cost = 0
if_waits (Err x) cost = 0

abbrev pub if_on_debt : Answered → ℕ → ℕ
if_on_debt (Ok Issued) cost = 0
if_on_debt (Ok Waits) cost = 0
if_on_debt (Ok OnDebt) cost = cost
if_on_debt (Err x) cost = 0

-- the bio's cost, if it is of leaf n
unfoldable pub cost_on : ℕ → Bio → Controller → ℕ
cost_on n b c = cond (eqb b.node n) (cost_of c.model (row_at c n) b).0 0

-- ---- a tick and a plan: if accepted
abbrev pub if_accepted : Verdict → ℕ → ℕ
if_accepted (Ok tt) x = x
if_accepted (Err r) x = 0

-- the cost of the bios that leaf n releases: they are the first of its queue, as many as it has ids for
unfoldable pub released_at : Virt → Controller → ℕ → ℕ
released_at g c n = cost_of_first (queue_at c n) (length (turn_of g c n).ids)

unfoldable pub repaid_at : Virt → Controller → ℕ → ℕ
repaid_at g c n = (turn_of g c n).repaid.0

unfoldable pub forgiven_at : Controller → ℕ → ℕ
forgiven_at c n = (forgiveness (quiet_in c) (row_at c n).debt).0

-- ---- the heads of one call
unfoldable pub accepted : Call → Controller → ℕ → ℕ
accepted (submit b) c n = if_taken (submitted b c).answer (cost_on n b c)
accepted (ask b) c n = 0
accepted (tick time lent) c n = 0
accepted plan c n = 0
accepted (set x) c n = 0

unfoldable pub issued : Call → Controller → ℕ → ℕ
issued (submit b) c n = if_issued (submitted b c).answer (cost_on n b c)
issued (ask b) c n = 0
issued (tick time lent) c n = 0
issued plan c n = 0
issued (set x) c n = 0

unfoldable pub released : Call → Controller → ℕ → ℕ
released (submit b) c n = 0
released (ask b) c n = 0
released (tick time lent) c n = if_accepted (first_of (tick_checks time (length lent) c)) (released_at (growth c.clock time) c n)
released plan c n = 0
released (set x) c n = 0

unfoldable pub repaid : Call → Controller → ℕ → ℕ
repaid (submit b) c n = 0
repaid (ask b) c n = 0
repaid (tick time lent) c n = if_accepted (first_of (tick_checks time (length lent) c)) (repaid_at (growth c.clock time) c n)
repaid plan c n = 0
repaid (set x) c n = 0

unfoldable pub forgiven : Call → Controller → ℕ → ℕ
forgiven (submit b) c n = 0
forgiven (ask b) c n = 0
forgiven (tick time lent) c n = 0
forgiven plan c n = if_accepted (first_of (plan_checks c)) (forgiven_at c n)
forgiven (set x) c n = 0

unfoldable pub generated : Call → Controller → ℕ
generated (submit b) c = 0
generated (ask b) c = 0
generated (tick time lent) c = if_accepted (first_of (tick_checks time (length lent) c)) (growth c.clock time).0
generated plan c = 0
generated (set x) c = 0

-- the same in hundredths with nothing rounded: elapsed x vrate (DECISIONS 68)
unfoldable pub exact : Call → Controller → ℕ
exact (submit b) c = 0
exact (ask b) c = 0
exact (tick time lent) c = if_accepted (first_of (tick_checks time (length lent) c)) ((time - c.clock.time) * c.clock.vrate)
exact plan c = 0
exact (set x) c = 0

-- ---- what a call charges, and what all leaves have saved, in WHOLEths
unfoldable pub charged : Call → Controller → ℕ
charged k c = sum_to (λ n. issued k c n + released k c n + repaid k c n) leaf_most

unfoldable pub saved : Controller → ℕ
saved c = sum_to (λ n. (row_at c n).budget.0 * share_at c n) leaf_most
