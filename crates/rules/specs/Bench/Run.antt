-- A run: calls from a fresh start with answers of every kind, so that a promise about sound states is no empty one.
-- Assumes nothing.
use Rattle.std.specs.Prelude.{List, [], ◌∷◌, ◌++◌, ℕ, ◌-◌, replicate, take, Err, Ok}
use Rattle.rules.specs.Numbers.{nodes_most}
use Rattle.rules.specs.Units.{virt}
use Rattle.rules.specs.Budget.{row_at, share_at, with_clock, with_times}
use Rattle.rules.specs.Question.{question}
use Rattle.rules.specs.Entries.{started, submitted, ticked, lent_of, planned, set_by}
use Rattle.rules.specs.Ledger.{Call, after}
use Rattle.rules.specs.declared.cost.Rates.{Rates}
use Rattle.rules.specs.declared.tree.Tree.{Tree}
use Rattle.rules.specs.declared.tree.Fault.TheVariants.{Weight}
use Rattle.rules.specs.declared.budget.Controller.{Controller}
use Rattle.rules.specs.declared.replay.Setting.TheVariants.{Vrate as SetVrate, Weight as SetWeight}
use Rattle.rules.specs.declared.refusals.Answer.TheVariants.{Issued, Waits, OnDebt}
use Rattle.rules.specs.declared.refusals.Refusal.TheVariants.{NoLeaf, BadBio, TooDear, QueueFull, DebtFull, TimeBack, TimeFar, PlanDue, FewPlaces, NothingPassed, BadVrate, BadTree, NotBelowRoot}
use Rattle.rules.specs.Results.{Count, Verdict, Answered}

-- ---- each call with what it answers. Every state of the run is sound (`bench_run_is_sound` in Demand3/Sentences)
pub data Reply : Type 0 where
  to_bio : Answered → Reply
  to_tick : Count → List ℕ → Reply
  to_other : Verdict → Reply

pub record Move : Type 0 where
  pub call : Call
  pub want : Reply

-- what a call answers, a tick with its buffer
abbrev pub reply : Call → Controller → Reply
reply (Call.submit b) c = to_bio (submitted b c).answer
reply (Call.ask b) c = to_bio (question b c)
reply (Call.tick time lent) c = to_tick (ticked time lent c).answer (lent_of time lent c)
reply Call.plan c = to_other (planned c).answer
reply (Call.set x) c = to_other (set_by x c).answer

abbrev pub replies : List Move → Controller → List Reply
replies [] c = []
replies (m ∷ ms) c = reply m.call c ∷ replies ms (after m.call c)

abbrev pub wants : List Move → List Reply
wants [] = []
wants (m ∷ ms) = m.want ∷ wants ms

-- the state that a run leaves
abbrev pub left : List Move → Controller → Controller
left [] c = c
left (m ∷ ms) c = left ms (after m.call c)

-- a bio of node, flags, id, sector and bytes; a tick to a time with so many places, each of which has 0
abbrev pub send : ℕ → ℕ → ℕ → ℕ → ℕ → Answered → Move
send node flags id sector bytes answer = record {
  call = Call.submit (record { node = node; flags = flags; id = id; sector = sector; bytes = bytes });
  want = to_bio answer;
}

abbrev pub tick_to : ℕ → ℕ → Count → List ℕ → Move
tick_to time places answer lent = record { call = Call.tick time (replicate places 0); want = to_tick answer lent }

abbrev pub plans : Verdict → Move
plans answer = record { call = Call.plan; want = to_other answer }

abbrev pub rate : ℕ → Verdict → Move
rate v answer = record { call = Call.set (SetVrate v); want = to_other answer }

abbrev pub weigh : ℕ → ℕ → Verdict → Move
weigh n w answer = record { call = Call.set (SetWeight n w); want = to_other answer }

-- the tree of B5 in the arrays of the code, and M with the slowest writes, a page of which costs a second
abbrev pub run_tree : Tree
run_tree = record { count = 3; parents = replicate nodes_most 0; weights = 0 ∷ 100 ∷ 300 ∷ replicate (nodes_most - 3) 0 }

abbrev pub run_rates : Rates
run_rates = record { rbps = 409600000; rseqiops = 50000; rrandiops = 10000; wbps = 4096; wseqiops = 1; wrandiops = 1 }

unfoldable pub begun : Controller
begun = (started run_tree run_rates 0).state

unfoldable pub moves : List Move
moves =
    -- nothing has passed and nobody is active yet; a write of three pages is too dear
    plans (Err NothingPassed)
    ∷ rate 0 (Err BadVrate)
    ∷ send 0 0 1 0 4096 (Err NoLeaf)
    ∷ send 1 0 2 0 0 (Err BadBio)
    ∷ send 1 1 3 0 12288 (Err TooDear)
    -- both leaves wake, wait and are released; the times between are refused
    ∷ send 1 0 4 0 4096 (Ok Waits)
    ∷ tick_to 100000 1 (Ok 1) (4 ∷ [])
    ∷ send 2 0 5 0 4096 (Ok Waits)
    ∷ tick_to 100000 0 (Err FewPlaces) []
    ∷ tick_to 99999 1 (Err TimeBack) (0 ∷ [])
    ∷ tick_to 1000100001 1 (Err TimeFar) (0 ∷ [])
    ∷ tick_to 499999 2 (Ok 1) (5 ∷ 0 ∷ [])
    -- B9: a debt that a tick of 0 repays but for 1, and a tick of 1 clears
    ∷ send 1 2 6 100000 4096 (Ok OnDebt)
    ∷ tick_to 499999 0 (Ok 0) []
    ∷ tick_to 500000 0 (Ok 0) []
    ∷ send 2 0 7 8 4096 (Ok Issued)
    -- a full queue; the plan makes the other leaf a donor, which then waits
    ∷ send 1 0 8 0 4096 (Ok Waits)
    ∷ send 1 0 9 0 4096 (Ok Waits)
    ∷ send 1 0 10 0 4096 (Ok Waits)
    ∷ send 1 0 11 0 4096 (Ok Waits)
    ∷ send 1 0 12 0 4096 (Ok Waits)
    ∷ send 1 0 13 0 4096 (Ok Waits)
    ∷ send 1 0 14 0 4096 (Ok Waits)
    ∷ send 1 0 15 0 4096 (Ok Waits)
    ∷ send 1 0 16 0 4096 (Err QueueFull)
    ∷ plans (Ok tt)
    ∷ send 2 0 17 0 1048576 (Ok Waits)
    -- four times as fast: all are released, by rising leaf, and a third second is too much for E
    ∷ rate 400 (Ok tt)
    ∷ tick_to 1000500000 10 (Ok 9) (8 ∷ 9 ∷ 10 ∷ 11 ∷ 12 ∷ 13 ∷ 14 ∷ 15 ∷ 17 ∷ 0 ∷ [])
    ∷ tick_to 2000500000 0 (Ok 0) []
    ∷ tick_to 3000500000 0 (Err PlanDue) []
    -- debt up to its limit, of which a quiet plan forgives half and a busy one nothing; the donor falls silent
    ∷ replicate 549 (send 1 3 18 0 8192 (Ok OnDebt))
    ++ (send 1 3 18 0 8192 (Err DebtFull)
    ∷ plans (Ok tt)
    ∷ tick_to 2000500001 0 (Ok 0) []
    ∷ plans (Ok tt)
    ∷ tick_to 2000500002 0 (Ok 0) []
    ∷ [])

-- what stands after the first k moves: the donation of the first plan, its end, the second plan, and what the run leaves
abbrev pub up_to : ℕ → Controller
up_to k = left (take k moves) begun

-- the active leaves, the donors, and of the leaves 1 and 2 share, budget and debt
abbrev pub seen : Controller → List ℕ
seen c =
    c.active ∷ c.donors
    ∷ share_at c 1 ∷ (row_at c 1).budget.0 ∷ (row_at c 1).debt.0
    ∷ share_at c 2 ∷ (row_at c 2).budget.0 ∷ (row_at c 2).debt.0
    ∷ []

-- ---- weights, where the donation of the first plan stands: refused ones leave it, and an accepted one ends it
unfoldable pub weights : List Move
weights =
    weigh 0 100 (Err NotBelowRoot)
    ∷ weigh 3 0 (Err NotBelowRoot)
    ∷ weigh 2 0 (Err (BadTree (Weight 2)))
    ∷ weigh 2 100 (Ok tt)
    ∷ []

abbrev pub weights_up_to : ℕ → Controller
weights_up_to k = left (take k weights) (up_to 26)

-- 11: a state at another virtual time, which the ticks of no list of a bearable length bring about
abbrev pub aged : ℕ → Controller → Controller
aged vtime c = with_clock (with_times c.clock.time (virt vtime) c.clock.since c.clock) c
