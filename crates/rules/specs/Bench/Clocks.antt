-- Numbers of their own for the clock: what is left over, when it is paid out, and who leaves it alone.
-- Assumes nothing.
use Rattle.std.specs.Prelude.{List, [], ◌∷◌, ◌++◌, ℕ, zero, suc, ◌-◌, ◌^◌}
use Rattle.rules.specs.Units.{abs, virt}
use Rattle.rules.specs.Budget.{fresh, row_at, queue_at, with_clock, with_remainder, put_leaf, with_budget, with_debt}
use Rattle.rules.specs.Tick.{advanced}
use Rattle.rules.specs.Refusals.{first_of, verdict_paper, count_paper, tick_checks, plan_checks}
use Rattle.rules.specs.Entries.{submitted, ticked, lent_of, planned, vrated, weighted}
use Rattle.rules.specs.Ledger.{Call, generated, exact}
use Rattle.rules.specs.declared.budget.Clock.{Clock}
use Rattle.rules.specs.declared.budget.Controller.{Controller}
use Rattle.rules.specs.declared.replay.Setting.TheVariants.{Vrate}
use Rattle.rules.specs.Bench.{M, bio, tree5, clock_at}
use Rattle.rules.specs.Bench.Edges.{Seen, see, leaf_numbers, heads, saved6, owes6}

-- a clock at time 0 with this vrate and this remainder
abbrev pub holds : ℕ → ℕ → Clock
holds vrate remainder = with_remainder remainder (clock_at 0 0 0 vrate)

-- virtual time, remainder and E
abbrev pub times : Clock → List ℕ
times k = k.vtime.0 ∷ k.remainder ∷ k.since.0 ∷ []

-- after a tick at each of these times
abbrev pub through : List ℕ → Clock → Clock
through [] k = k
through (time ∷ more) k = through more (advanced time k)

-- after a tick at each of the next nanoseconds
abbrev pub poll : ℕ → Clock → Clock
poll zero k = k
poll (suc more) k = poll more (advanced (suc k.time) k)

-- nobody is active; at vrate 50, with this virtual time, E and remainder
abbrev pub worn : ℕ → ℕ → ℕ → Controller
worn vtime since remainder = with_clock (with_remainder remainder (clock_at 0 vtime since 50)) (fresh tree5 M 0)

-- which refusal a tick at time 1 is due
abbrev pub due : Controller → ℕ
due c = (verdict_paper (first_of (tick_checks 1 0 c))).number

-- how a tick leaves the clock of `saved6`, which is at time 1000 with 37 left over, at vrate 99
abbrev pub left : ℕ → List ℕ
left time = times (ticked time [] (vrated 99 saved6).state).state.clock

-- leaf 1 waits for one that costs 24,588 at its share, and is one short of it; at this vrate
abbrev pub short : ℕ → Controller
short v = (vrated v (put_leaf 1 (with_debt (abs 0) (with_budget (virt 24587) (row_at owes6 1))) (queue_at owes6 1) owes6)).state

-- leaf 1 owes, and has saved 1, which repays nothing at its share
abbrev pub indebted : ℕ → Controller
indebted v = (vrated v (put_leaf 1 (with_budget (virt 1) (row_at owes6 1)) (queue_at owes6 1) owes6)).state

-- after a tick of 1 in one place: how many go, which, and the books of leaf 1
abbrev pub goes : Controller → List ℕ
goes c = (count_paper (ticked 1001 (9 ∷ []) c).answer).values ++ lent_of 1001 (9 ∷ []) c ++ leaf_numbers (ticked 1001 (9 ∷ []) c).state 1

unfoldable pub clocks : List Seen
clocks =
    -- two ticks of 7 at vrate 50 are one of 14
    see (times (through (7 ∷ []) (holds 50 0)) ++ times (through (7 ∷ 14 ∷ []) (holds 50 0))) (3 ∷ 50 ∷ 3 ∷ 7 ∷ 0 ∷ 7 ∷ [])
    ∷ see (times (through (14 ∷ []) (holds 50 0))) (7 ∷ 0 ∷ 7 ∷ [])
    -- below 100 nothing is paid out, and at 100 all of it is
    ∷ see (times (through (1 ∷ []) (holds 1 98)) ++ times (through (1 ∷ []) (holds 1 99))) (0 ∷ 99 ∷ 0 ∷ 1 ∷ 0 ∷ 1 ∷ [])
    ∷ see (times (through (1 ∷ []) (holds 99 99)) ++ times (through (3 ∷ []) (holds 399 3))) (1 ∷ 98 ∷ 1 ∷ 12 ∷ 0 ∷ 12 ∷ [])
    -- a hundred ticks of 1 at vrate 1, and at 101
    ∷ see (times (poll 99 (holds 1 0)) ++ times (poll 100 (holds 1 0))) (0 ∷ 99 ∷ 0 ∷ 1 ∷ 0 ∷ 1 ∷ [])
    ∷ see (times (poll 99 (holds 101 0)) ++ times (poll 100 (holds 101 0))) (99 ∷ 99 ∷ 99 ∷ 101 ∷ 0 ∷ 101 ∷ [])
    -- a tick without elapsed time
    ∷ see (times (through (0 ∷ 0 ∷ []) (holds 400 99))) (0 ∷ 99 ∷ 0 ∷ [])
    -- 11 and 12 by the growth with what was left over: one hundredth less, and neither is due
    ∷ see (due (worn (2 ^ 60) 0 49) ∷ due (worn (2 ^ 60) 0 50) ∷ due (worn (2 ^ 60 - 1) 0 50) ∷ []) (0 ∷ 11 ∷ 0 ∷ [])
    ∷ see (due (worn 0 (2 ^ 33) 49) ∷ due (worn 0 (2 ^ 33) 50) ∷ due (worn 0 (2 ^ 33 - 1) 50) ∷ []) (0 ∷ 12 ∷ 0 ∷ [])
    -- a refused tick does not touch it: the time goes back, or too far, 11, 12, and too few places for one that waits
    ∷ see (left 999 ++ left 1000001001) (70000 ∷ 37 ∷ 50000 ∷ 70000 ∷ 37 ∷ 50000 ∷ [])
    ∷ see (times (ticked 1 [] (worn (2 ^ 60) 0 50)).state.clock) (2 ^ 60 ∷ 50 ∷ 0 ∷ [])
    ∷ see (times (ticked 1 [] (worn 0 (2 ^ 33) 50)).state.clock) (0 ∷ 50 ∷ 2 ^ 33 ∷ [])
    ∷ see (times (ticked 1001 [] (vrated 99 owes6).state).state.clock) (70000 ∷ 37 ∷ 50000 ∷ [])
    -- a vrate keeps it, refused or not, and what is left over counts at the new one: 37 + 99 x 1, 37 + 400 x 1
    ∷ see (times (vrated 99 saved6).state.clock ++ times (vrated 401 saved6).state.clock) (70000 ∷ 37 ∷ 50000 ∷ 70000 ∷ 37 ∷ 50000 ∷ [])
    ∷ see (times (ticked 1001 [] (vrated 99 saved6).state).state.clock) (70001 ∷ 36 ∷ 50001 ∷ [])
    ∷ see (times (ticked 1001 [] (vrated 400 saved6).state).state.clock) (70004 ∷ 37 ∷ 50004 ∷ [])
    -- so do a plan and a weight, accepted; refused, as nothing has passed, which is by E alone, and as the root has no weight
    ∷ see (times (planned saved6).state.clock ++ times (planned (worn 5 0 50)).state.clock) (70000 ∷ 37 ∷ 0 ∷ 5 ∷ 50 ∷ 0 ∷ [])
    ∷ see (times (weighted 1 300 saved6).state.clock ++ times (weighted 0 300 saved6).state.clock) (70000 ∷ 37 ∷ 50000 ∷ 70000 ∷ 37 ∷ 50000 ∷ [])
    ∷ see ((verdict_paper (first_of (plan_checks (worn 5 0 50)))).number ∷ []) (14 ∷ [])
    -- and a bio, issued, or refused for its bytes
    ∷ see (times (submitted (bio 1 0 4096) saved6).state.clock ++ times (submitted (bio 1 0 513) saved6).state.clock) (70000 ∷ 37 ∷ 50000 ∷ 70000 ∷ 37 ∷ 50000 ∷ [])
    -- what a tick generates and what it is exactly, in hundredths: the remainder is no part of the latter; refused, nothing
    ∷ see (generated (Call.tick 1 []) (worn 0 0 50) ∷ exact (Call.tick 1 []) (worn 0 0 50) ∷ []) (1 ∷ 50 ∷ [])
    ∷ see (generated (Call.tick 1 []) (worn 0 (2 ^ 33) 50) ∷ exact (Call.tick 1 []) (worn 0 (2 ^ 33) 50) ∷ []) (0 ∷ 0 ∷ [])
    ∷ see (exact (Call.tick 1007 []) saved6 ∷ exact (Call.submit (bio 1 0 4096)) saved6 ∷ exact Call.plan saved6 ∷ exact (Call.set (Vrate 50)) saved6 ∷ [])
    (1400 ∷ 0 ∷ 0 ∷ 0 ∷ [])
    -- the budget of each active leaf gains that same growth
    ∷ see (leaf_numbers (ticked 1001 [] (vrated 63 saved6).state).state 1) (873741824 ∷ 400001 ∷ 0 ∷ 7 ∷ 40 ∷ 1 ∷ 0 ∷ 7 ∷ 0 ∷ [])
    ∷ see (leaf_numbers (ticked 1001 [] (vrated 62 saved6).state).state 1) (873741824 ∷ 400000 ∷ 0 ∷ 7 ∷ 40 ∷ 1 ∷ 0 ∷ 7 ∷ 0 ∷ [])
    -- so a bio goes, or a debt is repaid, by the nanosecond that was left over
    ∷ see (goes (short 62)) (0 ∷ 9 ∷ 873741824 ∷ 24587 ∷ 0 ∷ 7 ∷ 40 ∷ 1 ∷ 0 ∷ 7 ∷ 1 ∷ [])
    ∷ see (goes (short 63)) (1 ∷ 8 ∷ 873741824 ∷ 0 ∷ 0 ∷ 20015 ∷ 40 ∷ 1 ∷ 0 ∷ 0 ∷ 0 ∷ [])
    ∷ see (heads (Call.tick 1001 (9 ∷ [])) (short 63) 1) (0 ∷ 0 ∷ 20008 ∷ 0 ∷ 0 ∷ 1 ∷ [])
    ∷ see (heads (Call.tick 1001 (9 ∷ [])) (indebted 63) 1) (0 ∷ 0 ∷ 0 ∷ 1 ∷ 0 ∷ 1 ∷ [])
    ∷ []
