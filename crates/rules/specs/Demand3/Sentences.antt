-- Demand 3 in the customer's sentences: over every finite list of calls, of any kind and with any arguments, from a fresh
-- start. The bound holds between any two moments; from the start on nothing is saved yet.
-- Assumes nothing.
use Rattle.std.specs.Prelude.{List, [], ◌∷◌, ℕ, ◌+◌}
use Rattle.rules.specs.Ledger.{Call, after}
use Rattle.rules.specs.declared.budget.Controller.{Controller}

-- the state after a list of calls
abbrev pub run : List Call → Controller → Controller
run [] c = c
run (k ∷ ks) c = run ks (after k c)

-- what a list of calls adds to a head: each call by the state that it comes upon
abbrev pub sum_of : (Call → Controller → ℕ) → List Call → Controller → ℕ
sum_of head [] c = 0
sum_of head (k ∷ ks) c = head k c + sum_of head ks (after k c)

-- ---- request Six: questions leave no trace. The same calls without them reach the same state, and add up to the same in every head
abbrev pub unasked : List Call → List Call
unasked [] = []
unasked (Call.submit b ∷ ks) = Call.submit b ∷ unasked ks
unasked (Call.ask b ∷ ks) = unasked ks
unasked (Call.tick time lent ∷ ks) = Call.tick time lent ∷ unasked ks
unasked (Call.plan ∷ ks) = Call.plan ∷ unasked ks
unasked (Call.set x ∷ ks) = Call.set x ∷ unasked ks
