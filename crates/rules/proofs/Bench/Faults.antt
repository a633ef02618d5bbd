-- Numbers of their own for what is wrong with a tree: which number, which node, what is looked at first, and the lines of it.
-- Assumes nothing.
use Rattle.std.specs.Prelude.{◌≡◌, refl, true, [], ◌∷◌}
use Rattle.rules.specs.declared.trace.Record.TheVariants.{Node, Model as ModelOf, Start}
use Rattle.rules.specs.Bench.{computed, rates_M}
use Rattle.rules.specs.Bench.Edges.{all_same}
use Rattle.rules.specs.Bench.Faults.{faults, setup}

pub faults_hold : all_same faults ≡ true
unfolding computed faults
faults_hold = refl

pub faults_in_traces :
    (setup (Node 2 0 ∷ Node 0 0 ∷ []) ≡ 82 ∷ 32 ∷ 50 ∷ 49 ∷ 32 ∷ 50 ∷ 10 ∷ [])
    × (setup (ModelOf (rates_M 50000) ∷ Node 1 300 ∷ Node 0 0 ∷ Start 0 ∷ []) ≡ 82 ∷ 32 ∷ 50 ∷ 50 ∷ 32 ∷ 51 ∷ 10 ∷ [])
    × (setup (Node 1 1 ∷ Node 2 1 ∷ Node 3 1 ∷ Node 4 1 ∷ Node 5 1 ∷ Node 6 1 ∷ Node 7 1 ∷ Node 8 1 ∷ Node 9 1 ∷ [])
    ≡ 82 ∷ 32 ∷ 50 ∷ 51 ∷ 32 ∷ 57 ∷ 10 ∷ [])
unfolding computed
faults_in_traces = (refl, refl, refl)
