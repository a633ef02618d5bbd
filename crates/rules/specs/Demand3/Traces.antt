-- A trace's run is demand 3's run: from its start on, a replay goes through the states that the calls in the trace give, refused
-- ones too, so what is said of every list of calls is said of every trace replayed.
-- Assumes nothing.
use Rattle.std.specs.Prelude.{cond, Err, None, Ok, Some}
use mathlib.Core.List.{List, [], ◌∷◌, ◌++◌}
use Prim.Native.Nat.{ℕ, zero, suc}
use Rattle.rules.specs.Entries.{started}
use Rattle.rules.specs.Trace.{read_at}
use Rattle.rules.specs.Replay.{all_room, next_place, stepped}
use Rattle.rules.specs.Chunks.{call_of, is_call}
use Rattle.rules.specs.Ledger.{Call}
use Rattle.rules.specs.Demand3.Sentences.{run}
use Rattle.rules.specs.declared.cost.Rates.{Rates}
use Rattle.rules.specs.declared.tree.Tree.{Tree}
use Rattle.rules.specs.declared.budget.Controller.{Controller}
use Rattle.rules.specs.declared.trace.Record.TheVariants.{Node, Model as ModelOf, Start, Bio as BioOf, Tick, Plan, Vrate, Weight}
use Rattle.rules.specs.declared.replay.Replay.{Replay}
use Rattle.rules.specs.declared.replay.Setting.TheVariants.{Vrate as SetVrate, Weight as SetWeight}
use Rattle.rules.specs.Results.{Read}
use Rattle.rules.specs.declared.trace.Record.{Record}

-- ---- the calls that a trace holds: of the record that is read at a place, and from a place on, at most so many
unfoldable pub calls_by : Record → List Call
calls_by (Node p w) = []
calls_by (ModelOf r) = []
calls_by (Start time) = []
calls_by (BioOf b) = Call.submit b ∷ []
calls_by (Tick time) = Call.tick time all_room ∷ []
calls_by Plan = Call.plan ∷ []
calls_by (Vrate v) = Call.set (SetVrate v) ∷ []
calls_by (Weight n w) = Call.set (SetWeight n w) ∷ []

unfoldable pub calls_in : Read → List Call
calls_in (Ok (Some f)) = calls_by f.item
calls_in (Ok None) = []
calls_in (Err x) = []

-- behind a record that is no call there are none: the replay has stopped
unfoldable pub calls_from : ℕ → List ℕ → ℕ → List Call
calls_from zero trace place = []
calls_from (suc more) trace place =
    cond (is_call (call_of (read_at trace place))) (calls_in (read_at trace place) ++ calls_from more trace (next_place (read_at trace place) place)) []

-- ---- the replay after so many records from a place on
unfoldable pub replay_after : ℕ → List ℕ → ℕ → Replay → Replay
replay_after zero trace place s = s
replay_after (suc more) trace place s = replay_after more trace (next_place (read_at trace place) place) (stepped (read_at trace place) s).replay

-- ---- every state that a replay comes to is one of demand 3: calls upon a start. Before its own start that is a refused one's
pub data Reached : Controller → Type 0 where
  reached : (tree : Tree) (rates : Rates) (time : ℕ) (ks : List Call) → Reached (run ks (started tree rates time).state)
