-- A trace's run is demand 3's run: from its start on, a replay goes through the states that the calls in the trace give, refused
-- ones too, so what is said of every list of calls is said of every trace replayed.
-- Assumes nothing.
use Rattle.std.specs.Prelude.{◌≡◌, true, false, cond, Err, None, Ok, Some}
use Rattle.std.proofs.Math.Path.{refl, ap}
use Rattle.std.proofs.Common.{subst, ◌∙◌}
use mathlib.Core.List.{List, [], ◌∷◌, ◌++◌}
use Prim.Native.Nat.{ℕ, zero, suc, ◌≤◌}
use Rattle.rules.specs.Tree.{count_in_range, tree_fault}
use Rattle.rules.specs.Refusals.{first_of, tree_checks, node_checks, rate_checks, start_checks}
use Rattle.rules.specs.Entries.{no_tree, slowest, started, started_by}
use Rattle.rules.specs.Trace.{kind_of, read_at}
use Rattle.rules.specs.Replay.{Step, silent, stops_at, Called, bio_call, tick_call, plan_call, set_call, goes_on, in_phase, is_stopped, all_room, beginning, grown, node_step, model_step, start_step, record_step, read_step, next_place, stepped}
use Rattle.rules.specs.Chunks.{call_by, call_of, is_call}
use Rattle.rules.specs.Ledger.{Call, after, generated, charged}
use Rattle.rules.specs.Demand3.Sentences.{run, sum_of}
use Rattle.rules.proofs.Demand3.Sentences.{never_overspent}
use Rattle.rules.specs.Invariant.{SoundTree, Playing}
use Rattle.rules.proofs.Laws.Replays.{beginning_plays, step_keeps, stepped_plays, unread_stops, out_of_phase_stops, in_phase_is_carried_out}
use Rattle.rules.proofs.Laws.Nodes.{beginning_nodes, step_keeps_nodes}
use Rattle.rules.specs.declared.cost.Rates.{Rates}
use Rattle.rules.specs.declared.tree.Tree.{Tree}
use Rattle.rules.specs.declared.budget.Controller.{Controller}
use Rattle.rules.specs.declared.refusals.Refusal.{Refusal}
use Rattle.rules.specs.declared.refusals.Refusal.TheVariants.{WrongPhase}
use Rattle.rules.specs.declared.trace.Record.{Record}
use Rattle.rules.specs.declared.trace.Record.TheVariants.{Node, Model as ModelOf, Start, Bio as BioOf, Tick, Plan, Vrate, Weight}
use Rattle.rules.specs.declared.replay.Phase.{Phase}
use Rattle.rules.specs.declared.replay.Phase.TheVariants.{Priced, Running, Stopped}
use Rattle.rules.specs.declared.replay.Replay.{Replay}
use Rattle.rules.specs.declared.replay.Setting.TheVariants.{Vrate as SetVrate, Weight as SetWeight}
use Rattle.rules.specs.Demand3.Traces.{Reached, calls_from, calls_by, calls_in, reached, replay_after}
use Rattle.rules.specs.Results.{Verdict, Read, found}

module _ (trace : List ℕ) where
  stopped_stays : (n place : ℕ) (s : Replay) → s.phase ≡ Stopped → replay_after n trace place s ≡ s
  unfolding replay_after stepped
  stopped_stays zero place s e = refl
  stopped_stays (suc n) place s e =
      let still : (stepped (read_at trace place) s).replay ≡ s = ap (λ (p : Phase). (cond (is_stopped p) (silent s) (read_step (read_at trace place) s)).replay) e in
      ap (replay_after n trace (next_place (read_at trace place) place)) still ∙ stopped_stays n (next_place (read_at trace place) place) s e

  -- at the end there is none, and the replay stays
  none_at_the_end : (n place : ℕ) → read_at trace place ≡ Ok None → calls_from n trace place ≡ []
  unfolding calls_from call_of is_call
  none_at_the_end zero place h = refl
  none_at_the_end (suc n) place h = rw h

  the_end_stays : (s : Replay) → s.phase ≡ Running → (stepped (Ok None) s).replay ≡ s
  unfolding stepped read_step
  the_end_stays s e = ap (λ (p : Phase). (cond (is_stopped p) (silent s) (silent s)).replay) e

  -- what cannot be read or is out of its phase stops the replay, whose state stays
  stops : (n place : ℕ) (x : Refusal) (s : Replay) (step : Step) → step ≡ stops_at x s → (replay_after n trace place step.replay).state ≡ s.state
  stops n place x s step e =
      ap (λ (t : Step). (replay_after n trace place t.replay).state) e ∙ ap (λ (t : Replay). t.state) (stopped_stays n place _ refl)

  module _ (n place : ℕ) (s : Replay) (e : s.phase ≡ Running)
      (on : (at : ℕ) (t : Replay) → t.phase ≡ Running → (replay_after n trace at t).state ≡ run (calls_from n trace at) t.state) where
    awake : is_stopped s.phase ≡ false
    awake = ap is_stopped e

    -- a call's record is in its phase
    carried : (r : Record) (next : ℕ) → in_phase Running (kind_of r) ≡ true → stepped (found r next) s ≡ record_step r s
    carried r next h = in_phase_is_carried_out s awake r next (ap (λ (p : Phase). in_phase p (kind_of r)) e ∙ h)

    out : (r : Record) (next : ℕ) → in_phase Running (kind_of r) ≡ false → stepped (found r next) s ≡ stops_at WrongPhase s
    out r next h = out_of_phase_stops s awake r next (ap (λ (p : Phase). in_phase p (kind_of r)) e ∙ h)

    goes : (call : Called) (next : ℕ) (step : Step) → step ≡ goes_on call s
        → (replay_after n trace next step.replay).state ≡ run (calls_from n trace next) call.state
    goes call next step h = ap (λ (t : Step). (replay_after n trace next t.replay).state) h ∙ on next (goes_on call s).replay e

    by_record : (r : Record) (next : ℕ)
        → (replay_after n trace next (stepped (found r next) s).replay).state
        ≡ run (cond (is_call (call_by r)) (calls_by r ++ calls_from n trace next) []) s.state
    unfolding record_step is_call call_by calls_by in_phase
    by_record (Node p w) next = stops n next WrongPhase s _ (out (Node p w) next refl)
    by_record (ModelOf r) next = stops n next WrongPhase s _ (out (ModelOf r) next refl)
    by_record (Start time) next = stops n next WrongPhase s _ (out (Start time) next refl)
    by_record (BioOf b) next = goes (bio_call b s.state) next _ (carried (BioOf b) next refl)
    by_record (Tick time) next = goes (tick_call time s.state) next _ (carried (Tick time) next refl)
    by_record Plan next = goes (plan_call s.state) next _ (carried Plan next refl)
    by_record (Vrate v) next = goes (set_call (SetVrate v) s.state) next _ (carried (Vrate v) next refl)
    by_record (Weight k w) next = goes (set_call (SetWeight k w) s.state) next _ (carried (Weight k w) next refl)

    goes_on_lem : (read : Read) → read_at trace place ≡ read
        → (replay_after n trace (next_place read place) (stepped read s).replay).state
        ≡ run (cond (is_call (call_of read)) (calls_in read ++ calls_from n trace (next_place read place)) []) s.state
    unfolding is_call call_of calls_in
    goes_on_lem (Ok (Some f)) h = by_record f.item f.next
    goes_on_lem (Ok None) h =
        ap (λ (t : Replay). (replay_after n trace place t).state) (the_end_stays s e) ∙ on place s e
        ∙ ap (λ (ks : List Call). run ks s.state) (none_at_the_end n place h)
    goes_on_lem (Err x) h = stops n place x s _ (unread_stops s awake x)

  -- from a replay that runs on, its state is that of the calls which the trace holds
  pub a_running_replay_goes_by_its_calls : (n place : ℕ) (s : Replay) → s.phase ≡ Running
      → (replay_after n trace place s).state ≡ run (calls_from n trace place) s.state
  unfolding replay_after calls_from
  a_running_replay_goes_by_its_calls zero place s e = refl
  a_running_replay_goes_by_its_calls (suc n) place s e = goes_on_lem n place s e (a_running_replay_goes_by_its_calls n) (read_at trace place) refl

  -- so from an accepted start on, which is read at a place behind the model, it is that of the calls upon the state that start gives
  pub a_replay_goes_by_its_calls_from_start_on : (n place next time : ℕ) (s : Replay) → read_at trace place ≡ found (Start time) next
      → s.phase ≡ Priced → (started s.tree s.rates time).answer ≡ Ok tt
      → (replay_after (suc n) trace place s).state ≡ run (calls_from n trace next) (started s.tree s.rates time).state
  unfolding replay_after record_step start_step in_phase
  a_replay_goes_by_its_calls_from_start_on n place next time s h e taken =
      let here : stepped (found (Start time) next) s ≡ start_step (Ok tt) (started s.tree s.rates time).state s =
      in_phase_is_carried_out s (ap is_stopped e) (Start time) next (ap (λ (p : Phase). in_phase p 3) e)
      ∙ ap (λ (v : Verdict). start_step v (started s.tree s.rates time).state s) taken in
      ap (λ (read : Read). (replay_after n trace (next_place read place) (stepped read s).replay).state) h
      ∙ ap (λ (t : Step). (replay_after n trace next t.replay).state) here
      ∙ a_running_replay_goes_by_its_calls n next _ refl

run_one_more : (ks : List Call) (k : Call) (c : Controller) → run (ks ++ (k ∷ [])) c ≡ after k (run ks c)
run_one_more [] k c = refl
run_one_more (j ∷ ks) k c = run_one_more ks k (after j c)

one_more : (k : Call) {c : Controller} → Reached c → Reached (after k c)
one_more k (reached tree rates time ks) =
    subst (λ (c : Controller). Reached c) (run_one_more ks k (started tree rates time).state) (reached tree rates time (ks ++ (k ∷ [])))

record_reaches : (r : Record) (s : Replay) → Reached s.state → Reached (record_step r s).replay.state
unfolding record_step node_step model_step start_step
record_reaches (Node p w) s h = by_node (first_of (node_checks (grown p w s.tree)))
  where
    by_node : (v : Verdict) → Reached (node_step v (grown p w s.tree) s).replay.state
    by_node (Ok tt) = h
    by_node (Err x) = h
record_reaches (ModelOf r) s h = by_model (first_of (rate_checks r))
  where
    by_model : (v : Verdict) → Reached (model_step v r s).replay.state
    by_model (Ok tt) = h
    by_model (Err x) = h
record_reaches (Start time) s h = by_start (started s.tree s.rates time).answer
  where
    by_start : (v : Verdict) → Reached (start_step v (started s.tree s.rates time).state s).replay.state
    by_start (Ok tt) = reached s.tree s.rates time []
    by_start (Err x) = h
record_reaches (BioOf b) s h = one_more (Call.submit b) h
record_reaches (Tick time) s h = one_more (Call.tick time all_room) h
record_reaches Plan s h = one_more Call.plan h
record_reaches (Vrate v) s h = one_more (Call.set (SetVrate v)) h
record_reaches (Weight n w) s h = one_more (Call.set (SetWeight n w)) h

step_reaches : (read : Read) (s : Replay) → Reached s.state → Reached (stepped read s).replay.state
step_reaches read s h = step_keeps (λ (t : Replay). Reached t.state) s h (λ x. h) (λ r. record_reaches r s h) read

-- until start a replay has the state of a refused one
beginning_reached : Reached beginning.state
unfolding started started_by start_checks tree_checks tree_fault count_in_range
beginning_reached = reached no_tree slowest 0 []

steps_reach : (trace : List ℕ) (n place : ℕ) (s : Replay) → Reached s.state → Reached (replay_after n trace place s).state
unfolding replay_after
steps_reach trace zero place s h = h
steps_reach trace (suc n) place s h = steps_reach trace n _ _ (step_reaches (read_at trace place) s h)

pub every_state_of_a_replay_is_reached : (trace : List ℕ) (n : ℕ) → Reached (replay_after n trace 0 beginning).state
every_state_of_a_replay_is_reached trace n = steps_reach trace n 0 beginning beginning_reached

-- ---- the tree that a trace's setup gives: a replay holds no faulty node, whatever the trace
steps_keep_nodes : (trace : List ℕ) (n place : ℕ) (s : Replay) → Playing s → SoundTree s.tree → SoundTree (replay_after n trace place s).tree
unfolding replay_after
steps_keep_nodes trace zero place s h sound = sound
steps_keep_nodes trace (suc n) place s h sound =
    steps_keep_nodes trace n _ _ (stepped_plays (read_at trace place) s h) (step_keeps_nodes s h sound (read_at trace place))

pub no_replay_holds_a_faulty_node : (trace : List ℕ) (n : ℕ) → SoundTree (replay_after n trace 0 beginning).tree
no_replay_holds_a_faulty_node trace n = steps_keep_nodes trace n 0 beginning beginning_plays beginning_nodes

-- ---- and demand 3 of every trace: what the calls that it holds charge is at most what its ticks generate, upon the state of any
-- start; of its own, by `a_replay_goes_by_its_calls_from_start_on`, these are the states that the replay goes through
pub no_trace_overspends : (trace : List ℕ) (n place time : ℕ) (tree : Tree) (rates : Rates)
    → sum_of charged (calls_from n trace place) (started tree rates time).state ≤ sum_of generated (calls_from n trace place) (started tree rates time).state
no_trace_overspends trace n place time tree rates = never_overspent tree rates time (calls_from n trace place)
