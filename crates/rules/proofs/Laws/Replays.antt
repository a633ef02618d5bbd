-- What every replay keeps, from its beginning on and over each record: its nodes have room and climb, and its state is sound.
-- Assumes nothing.
use Rattle.std.specs.Prelude.{◌≡◌, refl, Bool, cond, ◌↔◌, List, [], ℕ, ◌-◌, ◌≤◌, ◌<◌, leb, get_or, Err, None, Ok, Some}
use Rattle.std.proofs.Common.{sym, ap, ◌∙◌, ⊎_elim, eq-or-lt_of_le, lt_of_not-le, le_of_suc-le-suc, arith, get_or-set_other, leb-true}
use Rattle.std.proofs.Math.Bool.{true, false}
use Rattle.std.proofs.Math.Logic.{dite}
use Rattle.std.proofs.Math.Decide.{dec_lt}
use Rattle.rules.specs.Numbers.{nodes_most}
use Rattle.rules.specs.Tree.{last, node_fault, newest_fault, count_in_range, tree_fault}
use Rattle.rules.specs.Refusals.{Check, number, first_of, node_checks, rate_checks, tree_checks, start_checks, fault_in}
use Rattle.rules.specs.Entries.{no_tree, slowest, started, started_by, submitted, ticked, planned, set_by}
use Rattle.rules.specs.Trace.{kind_of}
use Rattle.rules.specs.Replay.{Step, refusal_line, in_phase, is_stopped, within, stops_at, silent, beginning, grown, all_room, node_step, model_step, start_step, record_step, read_step, stepped}
use Rattle.rules.specs.Invariant.{Sound, Playing}
use Rattle.rules.proofs.Laws.Bools.{never, true_not_false, is_false}
use Rattle.rules.proofs.Laws.Verdicts.{lacks, not_given}
use Rattle.rules.proofs.Laws.Lines.{refusal_line_tells_number, refusal_line_some}
use Rattle.rules.proofs.Laws.Faults.{no_fault's_number}
use Rattle.rules.proofs.Laws.Passes.{check_passed, start_answers}
use Rattle.rules.proofs.Laws.Trees.{SoundNode, parent_is, node_sound}
use Rattle.rules.proofs.Laws.TreeVerdicts.{sound_when}
use Rattle.rules.proofs.Laws.Starts.{start_gives}
use Rattle.rules.proofs.Laws.Settings.{set_keeps}
use Rattle.rules.proofs.Laws.Submits.{submit_keeps}
use Rattle.rules.proofs.Laws.Ticks.{ticked_keeps}
use Rattle.rules.proofs.Laws.Plans.{planned_keeps}
use Rattle.rules.specs.declared.cost.Rates.{Rates}
use Rattle.rules.specs.declared.tree.Tree.{Tree}
use Rattle.rules.specs.declared.tree.Fault.TheVariants.{Count}
use Rattle.rules.specs.declared.budget.Controller.{Controller}
use Rattle.rules.specs.declared.refusals.Refusal.{Refusal}
use Rattle.rules.specs.declared.refusals.Refusal.TheVariants.{WrongPhase}
use Rattle.rules.specs.declared.trace.Record.{Record}
use Rattle.rules.specs.declared.trace.Record.TheVariants.{Node, Model as ModelOf, Start, Bio as BioOf, Tick, Plan, Vrate, Weight}
use Rattle.rules.specs.declared.replay.Phase.{Phase}
use Rattle.rules.specs.declared.replay.Phase.TheVariants.{Priced, Running, Stopped}
use Rattle.rules.specs.declared.replay.Replay.{Replay}
use Rattle.rules.specs.declared.replay.Setting.{Setting}
use Rattle.rules.specs.declared.replay.Setting.TheVariants.{Vrate as SetVrate, Weight as SetWeight}
use Rattle.rules.specs.Results.{Verdict, Read, found}

-- ---- the beginning: the root alone, and the state of a refused start
no_state_yet : Sound beginning.state
unfolding started started_by start_checks tree_checks tree_fault count_in_range
no_state_yet = start_gives no_tree slowest 0

pub beginning_plays : Playing beginning
unfolding last
beginning_plays = record {
  least = omega arith;
  most = omega arith;
  up = λ n p l. absurd (omega arith);
  state = no_state_yet;
}

-- ---- a node more: those before it keep their parents, and an accepted one has a parent before it
-- what an accepted node record has passed
pub accepted_newest : (t : Tree) → first_of (node_checks t) ≡ Ok tt → (t.count ≤ nodes_most) × SoundNode t (last t)
unfolding node_checks newest_fault
accepted_newest t e = go (leb t.count nodes_most) refl (sound_when (newest_fault t) (check_passed _ _ _ e).0)
  where
    go : (b : Bool) → leb t.count nodes_most ≡ b → cond b (node_fault t (last t)) (Err Count) ≡ Ok tt
        → (t.count ≤ nodes_most) × SoundNode t (last t)
    go true l f = (leb-true t.count nodes_most l, node_sound t (last t) f)
    go false l f = never (cc)

module _ {s : Replay} (h : Playing s) where
  -- what the check of a new node asks of the nodes before it
  pub node_climbs : (p w k : ℕ) → 0 < k → k ≤ last (grown p w s.tree) - 1 → get_or (grown p w s.tree).parents k 0 < k
  unfolding last
  node_climbs p w k a b =
      let l = h.least in
      rw (get_or-set_other s.tree.parents s.tree.count k p 0 (λ e. omega arith)) (rw (parent_is s.tree k a) at (h.up k a (omega arith)))

  -- the same nodes with another sound state
  state_plays : (phase : Phase) (r : Rates) (c : Controller) → Sound c → Playing (within phase s.tree r c)
  state_plays phase r c sound = record { least = h.least; most = h.most; up = h.up; state = sound }

  stop_plays : (x : Refusal) → Playing (stops_at x s).replay
  stop_plays x = state_plays Stopped s.rates s.state h.state

  node_plays : (p w : ℕ) → first_of (node_checks (grown p w s.tree)) ≡ Ok tt
      → Playing (within s.phase (grown p w s.tree) s.rates s.state)
  node_plays p w e =
      let newest = accepted_newest (grown p w s.tree) e in
      record {
        least = omega arith;
        most = newest.0;
        up = λ n a b.
            ⊎_elim
            (λ (i : n ≡ last (grown p w s.tree)). rw i newest.1.up)
            (λ (l : n < last (grown p w s.tree)). rw (parent_is (grown p w s.tree) n a) (node_climbs p w n a (omega arith)))
            (eq-or-lt_of_le b);
        state = h.state;
      }

  -- ---- each record
  node_step_plays : (p w : ℕ) (v : Verdict) → first_of (node_checks (grown p w s.tree)) ≡ v
      → Playing (node_step v (grown p w s.tree) s).replay
  unfolding node_step
  node_step_plays p w (Ok tt) e = node_plays p w e
  node_step_plays p w (Err x) e = stop_plays x

  model_step_plays : (r : Rates) (v : Verdict) → Playing (model_step v r s).replay
  unfolding model_step
  model_step_plays r (Ok tt) = state_plays Priced r s.state h.state
  model_step_plays r (Err x) = stop_plays x

  start_step_plays : (c : Controller) → Sound c → (v : Verdict) → Playing (start_step v c s).replay
  unfolding start_step
  start_step_plays c sound (Ok tt) = state_plays Running s.rates c sound
  start_step_plays c sound (Err x) = stop_plays x

set_plays : (x : Setting) (s : Replay) → Playing s → Playing (within s.phase s.tree s.rates (set_by x s.state).state)
set_plays x s h = state_plays h s.phase s.rates (set_by x s.state).state (set_keeps x h.state)

pub record_step_plays : (r : Record) (s : Replay) → Playing s → Playing (record_step r s).replay
unfolding record_step
record_step_plays (Node p w) s h = node_step_plays h p w (first_of (node_checks (grown p w s.tree))) refl
record_step_plays (ModelOf r) s h = model_step_plays h r (first_of (rate_checks r))
record_step_plays (Start time) s h =
    start_step_plays h (started s.tree s.rates time).state (start_gives s.tree s.rates time)
    (started s.tree s.rates time).answer
record_step_plays (BioOf b) s h = state_plays h s.phase s.rates (submitted b s.state).state (submit_keeps h.state b)
record_step_plays (Tick time) s h =
    state_plays h s.phase s.rates (ticked time all_room s.state).state (ticked_keeps h.state time all_room)
record_step_plays Plan s h = state_plays h s.phase s.rates (planned s.state).state (planned_keeps h.state)
record_step_plays (Vrate v) s h = set_plays (SetVrate v) s h
record_step_plays (Weight n w) s h = set_plays (SetWeight n w) s h

-- ---- a step keeps what each record and each stop keep
module _ (P : Replay → Type 0) (s : Replay) (here : P s) (stop : (x : Refusal) → P (stops_at x s).replay)
    (each : (r : Record) → P (record_step r s).replay) where
  read_step_keeps : (read : Read) → P (read_step read s).replay
  unfolding read_step
  read_step_keeps (Ok (Some f)) = go (in_phase s.phase (kind_of f.item))
    where
      go : (b : Bool) → P (cond b (record_step f.item s) (stops_at WrongPhase s)).replay
      go true = each f.item
      go false = stop WrongPhase
  read_step_keeps (Ok None) = here
  read_step_keeps (Err x) = stop x

  pub step_keeps : (read : Read) → P (stepped read s).replay
  unfolding stepped
  step_keeps read = go (is_stopped s.phase)
    where
      go : (b : Bool) → P (cond b (silent s) (read_step read s)).replay
      go true = here
      go false = read_step_keeps read

pub read_step_plays : (read : Read) (s : Replay) → Playing s → Playing (read_step read s).replay
read_step_plays read s h = read_step_keeps (λ (t : Replay). Playing t) s h (stop_plays h) (λ r. record_step_plays r s h) read

pub stepped_plays : (read : Read) (s : Replay) → Playing s → Playing (stepped read s).replay
stepped_plays read s h = step_keeps (λ (t : Replay). Playing t) s h (stop_plays h) (λ r. record_step_plays r s h) read

-- ---- ".. otherwise it goes on": a call, refused or not, leaves the replay in its phase
pub calls_go_on : (r : Record) (s : Replay) → 4 ≤ kind_of r → (record_step r s).replay.phase ≡ s.phase
unfolding record_step
calls_go_on (Node p w) s h = absurd (omega arith)
calls_go_on (ModelOf r) s h = absurd (omega arith)
calls_go_on (Start time) s h = absurd (omega arith)
calls_go_on (BioOf b) s h = refl
calls_go_on (Tick time) s h = refl
calls_go_on Plan s h = refl
calls_go_on (Vrate v) s h = refl
calls_go_on (Weight n w) s h = refl

-- ---- ".. first checked for 16, 17 and 18": what cannot be read stops the replay, then a record out of its phase; any other
-- is carried out
module _ (s : Replay) (goes : is_stopped s.phase ≡ false) where
  pub unread_stops : (x : Refusal) → stepped (Err x) s ≡ stops_at x s
  unfolding stepped read_step
  unread_stops x = rw goes

  pub out_of_phase_stops : (r : Record) (next : ℕ) → in_phase s.phase (kind_of r) ≡ false → stepped (found r next) s ≡ stops_at WrongPhase s
  unfolding stepped read_step
  out_of_phase_stops r next out = rw (goes, out)

  pub in_phase_is_carried_out : (r : Record) (next : ℕ) → in_phase s.phase (kind_of r) ≡ true → stepped (found r next) s ≡ record_step r s
  unfolding stepped read_step
  in_phase_is_carried_out r next here = rw (goes, here)

  -- ---- each record of setup goes by a verdict: accepted it prints nothing and does not stop, refused it prints R and stops
  record SetupStep (r : Record) : Type 0 where
    checks : List Check
    no_18 : lacks 18 checks ≡ true
    step : Verdict → Step
    same : record_step r s ≡ step (first_of checks)
    quiet : (step (Ok tt)).bytes ≡ []
    on : is_stopped (step (Ok tt)).replay.phase ≡ false
    stops : (x : Refusal) → step (Err x) ≡ stops_at x s

  setup_step : (r : Record) → kind_of r < 4 → SetupStep r
  unfolding record_step node_step model_step start_step node_checks rate_checks start_checks tree_checks
  setup_step (Node p w) k = record {
    checks = node_checks (grown p w s.tree);
    no_18 = rw (no_fault's_number (fault_in (newest_fault (grown p w s.tree))) 18 (omega arith) (omega arith));
    step = λ v. node_step v (grown p w s.tree) s;
    same = refl;
    quiet = refl;
    on = goes;
    stops = λ x. refl;
  }
  setup_step (ModelOf r) k = record {
    checks = rate_checks r;
    no_18 = refl;
    step = λ v. model_step v r s;
    same = refl;
    quiet = refl;
    on = refl;
    stops = λ x. refl;
  }
  setup_step (Start time) k = record {
    checks = start_checks s.tree s.rates;
    no_18 = rw (no_fault's_number (fault_in (tree_fault s.tree)) 18 (omega arith) (omega arith));
    step = λ v. start_step v (started s.tree s.rates time).state s;
    same = rw (start_answers s.tree s.rates time);
    quiet = refl;
    on = refl;
    stops = λ x. refl;
  }
  setup_step (BioOf b) k = absurd (omega arith)
  setup_step (Tick time) k = absurd (omega arith)
  setup_step Plan k = absurd (omega arith)
  setup_step (Vrate v) k = absurd (omega arith)
  setup_step (Weight n w) k = absurd (omega arith)

  -- "After R in setup .. it stops"
  pub refused_in_setup_stops : (r : Record) → kind_of r < 4 → (x : Refusal) → (record_step r s).bytes ≡ refusal_line x → (record_step r s).replay.phase ≡ Stopped
  refused_in_setup_stops r k x e = let w = setup_step r k in rw w.same (go w (first_of w.checks) (rw w.same at e))
    where
      go : (w : SetupStep r) (v : Verdict) → (w.step v).bytes ≡ refusal_line x → (w.step v).replay.phase ≡ Stopped
      go w (Ok tt) f = absurd (refusal_line_some x (sym f ∙ w.quiet))
      go w (Err y) f = rw (w.stops y)

  -- ---- 18 is given, its line printed and the replay stopped, exactly when the record is out of its phase: one of setup that is
  -- carried out has its own refusals, and a call goes on
  setup_not_18 : {r : Record} → SetupStep r → record_step r s ≡ stops_at WrongPhase s → ⊥
  setup_not_18 w e = go (first_of w.checks) refl (sym w.same ∙ e)
    where
      go : (v : Verdict) → first_of w.checks ≡ v → w.step v ≡ stops_at WrongPhase s → ⊥
      go (Ok tt) f i = true_not_false (ap (λ (t : Step). is_stopped t.replay.phase) i) w.on
      go (Err x) f i =
          let same : number x ≡ 18 = refusal_line_tells_number x WrongPhase (ap (λ (t : Step). t.bytes) (sym (w.stops x) ∙ i)) in
          not_given x w.checks (rw same w.no_18) f

  call_not_18 : (r : Record) → 4 ≤ kind_of r → record_step r s ≡ stops_at WrongPhase s → ⊥
  call_not_18 r k e = true_not_false (ap (λ (t : Step). is_stopped t.replay.phase) e) (rw (calls_go_on r s k) goes)

  pub refusal_18_exactly_when : (r : Record) (next : ℕ)
      → (stepped (found r next) s ≡ stops_at WrongPhase s) ↔ (in_phase s.phase (kind_of r) ≡ false)
  refusal_18_exactly_when r next = (
    λ e. is_false (in_phase s.phase (kind_of r)) (λ here. carried (sym (in_phase_is_carried_out r next here) ∙ e)),
    out_of_phase_stops r next,
  )
    where
      carried : record_step r s ≡ stops_at WrongPhase s → ⊥
      carried = dite (dec_lt (kind_of r) 4) (λ k. setup_not_18 (setup_step r k)) (λ k. call_not_18 r (le_of_suc-le-suc (lt_of_not-le k)))
