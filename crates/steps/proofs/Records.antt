-- What each record's step is, by what its check has answered; a step that is known, and what it leaves behind.
-- Assumes nothing.
use mathlib.Core.Path.{◌≡◌, refl, sym, ap, ◌∙◌}
use mathlib.Core.Bool.{Bool, true, false, ◌&&◌}
use mathlib.Core.List.{List, append-nil}
use Prim.Native.Nat.{ℕ, ◌+◌, ◌≤◌, ◌<◌}
use native.Mathlib.Omega.{arith}
use lib.Dec.{ltb}
use lib.ListN.{length}
use borrow.Author.Tests.{lt-leb, lt-ltb, le-ltb}
use Rattle.rules.specs.Numbers.{nodes_most, line_room}
use Rattle.rules.specs.Tree.{newest_fault}
use Rattle.rules.specs.Refusals.{first_of, node_checks, rate_checks}
use Rattle.rules.specs.Entries.{pricing, pricing_by, started}
use Rattle.rules.specs.Trace.{kind_of, read_at}
use Rattle.rules.specs.Replay.{within, stops_at, silent, grown, in_phase, is_stopped}
use Rattle.rules.specs.Replay.{node_step, model_step, start_step, record_step, read_step, stepped, next_place}
use Rattle.rules.specs.Chunks.{Run, call_of, call_by, is_call, is_running, runs, calling, still, called_before, run_from, stepping, stepped_to}
use Rattle.rules.proofs.Laws.Bools.{never, true_not_false, and_right}
use Rattle.rules.proofs.Laws.Runs.{call_steps, holding, run_goes}
use Rattle.rules.specs.declared.cost.Rates.{Rates}
use Rattle.rules.specs.declared.cost.Model.{Model}
use Rattle.rules.specs.declared.tree.Tree.{Tree}
use Rattle.rules.specs.declared.tree.Fault.{Fault}
use Rattle.rules.specs.declared.tree.Fault.TheVariants.{Count}
use Rattle.rules.specs.declared.refusals.Refusal.{Refusal}
use Rattle.rules.specs.declared.refusals.Refusal.TheVariants.{BadTree, WrongPhase}
use Rattle.rules.specs.declared.trace.Record.{Record}
use Rattle.rules.specs.declared.trace.Record.TheVariants.{Node, Model as ModelOf, Start, Bio as BioOf, Tick, Plan, Vrate, Weight}
use Rattle.rules.specs.declared.replay.Phase.{Phase}
use Rattle.rules.specs.declared.replay.Phase.TheVariants.{Setup, Priced, Running, Stopped}
use Rattle.rules.specs.declared.replay.Replay.{Replay}
use Rattle.rules.specs.declared.replay.Ran.{Ran}
use Rattle.calls.specs.Calls.{RanAs}
use Rattle.steps.specs.OneStep.{DoesStep, Steps}
use Rattle.std.specs.Prelude.{Err, None, Ok, Some}
use Rattle.rules.specs.Results.{Finding, Judged, Verdict, Pricing, Read, Printed, found}

-- ---- the model
module _ (r : Rates) (s : Replay) {answer : Pricing} (e : answer ≡ pricing r) where
  pub model_refused : {x : Refusal} → answer ≡ Err x → record_step (ModelOf r) s ≡ stops_at x s
  unfolding record_step model_step pricing pricing_by
  model_refused {x} a = go (first_of (rate_checks r)) e
    where
      go : (v : Verdict) → answer ≡ pricing_by v r → model_step v r s ≡ stops_at x s
      go (Ok tt) q = never (cc)
      go (Err y) q = let same : y ≡ x = cc in ap (λ (k : Refusal). stops_at k s) same

  pub model_accepted : {m : Model} → answer ≡ Ok m → record_step (ModelOf r) s ≡ silent (within Priced s.tree r s.state)
  unfolding record_step model_step pricing pricing_by
  model_accepted a = go (first_of (rate_checks r)) e
    where
      go : (v : Verdict) → answer ≡ pricing_by v r → model_step v r s ≡ silent (within Priced s.tree r s.state)
      go (Ok tt) q = refl
      go (Err y) q = never (cc)

-- ---- start
module _ (time : ℕ) (s : Replay) {begun : Judged} (e : begun ≡ started s.tree s.rates time) where
  pub start_refused : {x : Refusal} → begun.answer ≡ Err x → record_step (Start time) s ≡ stops_at x s
  unfolding record_step start_step
  start_refused a = rw (← e, a)

  pub start_accepted : begun.answer ≡ Ok tt
      → record_step (Start time) s ≡ silent (within Running s.tree s.rates begun.state)
  unfolding record_step start_step
  start_accepted a = rw (← e, a)

-- ---- a node
module _ (p w : ℕ) (s : Replay) where
  module _ {next : Tree} (n : next ≡ grown p w s.tree) {found : Finding} (e : found ≡ newest_fault next) where
    pub node_refused : {f : Fault} → found ≡ Err f → record_step (Node p w) s ≡ stops_at (BadTree f) s
    unfolding record_step node_step node_checks
    node_refused t = rw (← n, ← e, t)

    pub node_accepted : found ≡ Ok tt → record_step (Node p w) s ≡ silent (within s.phase next s.rates s.state)
    unfolding record_step node_step node_checks
    node_accepted t = rw (← n, ← e, t)

  -- "a 64th node record 20": with the root it would be the 65th node
  pub node_too_many : nodes_most ≤ s.tree.count → record_step (Node p w) s ≡ stops_at (BadTree Count) s
  unfolding newest_fault
  node_too_many h = node_refused refl {found = Err Count} (rw (lt-leb (s.tree.count + 1) nodes_most (omega arith))) refl

-- ---- what is read: a record is checked for 18 first
module _ {read : Read} {r : Record} {next : ℕ} (found : read ≡ found r next) (s : Replay) {b : Bool}
    (e : b ≡ in_phase s.phase (kind_of r)) where
  pub read_in_phase : b ≡ true → read_step read s ≡ record_step r s
  unfolding read_step
  read_in_phase t = rw (found, ← e, t)

  pub read_wrong_phase : b ≡ false → read_step read s ≡ stops_at WrongPhase s
  unfolding read_step
  read_wrong_phase t = rw (found, ← e, t)

module _ {read : Read} (s : Replay) where
  pub read_end : read ≡ Ok None → read_step read s ≡ silent s
  unfolding read_step
  read_end e = rw e

  pub read_refused : {x : Refusal} → read ≡ Err x → read_step read s ≡ stops_at x s
  unfolding read_step
  read_refused e = rw e

pub same_read : {read q : Read} (s : Replay) {count : ℕ} {after : Replay} (o₀ : List ℕ) {o : List ℕ} → read ≡ q
    → DoesStep (read_step read s) count after o₀ o → DoesStep (read_step q s) count after o₀ o
same_read s o₀ e d = rw (← e) d

pub no_run : (s : Replay) (read : Read) {phase : Phase} {b : Bool} → s.phase ≡ phase → b ≡ runs phase read → b ≡ false → runs s.phase read ≡ false
no_run s read e f t = rw e (sym f ∙ t)

-- ---- only setup's records are carried out one by one: a call in its phase is run
never_before_start : (kind : ℕ) → in_phase Setup kind ≡ false → in_phase Priced kind ≡ false → (p : Phase) → in_phase p kind ≡ true
    → (is_running p && true) ≡ false → ⊥
unfolding in_phase
never_before_start kind a b Setup e h = true_not_false e a
never_before_start kind a b Priced e h = true_not_false e b
never_before_start kind a b Running e h = true_not_false refl h
never_before_start kind a b Stopped e h = true_not_false e refl

pub setup_only : {read : Read} {r : Record} {next : ℕ} (p : Phase) {b : Bool} → read ≡ found r next → b ≡ in_phase p (kind_of r) → b ≡ true
    → runs p read ≡ false → kind_of r < 4
unfolding runs is_call call_of call_by in_phase
setup_only {read} {r} {next} p f e t h = go r (rw f at h) (sym e ∙ t)
  where
    go : (r : Record) → runs p (found r next) ≡ false → in_phase p (kind_of r) ≡ true → kind_of r < 4
    go (Node q w) h e = omega arith
    go (ModelOf q) h e = omega arith
    go (Start time) h e = omega arith
    go (BioOf b) h e = absurd (never_before_start 4 refl refl p e h)
    go (Tick time) h e = absurd (never_before_start 5 refl refl p e h)
    go Plan h e = absurd (never_before_start 6 refl refl p e h)
    go (Vrate v) h e = absurd (never_before_start 7 refl refl p e h)
    go (Weight n w) h e = absurd (never_before_start 8 refl refl p e h)

-- the arm for the rest has the calls' variants, from the fourth on
pub no_call : (r : Record) → kind_of r < 4 → ((p w : ℕ) → r ≡ Node p w → ⊥) → ((q : Rates) → r ≡ ModelOf q → ⊥) → ((time : ℕ) → r ≡ Start time → ⊥) → ⊥
no_call (Node p w) early n m s = n p w refl
no_call (ModelOf q) early n m s = m q refl
no_call (Start time) early n m s = s time refl
no_call (BioOf b) early n m s = omega arith
no_call (Tick time) early n m s = omega arith
no_call Plan early n m s = omega arith
no_call (Vrate v) early n m s = omega arith
no_call (Weight n w) early o m s = omega arith

-- ---- a call in its phase is run, alone
pub one_call : (trace : List ℕ) (at : ℕ) (s : Replay) (o₀ : List ℕ) {read : Read} {phase : Phase} {b : Bool} {r : Ran} {o : List ℕ}
    → read ≡ read_at trace at → b ≡ runs phase read → b ≡ true → s.phase ≡ phase → line_room ≤ length o₀
    → RanAs (run_from 1 trace (length o₀) at s.state) r o₀ o
    → DoesStep (read_step (read_at trace at) s) r.count (holding s r.state) o₀ o
unfolding runs run_from
one_call trace at s o₀ e f t q l ran =
    let on : runs s.phase (read_at trace at) ≡ true = rw (q, ← e) (sym f ∙ t) in
    let is : is_call (call_of (read_at trace at)) ≡ true = and_right (is_running s.phase) (is_call (call_of (read_at trace at))) on in
    let one : run_from 1 trace (length o₀) at s.state
    ≡ called_before (calling (call_of (read_at trace at)) s.state).bytes
    (still (next_place (read_at trace at) at) (calling (call_of (read_at trace at)) s.state).state) =
    run_goes trace 1 (length o₀) at s.state (omega arith) is l in
    rw (call_steps (read_at trace at) s on) (rw (one, append-nil) at ran.lines, ap (holding s) (ran.state ∙ ap (λ (r : Run). r.state) one))

-- ---- one step in a lent buffer
pub stopped_alone : (p : Phase) → (p ≡ Stopped → ⊥) → false ≡ is_stopped p
stopped_alone Setup k = refl
stopped_alone Priced k = refl
stopped_alone Running k = refl
stopped_alone Stopped k = absurd (k refl)

module _ (read : Read) (s : Replay) (lent : List ℕ) where
  abbrev Stepping : Printed → Replay → List ℕ → Type 0
  Stepping printed after o = Steps read s (record { printed = printed; replay = after }) lent o

  pub steps_not : length lent < line_room → Stepping None s lent
  unfolding stepping stepped_to
  steps_not h =
      let e : ltb (length lent) line_room ≡ true = lt-ltb (length lent) line_room h in
      record { answers = rw e; leaves = rw e }

  module _ (room : line_room ≤ length lent) where
    fits : ltb (length lent) line_room ≡ false
    fits = le-ltb (length lent) line_room room

    pub steps_no_more : is_stopped s.phase ≡ true → Stepping (Some 0) s lent
    unfolding stepping stepped_to stepped
    steps_no_more t = record { answers = rw (fits, t); leaves = rw (fits, t) }

    pub steps_on : is_stopped s.phase ≡ false → {count : ℕ} {after : Replay} {o : List ℕ}
        → DoesStep (read_step read s) count after lent o → Stepping (Some count) after o
    unfolding stepping stepped_to stepped
    steps_on t d = record { answers = rw (fits, t, d.0.0, d.1); leaves = rw (fits, t) d.0.1 }
