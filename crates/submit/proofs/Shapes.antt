-- The steps of a submission on plain values: what each way out of the code answers is what the rule says there.
-- Assumes nothing.
use mathlib.Core.Path.{◌≡◌, refl, sym, ap, ◌∙◌}
use mathlib.Core.Bool.{Bool, true, false, cond, ◌&&◌}
use Prim.Native.Nat.{ℕ, ◌≤◌, ◌<◌}
use native.Mathlib.Omega.{arith}
use borrow.Author.Tests.{leb-false}
use lib.Dec.{leb}
use Rattle.rules.specs.Numbers.{nodes_most, queue_room, cost_most}
use Rattle.rules.specs.Words.{has}
use Rattle.rules.specs.Cost.{is_forced, bio_in_range}
use Rattle.rules.specs.Tree.{is_leaf}
use Rattle.rules.specs.Budget.{row_at, queue_at, share_at, put_leaf, fits, rebased, reshared, entered, row_after, queue_after, ends_donation, answer_in, applied, settled, submission, would_be}
use Rattle.rules.specs.Refusals.{first_of, cost_checks, room_checks, submit_checks}
use Rattle.rules.specs.Entries.{costing, submitted_by, submitted}
use Rattle.rules.specs.Question.{unless_refused, when_active}
use Rattle.rules.specs.Invariant.{Sound, SoundModel, SoundTree, Within}
use Rattle.rules.proofs.Laws.Costs.{priced_sound}
use Rattle.rules.proofs.Laws.Trees.{leaf_last, last_most}
use Rattle.rules.proofs.Laws.Resharing.{Reweighed, active_with, activated_is, entering_keeps, entering_reweighs, entered_is_active}
use Rattle.rules.proofs.Laws.Submits.{cost_in, reweighed_debt, reweighed_queue, reweighed_cost}
use Rattle.rules.proofs.Laws.Bools.{never}
use Rattle.rules.proofs.Laws.Verdicts.{first_refused}
use Rattle.rules.proofs.Laws.Answers.{answer_by_count, issued_fits}
use Rattle.rules.proofs.Laws.Decisions.{entered_active}
use Rattle.rules.proofs.Laws.Questions.{uncosted_refuses, idle_has_room, costed_in_range, costed_the_cost, costed_within, room_is_left}
use Rattle.rules.specs.declared.units.Abs.{Abs}
use Rattle.rules.specs.declared.cost.Bio.{Bio}
use Rattle.rules.specs.declared.tree.Tree.{Tree}
use Rattle.rules.specs.declared.budget.Row.{Row}
use Rattle.rules.specs.declared.budget.Queue.{Queue}
use Rattle.rules.specs.declared.budget.Controller.{Controller}
use Rattle.rules.specs.declared.refusals.Refusal.{Refusal}
use Rattle.rules.specs.declared.refusals.Refusal.TheVariants.{NoLeaf, QueueFull}
use Rattle.rules.specs.declared.refusals.Answer.{Answer}
use Rattle.rules.specs.declared.refusals.Answer.TheVariants.{Issued, Waits, OnDebt}
use Rattle.leaf.specs.Alone.{length_only, answer_with}
use Rattle.submit.specs.OnLeaf.{queueing, queued, booked_by}
use Rattle.std.specs.Prelude.{Err, Ok, Some}
use Rattle.rules.specs.Results.{Answered, Submitted, Verdict, Costing}

-- ---- a bio on its leaf
placed : (cost : Abs) (row : Row) (n : ℕ) → first_of (room_checks Waits cost row (length_only n)) ≡ Ok tt → n < queue_room
unfolding room_checks
placed cost row n = go (leb queue_room n) refl
  where
    go : (t : Bool) → leb queue_room n ≡ t → ◌≡◌ {A = Verdict} (cond t (Err QueueFull) (Ok tt)) (Ok tt) → n < queue_room
    go true e i = never (cc)
    go false e i = leb-false queue_room n e

-- a bio that is to wait has a place, and one that is issued fits
module _ (forced : Bool) (cost : Abs) (share : ℕ) (row : Row) (waiting : ℕ) where
  pub waits_with_room : when_active forced cost share row waiting ≡ Ok Waits → waiting < queue_room
  unfolding when_active unless_refused
  waits_with_room =
      let answer : Answer = answer_with forced cost share row waiting in
      go answer (first_of (room_checks answer cost row (length_only waiting))) refl
    where
      go : (a : Answer) (v : Verdict) → first_of (room_checks a cost row (length_only waiting)) ≡ v → unless_refused v a ≡ Ok Waits → waiting < queue_room
      go a (Ok tt) f i = let e : a ≡ Waits = cc in placed cost row waiting (rw e at f)
      go a (Err x) f i = never (cc)

  pub issues_what_fits : when_active forced cost share row waiting ≡ Ok Issued → fits cost share row ≡ true
  unfolding when_active unless_refused
  issues_what_fits e =
      issued_fits cost share row (length_only waiting) forced
      (go (answer_with forced cost share row waiting) (first_of (room_checks (answer_with forced cost share row waiting) cost row (length_only waiting))) e)
    where
      go : (a : Answer) (v : Verdict) → unless_refused v a ≡ Ok Issued → a ≡ Issued
      go a (Ok tt) i = cc
      go a (Err x) i = never (cc)

-- only a bio that is to wait joins the queue
pub joins_to_wait : (a : Answer) (cost : Abs) {k : Abs} → queueing a cost ≡ Some k → a ≡ Waits
unfolding queueing
joins_to_wait Issued cost e = never (cc)
joins_to_wait Waits cost e = refl
joins_to_wait OnDebt cost e = never (cc)

-- no bio adds to its leaf's budget
pub no_budget_gained : (b : Bio) (cost : Abs) (share : ℕ) (row : Row) (a : Answer) → (booked_by a b cost share row).budget.0 ≤ row.budget.0
unfolding row_after
no_budget_gained b cost share row Issued = omega arith
no_budget_gained b cost share row Waits = omega arith
no_budget_gained b cost share row OnDebt = omega arith

-- ---- the bio's node
pub leaf_node : (t : Tree) (n : ℕ) → SoundTree t → is_leaf t n ≡ true → n < nodes_most
leaf_node t n s leaf = omega (arith, leaf_last t n leaf, last_most s)

pub at_node : {m n : ℕ} → m ≡ n → n < nodes_most → m < nodes_most
at_node e h = rw e h

-- ---- "1. An inactive leaf becomes active .."
pub wakes : {c : Controller} → Sound c → (n : ℕ) → has c.active n ≡ false → entered n c ≡ rebased (active_with n c) c
unfolding entered
wakes {c} s n e = rw e (activated_is n c (s.idle n e).no_budget)

pub woken_within : {c : Controller} → Sound c → (n : ℕ) → is_leaf c.tree n ≡ true → has c.active n ≡ false
    → Within c.tree (active_with n c)
unfolding rebased reshared
woken_within {c} s n leaf e = (rw (wakes s n e) at (entering_keeps s n leaf)).active

-- ---- the leaf is put back into the state in which it is active
-- a bio in range whose leaf is active, with its cost
pub record Ready (b : Bio) (cost : Abs) (c : Controller) : Type 0 where
  pub sound : Sound c
  pub active : has c.active b.node ≡ true
  pub range : bio_in_range b ≡ true
  pub same : cost ≡ cost_in c b
  pub cheap : cost.0 ≤ cost_most

abbrev put : Bio → ℕ → Answer → Abs → Controller → Controller
put b n a cost c =
    put_leaf n (booked_by a b cost (share_at c n) (row_at c n)) (queued (queueing a cost) b.id (queue_at c n)) c

-- "4. If the bio waited .."
abbrev pub landed : Bio → ℕ → Answered → Abs → Controller → Submitted
landed b n (Ok a) cost c = record {
  answer = Ok a;
  state = cond (ends_donation a && has c.donors n) (rebased c.active (put b n a cost c)) (put b n a cost c);
}
landed b n (Err x) cost c = record { answer = Err x; state = c }

-- ---- what the code finds at its own copy of the bio's node
pub found : (b : Bio) (c : Controller) {n : ℕ} {k x : Costing} → n ≡ b.node → k ≡ costing c.model (row_at c n) b → k ≡ x
    → costing c.model (row_at c b.node) b ≡ x
found b c m e i = ap (λ (k : ℕ). costing c.model (row_at c k) b) (sym m) ∙ sym e ∙ i

-- ---- the whole: a leaf that wakes has room, and one that was active is judged where it stands
pub model_is_sound : {c : Controller} → Sound c → SoundModel c.model
model_is_sound s = rw s.model.same (priced_sound s.model.rates s.model.valid)

-- what becomes of a queue is what the rule says of it
queued_is : (a : Answer) (cost : Abs) (id : ℕ) (q : Queue) → queued (queueing a cost) id q ≡ queue_after a id cost q
unfolding queued queueing queue_after
queued_is Issued cost id q = refl
queued_is Waits cost id q = refl
queued_is OnDebt cost id q = refl

-- what is judged in a state, by the verdict there
abbrev judged_by : Verdict → Bio → Controller → Submitted
judged_by v b c = landed b b.node (unless_refused v (answer_in c b)) (cost_in c b) c

abbrev judged : Bio → Controller → Submitted
judged b c =
    landed b b.node (when_active (is_forced b) (cost_in c b) (share_at c b.node) (row_at c b.node) (queue_at c b.node).len) (cost_in c b) c

-- of the queue the verdict looks at how many wait
by_verdict : (b : Bio) (c : Controller)
    → judged b c ≡ judged_by (first_of (room_checks (answer_in c b) (cost_in c b) (row_at c b.node) (queue_at c b.node))) b c
unfolding answer_in room_checks when_active
by_verdict b c =
    ap (λ (a : Answer). landed b b.node (unless_refused (first_of (room_checks a (cost_in c b) (row_at c b.node) (queue_at c b.node))) a) (cost_in c b) c)
    (sym (answer_by_count (is_forced b) (cost_in c b) (share_at c b.node) (row_at c b.node) (queue_at c b.node)))

alike : (b : Bio) (c : Controller) (v : Verdict) → entered b.node c ≡ c → judged_by v b c ≡ submitted_by v b c
unfolding submitted_by submission would_be settled applied unless_refused
alike b c (Ok tt) t = rw (queued_is (answer_in c b) (cost_in c b) b.id (queue_at c b.node), t)
alike b c (Err x) t = refl

woken_alike : (b : Bio) (c : Controller) → judged_by (Ok tt) b (entered b.node c) ≡ submitted_by (Ok tt) b c
unfolding submitted_by submission would_be settled applied unless_refused
woken_alike b c =
    let d : Controller = entered b.node c in
    rw (queued_is (answer_in d b) (cost_in d b) b.id (queue_at d b.node))

module _ {c : Controller} (s : Sound c) (b : Bio) where
  pub no_leaf_lem : is_leaf c.tree b.node ≡ false → ◌≡◌ {A = Submitted} (record { answer = Err NoLeaf; state = c }) (submitted b c)
  unfolding submitted submitted_by submit_checks
  no_leaf_lem e = rw e

  module _ (leaf : is_leaf c.tree b.node ≡ true) where
    pub unfit : (x : Refusal) → costing c.model (row_at c b.node) b ≡ Err x → ◌≡◌ {A = Submitted} (record { answer = Err x; state = c }) (submitted b c)
    unfolding submitted submitted_by submit_checks
    unfit x e =
        rw leaf
        (ap (λ (v : Verdict). submitted_by v b c) (sym (first_refused (cost_checks c.model (row_at c b.node) b) _ x (uncosted_refuses c.model (row_at c b.node) b x e))))

    module _ (cost : Abs) (e : costing c.model (row_at c b.node) b ≡ Ok cost) where
      pub ready_there : {n : ℕ} {d : Controller} → n ≡ b.node → d ≡ entered n c → Ready b cost d
      ready_there m i =
          rw (i, m)
          (record {
            sound = entering_keeps s b.node leaf;
            active = entered_is_active s b.node leaf;
            range = costed_in_range b c cost e;
            same = costed_the_cost b c cost e ∙ sym (reweighed_cost (entering_reweighs s b.node) b b.node);
            cheap = rw (costed_the_cost b c cost e) (costed_within b c cost e);
          })

      in_place : has c.active b.node ≡ true → judged b (entered b.node c) ≡ submitted b c
      unfolding answer_in submitted would_be
      in_place on =
          let there : entered b.node c ≡ c = entered_active b.node c on in
          ap (judged b) there ∙ by_verdict b c ∙ alike b c (first_of (room_checks (answer_in c b) (cost_in c b) (row_at c b.node) (queue_at c b.node))) there
          ∙ ap (λ (v : Verdict). submitted_by v b c) (rw (room_is_left s b leaf cost e, there))

      woken : has c.active b.node ≡ false → judged b (entered b.node c) ≡ submitted b c
      unfolding answer_in submitted
      woken off =
          let d : Controller = entered b.node c in
          let w : Reweighed c d = entering_reweighs s b.node in
          let here = s.idle b.node off in
          by_verdict b d
          ∙ ap (λ (v : Verdict). judged_by v b d)
          (idle_has_room (answer_in d b) (cost_in d b) (row_at d b.node) (queue_at d b.node) (reweighed_debt w b.node ∙ here.no_debt)
          (ap (λ (q : Queue). q.len) (reweighed_queue w b.node) ∙ here.no_waiter) (rw (reweighed_cost w b b.node) (costed_within b c cost e)))
          ∙ woken_alike b c
          ∙ ap (λ (v : Verdict). submitted_by v b c)
          (sym (room_is_left s b leaf cost e ∙ idle_has_room (would_be c b) (cost_in c b) (row_at c b.node) (queue_at c b.node) here.no_debt here.no_waiter
          (costed_within b c cost e)))

      pub submits : {n : ℕ} {d : Controller} → n ≡ b.node → d ≡ entered n c
          → landed b n (when_active (is_forced b) cost (share_at d n) (row_at d n) (queue_at d n).len) cost d ≡ submitted b c
      submits {n} {d} m i = rw (m, (ready_there m i).same, i, m) (go (has c.active b.node) refl)
        where
          go : (t : Bool) → has c.active b.node ≡ t → judged b (entered b.node c) ≡ submitted b c
          go true on = in_place on
          go false off = woken off
