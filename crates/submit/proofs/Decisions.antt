-- What a bio comes to by what it is shown is what the rule says of it: where the shares stand or return, at once, and where
-- its leaf is to become active, in the state in which it is.
-- Assumes nothing.
use mathlib.Core.Path.{◌≡◌, refl, sym, ap, ◌∙◌}
use mathlib.Core.Bool.{Bool, true, false, cond, ◌&&◌}
use Prim.Native.Nat.{ℕ, ◌*◌, ◌≤◌, ◌<◌}
use native.Mathlib.Nat.{mul-le-mul, le_trans}
use native.Mathlib.Omega.{arith}
use lib.Dec.{ltb}
use lib.ListN.{get_or, set}
use lib.Seq.{set-get_or}
use borrow.Author.Tests.{lt-ltb, le-ltb, ltb-true, ltb-false}
use Rattle.std.specs.Prelude.{Result, Ok, Err, Option, Some, None}
use Rattle.std.specs.Option.{option_eq}
use Rattle.submit.specs.contracts.SharesPartialEq.TheImpl.{eq-value}
use Rattle.rules.specs.Numbers.{nodes_most, queue_room}
use Rattle.rules.specs.Words.{has}
use Rattle.rules.specs.Tree.{is_leaf}
use Rattle.rules.specs.Budget.{empty_queue, row_at, queue_at, share_at, with_books, put_leaf, pushed, rebased, entered, ends_donation}
use Rattle.rules.specs.Cost.{is_forced}
use Rattle.rules.specs.Entries.{costing, submitted}
use Rattle.rules.specs.Question.{refused_by, when_active, when_inactive, ruling}
use Rattle.rules.specs.Invariant.{worth_most, Sound, SoundQueue, SoundTree, Within}
use Rattle.rules.specs.Results.{Answered, Costing, Submitted}
use Rattle.rules.proofs.Laws.Bools.{never}
use Rattle.rules.proofs.Laws.Trees.{leaves_are, root_no_leaf}
use Rattle.rules.proofs.Laws.Bools.{is_false}
use Rattle.rules.proofs.Laws.Submits.{put_each}
use Rattle.rules.proofs.Laws.Costs.{bio_in_range_lem, costing_costs_exactly_when}
use Rattle.rules.proofs.Laws.Tables.{get_D_inside}
use Rattle.rules.proofs.Laws.Resharing.{active_with, entering_keeps}
use Rattle.rules.proofs.Laws.Decisions.{entered_active}
use Rattle.rules.specs.declared.units.Abs.{Abs}
use Rattle.rules.specs.declared.cost.Bio.{Bio}
use Rattle.rules.specs.declared.tree.Tree.{Tree}
use Rattle.rules.specs.declared.budget.Own.{Own}
use Rattle.rules.specs.declared.budget.Row.{Row}
use Rattle.rules.specs.declared.budget.Queue.{Queue}
use Rattle.rules.specs.declared.budget.Controller.{Controller}
use Rattle.rules.specs.declared.refusals.Refusal.{Refusal}
use Rattle.rules.specs.declared.refusals.Refusal.TheVariants.{NoLeaf}
use Rattle.rules.specs.declared.refusals.Answer.{Answer}
use Rattle.rules.specs.declared.refusals.Answer.TheVariants.{Waits}
use Rattle.rules.specs.declared.refusals.Ruling.{Ruling}
use Rattle.leaf.specs.Alone.{length_only}
use Rattle.leaf.specs.Fit.{active_is_fit}
use Rattle.submit.specs.declared.View.{View}
use Rattle.submit.specs.declared.Shares.{Shares}
use Rattle.submit.specs.declared.Shares.TheVariants.{Activate, Return}
use Rattle.submit.specs.declared.Decision.{Decision}
use Rattle.submit.specs.OnLeaf.{CanRule, CanBook, queueing, queued, booked_by}
use Rattle.submit.proofs.Shapes.{leaf_node, at_node, found, model_is_sound, no_leaf_lem, unfit, Ready, ready_there, landed, submits, joins_to_wait, no_budget_gained, wakes, woken_within}
use Rattle.submit.proofs.Rulings.{no_leaf_ruled, uncosted_ruled, active_ruled, inactive_ruled, taken_is, booking_there, waits_there}
use Rattle.submit.specs.Decision.{place_of, view_at, CanDecide, shares_after, activates, judged_at, own_in, decided, decision_by, decision}

-- ---- the code's own steps
pub can_rule : (n : ℕ) (v : View) {o : Own} → o ≡ own_in n v → CanDecide n v → CanRule o
can_rule n v i can = rw i (record { prices = can.model; fit = can.fit })

module _ (b : Bio) (n : ℕ) (v : View) {o : Own} {r : Ruling} (i : o ≡ own_in n v) (e : r ≡ ruling b o) where
  is_ruled : r ≡ ruling b (own_in n v)
  is_ruled = e ∙ ap (ruling b) i

  answered : {a : Answered} → r.answer ≡ a → (ruling b (own_in n v)).answer ≡ a
  answered k = ap (λ (r : Ruling). r.answer) (sym is_ruled) ∙ k

  by_answer : {a : Answered} → r.answer ≡ a → decided a r.cost b n v ≡ decision b n v
  unfolding decision decision_by
  by_answer k = ap (λ (a : Answered). decided a r.cost b n v) (sym k) ∙ ap (λ (r : Ruling). decided r.answer r.cost b n v) is_ruled

  pub declines : {x : Refusal} → r.answer ≡ Err x → Err x ≡ decision b n v
  unfolding decided
  declines k = by_answer k

  module _ {a : Answer} (k : r.answer ≡ Ok a) where
    pub activates_first : o.active ≡ false → Ok (activates a v) ≡ decision b n v
    unfolding decided
    activates_first off = let e : has v.active n ≡ false = rw i at off in rw e at (by_answer k)

    module _ (on : o.active ≡ true) where
      pub can_book : CanDecide n v → {share : ℕ} → share ≡ v.share → CanBook b a r.cost share v.row
      can_book can h =
          rw (h, is_ruled)
          (booking_there b (own_in n v) (taken_is b (own_in n v) (answered k)) (rw i at on) (can_rule n v refl can) (answered k))

      judged_so : Ok (judged_at a b r.cost n v) ≡ decision b n v
      unfolding decided
      judged_so = let e : has v.active n ≡ true = rw i at on in rw e at (by_answer k)

      pub judges : {share : ℕ} {s : Option Shares} {row : Row} {q : Option Abs} → share ≡ v.share → s ≡ shares_after a v.donors n
          → row ≡ booked_by a b r.cost share v.row → q ≡ queueing a r.cost
          → Ok (record { answer = a; shares = s; row = row; queue = q }) ≡ decision b n v
      judges h s l q = rw (s, l, h, q) judged_so

-- ---- the decision by what the view shows
module _ (b : Bio) (n : ℕ) (v : View) where
  refused_decides : (x : Refusal) → refused_by x ≡ ruling b (own_in n v) → Err x ≡ decision b n v
  refused_decides x e = declines b n v refl e refl

  no_leaf_decides : has v.leaves n ≡ false → Err NoLeaf ≡ decision b n v
  no_leaf_decides l = refused_decides NoLeaf (no_leaf_ruled b (own_in n v) l)

  module _ (l : has v.leaves n ≡ true) where
    uncosted_decides : {x : Refusal} → costing v.model v.row b ≡ Err x → Err x ≡ decision b n v
    uncosted_decides {x} e = refused_decides x (uncosted_ruled b (own_in n v) l refl e)

    module _ {cost : Abs} (e : costing v.model v.row b ≡ Ok cost) where
      rests_decides : has v.active n ≡ false → Ok (activates (when_inactive (is_forced b)) v) ≡ decision b n v
      rests_decides off = activates_first b n v refl (inactive_ruled b (own_in n v) l refl e off refl refl) refl off

      active_decides : has v.active n ≡ true → decided (when_active (is_forced b) cost v.share v.row v.waiting) cost b n v ≡ decision b n v
      unfolding decision decision_by
      active_decides on = rw (sym (active_ruled b (own_in n v) l refl e on refl refl refl))

-- ---- what a state shows
-- an element read past the queues' end would be another empty one; inside it makes no difference
pub queue_read : {c : Controller} → Sound c → {n : ℕ} → n < nodes_most → get_or c.queues n (length_only 0) ≡ queue_at c n
queue_read {c} s {n} h = get_D_inside c.queues n (length_only 0) empty_queue (omega (arith, s.queues_all, h))

pub can_decide : {c : Controller} → Sound c → {n : ℕ} → n < nodes_most → CanDecide n (view_at n c)
can_decide {c} s {n} h = record { place = h; model = model_is_sound s; fit = λ a. (active_is_fit s n a).books }

-- ---- the bio's place
module _ (b : Bio) where
  pub place_inside : place_of b < nodes_most
  unfolding place_of
  place_inside = go (ltb b.node nodes_most) refl
    where
      go : (t : Bool) → ltb b.node nodes_most ≡ t → cond t b.node 0 < nodes_most
      go true e = ltb-true b.node nodes_most e
      go false e = omega arith

  place_in : b.node < nodes_most → place_of b ≡ b.node
  unfolding place_of
  place_in h = rw (lt-ltb b.node nodes_most h)

  place_past : nodes_most ≤ b.node → place_of b ≡ 0
  unfolding place_of
  place_past h = rw (le-ltb b.node nodes_most h)

  leaf_there : (t : Tree) → SoundTree t → is_leaf t (place_of b) ≡ is_leaf t b.node
  leaf_there t s = go (ltb b.node nodes_most) refl
    where
      go : (x : Bool) → ltb b.node nodes_most ≡ x → is_leaf t (place_of b) ≡ is_leaf t b.node
      go true e = ap (is_leaf t) (place_in (ltb-true b.node nodes_most e))
      go false e =
          let past : nodes_most ≤ b.node = ltb-false b.node nodes_most e in
          ap (is_leaf t) (place_past past) ∙ root_no_leaf t
          ∙ sym (is_false (is_leaf t b.node) (λ l. let inside : b.node < nodes_most = leaf_node t b.node s l in omega arith))

  -- the set of the leaves has the place exactly if the bio's node is a leaf, and then the place is the node
  pub is_leaf_lem : {c : Controller} → Sound c → has c.leaves (place_of b) ≡ is_leaf c.tree b.node
  is_leaf_lem {c} s = ap (λ (l : ℕ). has l (place_of b)) s.leaves ∙ leaves_are s.tree (place_of b) ∙ leaf_there c.tree s.tree

  pub at_leaf : (t : Tree) → SoundTree t → is_leaf t b.node ≡ true → place_of b ≡ b.node
  at_leaf t s leaf = place_in (leaf_node t b.node s leaf)

-- an answer and the state beside it
pub both : {a : Answered} {d : Controller} {s : Submitted} → ◌≡◌ {A = Submitted} (record { answer = a; state = d }) s → (a ≡ s.answer) × (d ≡ s.state)
both e = (ap (λ (k : Submitted). k.answer) e, ap (λ (k : Submitted). k.state) e)

-- ---- a decision is carried out: the leaf is put back, and a donation that ends, ends
unfoldable pub returned : Option Shares → Controller → Controller
returned None c = c
returned (Some Activate) c = c
returned (Some Return) c = rebased c.active c

abbrev pub carried : Bio → ℕ → Result Decision Refusal → Controller → Submitted
carried b n (Ok r) c =
    record { answer = Ok r.answer; state = returned r.shares (put_leaf n r.row (queued r.queue b.id (queue_at c n)) c) }
carried b n (Err x) c = record { answer = Err x; state = c }

-- the leaf's books, as the code puts them back: the queue only where the bio joins it
module _ (b : Bio) (r : Decision) (n : ℕ) (c : Controller) where
  abbrev Put : Controller → Type 0
  Put d = d ≡ put_leaf n r.row (queued r.queue b.id (queue_at c n)) c

  pub joining : Sound c → n ≡ place_of b → {cost : Abs} {q : Queue} → r.queue ≡ Some cost
      → q ≡ pushed b.id cost (get_or c.queues n (length_only 0)) → Put (put_leaf n r.row q c)
  unfolding queued
  joining s p {cost} e i = rw (e, i ∙ ap (pushed b.id cost) (queue_read s (at_node p (place_inside b))))

  pub as_it_was : r.queue ≡ None → Put (with_books (set c.rows n r.row) c.queues c)
  unfolding queued
  as_it_was e = rw (e, set-get_or c.queues n empty_queue)

module _ (b : Bio) (r : Decision) (n : ℕ) (c : Controller) {p : Controller} (q : p ≡ put_leaf n r.row (queued r.queue b.id (queue_at c n)) c) where
  pub returning : {d : Controller} → r.shares ≡ Some Return → d ≡ rebased p.active p
      → ◌≡◌ {A = Submitted} (record { answer = Ok r.answer; state = d }) (carried b n (Ok r) c)
  unfolding returned
  returning e i = rw (e, i, q)

  pub staying : (r.shares ≡ Some Return → ⊥) → ◌≡◌ {A = Submitted} (record { answer = Ok r.answer; state = p }) (carried b n (Ok r) c)
  unfolding returned
  staying k = rw q (go r.shares k)
    where
      go : (s : Option Shares) → (s ≡ Some Return → ⊥)
          → ◌≡◌ {A = Submitted} (record { answer = Ok r.answer; state = put_leaf n r.row (queued r.queue b.id (queue_at c n)) c })
          (record { answer = Ok r.answer; state = returned s (put_leaf n r.row (queued r.queue b.id (queue_at c n)) c) })
      go None k = refl
      go (Some Activate) k = refl
      go (Some Return) k = absurd (k refl)

-- what an active leaf is answered, carried out
judged_carried : (b : Bio) (c : Controller) (n : ℕ) (cost : Abs) → has c.active n ≡ true → (a : Answered)
    → carried b n (decided a cost b n (view_at n c)) c ≡ landed b n a cost c
unfolding returned shares_after decided
judged_carried b c n cost on (Err x) = refl
judged_carried b c n cost on (Ok a) =
    rw on
    (go (ends_donation a && has c.donors n)
    (put_leaf n (booked_by a b cost (share_at c n) (row_at c n)) (queued (queueing a cost) b.id (queue_at c n)) c))
  where
    go : (t : Bool) (after : Controller) → ◌≡◌ {A = Submitted} (record { answer = Ok a; state = returned (cond t (Some Return) None) after })
        (record { answer = Ok a; state = cond t (rebased after.active after) after })
    go true after = refl
    go false after = refl

-- in a state in which its leaf is active, the bio is judged
judged_there : {b : Bio} {cost : Abs} {d : Controller} → Ready b cost d → {n : ℕ} → n ≡ b.node
    → decision b n (view_at n d) ≡ decided (when_active (is_forced b) cost (share_at d n) (row_at d n) (queue_at d n).len) cost b n (view_at n d)
judged_there {b} {cost} {d} ready {n} m =
    let leaf : has d.leaves n ≡ true =
    rw m (ap (λ (l : ℕ). has l b.node) ready.sound.leaves ∙ leaves_are ready.sound.tree b.node ∙ ready.sound.active b.node ready.active) in
    let costs : costing d.model (row_at d n) b ≡ Ok cost =
    rw m
    ((costing_costs_exactly_when d.model (row_at d b.node) b cost).1
    (((bio_in_range_lem b).0 ready.range, rw ready.same at ready.cheap), ready.same)) in
    sym (active_decides b n (view_at n d) leaf costs (rw m ready.active))

-- ---- the bio at its place, where it costs what it may: once its leaf is active, what is decided is the rule's
module _ {c : Controller} (s : Sound c) (b : Bio) (leaf : is_leaf c.tree b.node ≡ true) (cost : Abs)
    (costs : costing c.model (row_at c b.node) b ≡ Ok cost) {n : ℕ} (m : n ≡ b.node)
  where
    lands : {d : Controller} → d ≡ entered n c → carried b n (decision b n (view_at n d)) d ≡ submitted b c
    lands {d} i =
        let ready : Ready b cost d = ready_there s b leaf cost costs m i in
        ap (λ (q : Result Decision Refusal). carried b n q d) (judged_there ready m)
        ∙ judged_carried b d n cost (rw m ready.active) (when_active (is_forced b) cost (share_at d n) (row_at d n) (queue_at d n).len)
        ∙ submits s b leaf cost costs m i

-- ---- which views have the leaf become active
pub record Activating (b : Bio) (n : ℕ) (v : View) : Type 0 where
  pub leaf : has v.leaves n ≡ true
  pub cost : Abs
  pub costs : costing v.model v.row b ≡ Ok cost
  pub off : has v.active n ≡ false

judged_stays : (a : Answer) (donors n : ℕ) → shares_after a donors n ≡ Some Activate → ◌≡◌ {A = ℕ} 0 1
unfolding shares_after
judged_stays a donors n = go (ends_donation a && has donors n)
  where
    go : (t : Bool) → ◌≡◌ {A = Option Shares} (cond t (Some Return) None) (Some Activate) → ◌≡◌ {A = ℕ} 0 1
    go true e = cc
    go false e = cc

-- what is decided on a bio that is accepted: it is judged at an active leaf, and any other leaf is to become active
pub record Taking (b : Bio) (n : ℕ) (v : View) (r : Decision) : Type 0 where
  pub answer : Answer
  pub cost : Abs
  pub ruled : (ruling b (own_in n v)).answer ≡ Ok answer
  pub is : r ≡ cond (has v.active n) (judged_at answer b cost n v) (activates answer v)

module _ (b : Bio) (n : ℕ) (v : View) {r : Decision} (e : Ok r ≡ decision b n v) where
  taking : Taking b n v r
  unfolding decision decision_by decided
  taking = go (ruling b (own_in n v)).answer refl
    where
      go : (a : Answered) → (ruling b (own_in n v)).answer ≡ a → Taking b n v r
      go (Ok a) k =
          let same : Ok r ≡ decided (Ok a) (ruling b (own_in n v)).cost b n v = e ∙ ap (λ (a : Answered). decided a (ruling b (own_in n v)).cost b n v) k in
          record { answer = a; cost = (ruling b (own_in n v)).cost; ruled = k; is = cc }
      go (Err x) k =
          let no : Ok r ≡ decided (Err x) (ruling b (own_in n v)).cost b n v = e ∙ ap (λ (a : Answered). decided a (ruling b (own_in n v)).cost b n v) k in
          never (cc)

  judged : (w : Taking b n v r) → has v.active n ≡ true → r ≡ judged_at w.answer b w.cost n v
  judged w on = rw on at w.is

  rests : (w : Taking b n v r) → has v.active n ≡ false → r ≡ activates w.answer v
  rests w off = rw off at w.is

  activating : r.shares ≡ Some Activate → Activating b n v
  activating i = go (has v.active n) refl
    where
      go : (t : Bool) → has v.active n ≡ t → Activating b n v
      go true on =
          never (judged_stays taking.answer v.donors n (ap (λ (k : Decision). k.shares) (sym (judged taking on)) ∙ i))
      go false off =
          let passed = taken_is b (own_in n v) taking.ruled in
          record { leaf = passed.leaf; cost = passed.cost; costs = passed.costs; off = off }

  -- no bio adds to the budget at its place
  no_budget_decided : r.row.budget.0 ≤ v.row.budget.0
  no_budget_decided = go (has v.active n) refl
    where
      go : (t : Bool) → has v.active n ≡ t → r.row.budget.0 ≤ v.row.budget.0
      go true on = rw (judged taking on) (no_budget_gained b taking.cost v.share v.row taking.answer)
      go false off = rw (rests taking off) (omega arith)

  -- a bio joins a queue only where that has room
  joins_room : {k : Abs} → r.queue ≡ Some k → v.waiting < queue_room
  joins_room {k} i = go (has v.active n) refl
    where
      go : (t : Bool) → has v.active n ≡ t → v.waiting < queue_room
      go true on =
          let waits : taking.answer ≡ Waits = joins_to_wait taking.answer taking.cost (ap (λ (k : Decision). k.queue) (sym (judged taking on)) ∙ i) in
          waits_there b (own_in n v) (taken_is b (own_in n v) taking.ruled) on (rw waits at taking.ruled)
      go false off =
          let none : ◌≡◌ {A = Option Abs} None (Some k) = ap (λ (k : Decision). k.queue) (sym (rests taking off)) ∙ i in never (cc)

-- a decision that is to be carried out, and the state to do it in: that of the bio, or the one in which its leaf is active
pub record Carries (b : Bio) (c : Controller) (n : ℕ) (r : Decision) (d : Controller) : Type 0 where
  pub sound : Sound d
  pub same : Ok r ≡ decision b n (view_at n d)
  pub whole : carried b n (Ok r) d ≡ submitted b c

-- ---- what the code asks of a decision
pub shares_are : (o : Option Shares) (s : Shares) {r : Bool} → r ≡ option_eq eq-value.it o (Some s) → r ≡ true → o ≡ Some s
shares_are None s e t = never (cc)
shares_are (Some Activate) Activate e t = refl
shares_are (Some Activate) Return e t = never (cc)
shares_are (Some Return) Activate e t = never (cc)
shares_are (Some Return) Return e t = refl

pub shares_are_not : (o : Option Shares) (s : Shares) {r : Bool} → r ≡ option_eq eq-value.it o (Some s) → r ≡ false → o ≡ Some s → ⊥
shares_are_not (Some Activate) Activate e f k = never (cc)
shares_are_not (Some Return) Return e f k = never (cc)
shares_are_not None s e f k = never (cc)
shares_are_not (Some Activate) Return e f k = never (cc)
shares_are_not (Some Return) Activate e f k = never (cc)

-- ---- what is decided in a sound state
module _ {c : Controller} (s : Sound c) (b : Bio) {n : ℕ} (p : n ≡ place_of b) where
  here : is_leaf c.tree b.node ≡ true → n ≡ b.node
  here leaf = p ∙ at_leaf b c.tree s.tree leaf

  leaf_is : has c.leaves n ≡ is_leaf c.tree b.node
  leaf_is = rw p (is_leaf_lem b s)

  -- no leaf is to become active: it is what the rule says
  pub settles : ((r : Decision) → Ok r ≡ decision b n (view_at n c) → r.shares ≡ Some Activate → ⊥) → carried b n (decision b n (view_at n c)) c ≡ submitted b c
  settles k = go (has c.leaves n) refl
    where
      awake : is_leaf c.tree b.node ≡ true → (cost : Abs) → costing c.model (row_at c n) b ≡ Ok cost → (u : Bool) → has c.active n ≡ u
          → carried b n (decision b n (view_at n c)) c ≡ submitted b c
      awake l cost f true o = lands s b l cost (found b c (here l) refl f) (here l) (sym (entered_active n c o))
      awake l cost f false o = absurd (k _ (rests_decides b n (view_at n c) (leaf_is ∙ l) f o) refl)

      costed : is_leaf c.tree b.node ≡ true → (x : Costing) → costing c.model (row_at c n) b ≡ x
          → carried b n (decision b n (view_at n c)) c ≡ submitted b c
      costed l (Ok cost) f = awake l cost f (has c.active n) refl
      costed l (Err x) f =
          ap (λ (q : Result Decision Refusal). carried b n q c) (sym (uncosted_decides b n (view_at n c) (leaf_is ∙ l) f))
          ∙ unfit s b l x (found b c (here l) refl f)

      go : (t : Bool) → has c.leaves n ≡ t → carried b n (decision b n (view_at n c)) c ≡ submitted b c
      go true l = costed (sym leaf_is ∙ l) (costing c.model (row_at c n) b) refl
      go false l =
          ap (λ (q : Result Decision Refusal). carried b n q c) (sym (no_leaf_decides b n (view_at n c) l)) ∙ no_leaf_lem s b (sym leaf_is ∙ l)

  -- a bio that is refused leaves all as it was
  pub refuses : {x : Refusal} → Err x ≡ decision b n (view_at n c) → carried b n (Err x) c ≡ submitted b c
  refuses e = ap (λ (q : Result Decision Refusal). carried b n q c) e ∙ settles (λ r i. never (cc (e, i)))

  module _ {r : Decision} (e : Ok r ≡ decision b n (view_at n c)) where
    -- the queue that a bio joins, as the code reads it
    pub can_join : {k : Abs} → r.queue ≡ Some k
        → SoundQueue (get_or c.queues n (length_only 0)) × ((get_or c.queues n (length_only 0)).len < queue_room)
    can_join i =
        rw (queue_read s (at_node p (place_inside b)))
        (s.queue n, joins_room b n (view_at n c) e i)

    pub can_return : {d : Controller} → d ≡ put_leaf n r.row (queued r.queue b.id (queue_at c n)) c
        → SoundTree d.tree × Within d.tree d.active × ((k : ℕ) → (row_at d k).budget.0 * share_at d k ≤ worth_most)
    can_return i =
        rw i (
          s.tree,
          s.active,
          put_each (λ k q w. q.budget.0 * share_at c k ≤ worth_most) n r.row (queued r.queue b.id (queue_at c n)) c s.rows_all s.queues_all
              (rw p (place_inside b)) (le_trans (mul-le-mul (no_budget_decided b n (view_at n c) e) (omega arith)) (s.worth_at_most n)) (λ k i. s.worth_at_most k),
        )

    pub at_once : (r.shares ≡ Some Activate → ⊥) → Carries b c n r c
    at_once k = record {
      sound = s;
      same = e;
      whole = ap (λ (q : Result Decision Refusal). carried b n q c) e ∙ settles (λ q i. let same : q ≡ r = cc (e, i) in rw same k);
    }

    -- ---- the leaf is to become active
    module _ (i : r.shares ≡ Some Activate) where
      waking : Activating b n (view_at n c)
      waking = activating b n (view_at n c) e i

      leaf_found : is_leaf c.tree b.node ≡ true
      leaf_found = sym leaf_is ∙ waking.leaf

      pub woken_active : SoundTree c.tree × Within c.tree (active_with n c) × ((k : ℕ) → (row_at c k).budget.0 * share_at c k ≤ worth_most)
      woken_active = (s.tree, woken_within s n (rw (here leaf_found) leaf_found) waking.off, s.worth_at_most)

      module _ {d : Controller} (w : d ≡ rebased (active_with n c) c) where
        is_entered : d ≡ entered n c
        is_entered = w ∙ sym (wakes s n waking.off)

        pub woken_sound : Sound d
        woken_sound = rw is_entered (entering_keeps s n (rw (here leaf_found) leaf_found))

        pub woken_whole : {q : Result Decision Refusal} → q ≡ decision b n (view_at n d) → carried b n q d ≡ submitted b c
        woken_whole k =
            rw k (lands s b leaf_found waking.cost (found b c (here leaf_found) refl waking.costs) (here leaf_found) is_entered)

        pub once_woken : {q : Decision} → Ok q ≡ decision b n (view_at n d) → Carries b c n q d
        once_woken k = record { sound = woken_sound; same = k; whole = woken_whole k }
