-- A submission: it keeps the invariant, charges no more than was saved, and balances the books of every leaf.
-- Assumes nothing.
use Rattle.std.specs.Prelude.{◌≡◌, Bool, cond, ◌&&◌, List, ◌≢◌, leb, ltb, length, get_or, Err, Ok}
use Rattle.std.proofs.Math.Path.{refl, ap}
use Rattle.std.proofs.Common.{sym, ◌∙◌, get_or-set_same, get_or-set_other, leb-false, ltb-false, eq-eqb, ne_eqb}
use Rattle.std.proofs.Math.Bool.{true, false}
use Rattle.std.proofs.Math.Logic.{dite}
use Prim.Native.Nat.{ℕ, ◌+◌, ◌*◌, ◌^◌, ◌≤◌, ◌<◌}
use Rattle.std.proofs.Math.Nat.{le_trans}
use Rattle.std.proofs.Math.Decide.{ℕ_discrete}
use native.Mathlib.Omega.{arith}
use Rattle.std.proofs.Math.ListN.{length-set}
use Rattle.std.proofs.lemmas.Bool.{not-false}
use Rattle.rules.specs.Numbers.{whole, nodes_most, leaf_most, queue_room, cost_most, debt_most, end_most}
use Rattle.rules.specs.Words.{sum_to, has, no_node}
use Rattle.rules.specs.Cost.{cost_of, end_of, is_flush, is_forced, is_sequential, bio_in_range}
use Rattle.rules.specs.Tree.{is_leaf}
use Rattle.rules.specs.Budget.{empty_row, empty_queue, row_at, queue_at, share_at, put_leaf, noted, fits, rebased, entered, row_after, queue_after, ends_donation, answer_in, applied, settled, submission, would_be}
use Rattle.rules.specs.Refusals.{first_of, is_wait, is_debt, cost_checks, room_checks, submit_checks}
use Rattle.rules.specs.Entries.{submitted_by, submitted}
use Rattle.rules.specs.Invariant.{SoundRow, SoundQueue, IdleLeaf, Sound}
use Rattle.rules.specs.Ledger.{Call, after, cost_of_first, waiting, owed, if_taken, if_issued, if_waits, if_on_debt, cost_on, accepted, issued, released, repaid, charged, generated, saved}
use Rattle.rules.proofs.Laws.Bools.{true_not_false}
use Rattle.rules.proofs.Laws.Sums.{sum_le, sum_add, sum_scale}
use Rattle.rules.proofs.Laws.Sets.{has_none}
use Rattle.rules.proofs.Laws.Costs.{end_at_most}
use Rattle.rules.proofs.Laws.Queues.{pushed_sound, pushed_waiting}
use Rattle.rules.proofs.Laws.Rows.{fitting_charge_pays, charge_keeps, owing_keeps, noted_keeps}
use Rattle.rules.proofs.Laws.Answers.{issued_fits}
use Rattle.rules.proofs.Laws.Verdicts.{accepted_exactly_when}
use Rattle.rules.proofs.Laws.Resharing.{FreeLeaf, SoundRoles, SoundBooks, shares_of, roles_of, books_of, sound_of, active_node, rebasing_keeps, Reweighed, reweighed_itself, rebasing_reweighs, active_of_rebased, entering_keeps, entering_reweighs, entered_is_active, entering_leaves_all_active}
use Rattle.rules.specs.declared.units.Abs.{Abs}
use Rattle.rules.specs.declared.cost.Model.{Model}
use Rattle.rules.specs.declared.cost.Bio.{Bio}
use Rattle.rules.specs.declared.budget.Row.{Row}
use Rattle.rules.specs.declared.budget.Queue.{Queue}
use Rattle.rules.specs.declared.budget.Controller.{Controller}
use Rattle.rules.specs.declared.refusals.Refusal.{Refusal}
use Rattle.rules.specs.declared.refusals.Answer.{Answer}
use Rattle.rules.specs.declared.refusals.Answer.TheVariants.{Issued, Waits, OnDebt}
use Rattle.rules.specs.Results.{Verdict, Answered}

-- ---- what an answer leaves of its leaf
pub record AnswerKeeps (a : Answer) (cost share : ℕ) (r : Row) (q : Queue) (r' : Row) (q' : Queue) : Type 0 where
  pub worth : if_issued (Ok a) cost * whole + r'.budget.0 * share ≤ r.budget.0 * share
  pub usage : r'.usage.0 ≡ r.usage.0 + if_issued (Ok a) cost
  pub waiting : cost_of_first q' q'.len ≡ cost_of_first q q.len + if_waits (Ok a) cost
  pub owed : r'.debt.0 ≡ r.debt.0 + if_on_debt (Ok a) cost
  pub row : SoundRow r'
  pub queue : SoundQueue q'
  pub free : ends_donation a ≡ false → FreeLeaf r q → FreeLeaf r' q'

-- what the answer was given for: an issued bio fits, a waiting one has a place, and a debt stays within its limit
pub record Fair (a : Answer) (cost : Abs) (share : ℕ) (r : Row) (q : Queue) : Type 0 where
  pub fit : a ≡ Issued → fits cost share r ≡ true
  pub place : a ≡ Waits → q.len < queue_room
  pub limit : a ≡ OnDebt → r.debt.0 + cost.0 ≤ debt_most

module _ (b : Bio) (cost : Abs) (share : ℕ) (r : Row) (q : Queue) (pos : 0 < share) (small : cost.0 ≤ cost_most) (near : end_of b ≤ end_most)
    (row : SoundRow r) (queue : SoundQueue q)
  where
    pub answer_keeps : (a : Answer) → Fair a cost share r q
        → AnswerKeeps a cost.0 share r q (noted b (row_after a cost share r)) (queue_after a b.id cost q)
    unfolding row_after queue_after
    answer_keeps Issued f =
        let p = fitting_charge_pays cost share r pos (f.fit refl) in
        record {
          worth = p.worth;
          usage = p.usage;
          waiting = omega arith;
          owed = omega arith;
          row = noted_keeps b _ near (charge_keeps cost share r row);
          queue = queue;
          free = λ e w. record { no_debt = w.no_debt; no_waiter = w.no_waiter };
        }
    answer_keeps Waits f = record {
      worth = omega arith;
      usage = omega arith;
      waiting = pushed_waiting q b.id cost queue (f.place refl);
      owed = omega arith;
      row = noted_keeps b r near row;
      queue = pushed_sound q queue b.id cost (f.place refl) small;
      free = λ e. absurd (true_not_false refl e);
    }
    answer_keeps OnDebt f = record {
      worth = omega arith;
      usage = omega arith;
      waiting = omega arith;
      owed = omega arith;
      row = noted_keeps b _ near (owing_keeps cost r (f.limit refl) row);
      queue = queue;
      free = λ e. absurd (true_not_false refl e);
    }

-- ---- what a row holds beside its budget, its debt and its usage
pub record SameMarks (r r' : Row) : Type 0 where
  pub end : r'.end ≡ r.end
  pub begun : r'.begun ≡ r.begun
  pub accepted : r'.accepted ≡ r.accepted

pub same_marks : (r : Row) → SameMarks r r
same_marks r = record { end = refl; begun = refl; accepted = refl }

then_marks : {p q r : Row} → SameMarks p q → SameMarks q r → SameMarks p r
then_marks x y = record { end = y.end ∙ x.end; begun = y.begun ∙ x.begun; accepted = y.accepted ∙ x.accepted }

-- an answer by itself leaves them: what is noted comes on top
answer_marks : (a : Answer) (cost : Abs) (share : ℕ) (r : Row) → SameMarks r (row_after a cost share r)
unfolding row_after
answer_marks Issued cost share r = record { end = refl; begun = refl; accepted = refl }
answer_marks Waits cost share r = record { end = refl; begun = refl; accepted = refl }
answer_marks OnDebt cost share r = record { end = refl; begun = refl; accepted = refl }

noted_marks : (b : Bio) {r r' : Row} → SameMarks r r' → SameMarks (noted b r) (noted b r')
noted_marks b x = record {
  end = ap (λ e. cond (is_flush b) e (end_of b)) x.end;
  begun = ap (λ t. cond (is_flush b) t true) x.begun;
  accepted = refl;
}

-- they are, of the bio's own leaf, as noted, and of every other leaf as they were
pub record Noted (b : Bio) (j : ℕ) (r r' : Row) : Type 0 where
  pub here : j ≡ b.node → SameMarks (noted b r) r'
  pub elsewhere : j ≢ b.node → SameMarks r r'

notes_between : {b : Bio} {j : ℕ} {p q r t : Row} → SameMarks p q → Noted b j q r → SameMarks r t → Noted b j p t
notes_between {b} x n y = record {
  here = λ e. then_marks (then_marks (noted_marks b x) (n.here e)) y;
  elsewhere = λ e. then_marks (then_marks x (n.elsewhere e)) y;
}

-- ---- one leaf is put back: what holds of it and of the others holds everywhere
pub put_each : (P : ℕ → Row → Queue → Type 0) (n : ℕ) (r : Row) (q : Queue) (c : Controller)
    → length c.rows ≡ nodes_most → length c.queues ≡ nodes_most → n < nodes_most
    → P n r q → ((k : ℕ) → k ≢ n → P k (row_at c k) (queue_at c k))
    → (k : ℕ) → P k (row_at (put_leaf n r q c) k) (queue_at (put_leaf n r q c) k)
put_each P n r q c rows queues l new old k =
    dite (ℕ_discrete k n)
    (λ (e : k ≡ n).
    rw (e, get_or-set_same c.rows n r empty_row (omega arith), get_or-set_same c.queues n q empty_queue (omega arith)) new)
    (λ (e : k ≢ n). rw (get_or-set_other c.rows n k r empty_row e, get_or-set_other c.queues n k q empty_queue e) (old k e))

-- what a leaf has used and saved, in WHOLEths
abbrev spent_at : Controller → ℕ → ℕ
spent_at c k = whole * (row_at c k).usage.0 + (row_at c k).budget.0 * share_at c k

spent_sum : (c : Controller) → sum_to (spent_at c) leaf_most ≡ sum_to (λ k. (row_at c k).usage.0) leaf_most * whole + saved c
unfolding saved
spent_sum c =
    omega (
      arith,
      sum_add (λ k. whole * (row_at c k).usage.0) (λ k. (row_at c k).budget.0 * share_at c k) leaf_most,
      sum_scale (λ k. (row_at c k).usage.0) whole leaf_most,
    )

-- ---- other shares change no debt, no queue and no cost
module _ {c c' : Controller} (w : Reweighed c c') where
  pub reweighed_debt : (j : ℕ) → (row_at c' j).debt.0 ≡ (row_at c j).debt.0
  reweighed_debt j = ap (λ (r : Row). r.debt.0) (w.row j)

  pub reweighed_queue : (j : ℕ) → queue_at c' j ≡ queue_at c j
  reweighed_queue j = ap (λ (l : List Queue). get_or l j empty_queue) w.queues

  pub reweighed_waiting : (j : ℕ) → waiting c' j ≡ waiting c j
  reweighed_waiting j = ap (λ (q : Queue). cost_of_first q q.len) (reweighed_queue j)

  reweighed_marks : (j : ℕ) → SameMarks (row_at c j) (row_at c' j)
  reweighed_marks j = record {
    end = ap (λ (r : Row). r.end) (w.row j);
    begun = ap (λ (r : Row). r.begun) (w.row j);
    accepted = ap (λ (r : Row). r.accepted) (w.row j);
  }

  pub reweighed_cost : (b : Bio) (j : ℕ) → cost_of c'.model (row_at c' j) b ≡ cost_of c.model (row_at c j) b
  unfolding cost_of is_sequential
  reweighed_cost b j = ap (λ (r : Row). cost_of c'.model r b) (w.row j) ∙ ap (λ (m : Model). cost_of m (row_at c j) b) w.model

  pub reweighed_cost_on : (b : Bio) (j : ℕ) → cost_on j b c' ≡ cost_on j b c
  unfolding cost_on
  reweighed_cost_on b j = rw (reweighed_cost b j)

-- ---- the answer applied to a state in which the bio's leaf is active
abbrev pub cost_in : Controller → Bio → Abs
cost_in c b = cost_of c.model (row_at c b.node) b

abbrev Kept : Controller → Bio → Answer → Type 0
Kept c b a =
    AnswerKeeps a (cost_in c b).0 (share_at c b.node) (row_at c b.node) (queue_at c b.node)
    (noted b (row_after a (cost_in c b) (share_at c b.node) (row_at c b.node)))
    (queue_after a b.id (cost_in c b) (queue_at c b.node))

pub none_issued : (a : Answered) → if_issued a 0 ≡ 0
none_issued (Ok Issued) = refl
none_issued (Ok Waits) = refl
none_issued (Ok OnDebt) = refl
none_issued (Err x) = refl

none_waits : (a : Answered) → if_waits a 0 ≡ 0
none_waits (Ok Issued) = refl
none_waits (Ok Waits) = refl
none_waits (Ok OnDebt) = refl
none_waits (Err x) = refl

none_owed : (a : Answered) → if_on_debt a 0 ≡ 0
none_owed (Ok Issued) = refl
none_owed (Ok Waits) = refl
none_owed (Ok OnDebt) = refl
none_owed (Err x) = refl

-- a bio that is taken is issued, waits or goes on debt
pub taken_is_one_of_three : (a : Answered) (cost : ℕ) → if_taken a cost ≡ if_issued a cost + if_waits a cost + if_on_debt a cost
taken_is_one_of_three (Ok Issued) cost = omega arith
taken_is_one_of_three (Ok Waits) cost = omega arith
taken_is_one_of_three (Ok OnDebt) cost = omega arith
taken_is_one_of_three (Err x) cost = omega arith

pub cost_here : (b : Bio) (c : Controller) → cost_on b.node b c ≡ (cost_in c b).0
unfolding cost_on
cost_here b c = rw (eq-eqb b.node b.node refl)

pub cost_elsewhere : (b : Bio) (c : Controller) (j : ℕ) → j ≢ b.node → cost_on j b c ≡ 0
unfolding cost_on
cost_elsewhere b c j e = rw (ne_eqb b.node j (λ i. e (sym i)))

module _ {c : Controller} (s : Sound c) (b : Bio) (a : Answer) (on : has c.active b.node ≡ true) (kept : Kept c b a) where
  node : b.node < nodes_most
  node = active_node s.tree c.active s.active b.node on

  -- what holds of the bio's leaf, and of the others as they were, holds of each
  each : (P : ℕ → Row → Queue → Type 0)
      → P b.node (noted b (row_after a (cost_in c b) (share_at c b.node) (row_at c b.node))) (queue_after a b.id (cost_in c b) (queue_at c b.node))
      → ((j : ℕ) → j ≢ b.node → P j (row_at c j) (queue_at c j))
      → (j : ℕ) → P j (row_at (applied a b c) j) (queue_at (applied a b c) j)
  unfolding applied
  each P new old = put_each P b.node _ _ c s.rows_all s.queues_all node new old

  applied_worth : (j : ℕ) → (row_at (applied a b c) j).budget.0 * share_at c j ≤ (row_at c j).budget.0 * share_at c j
  applied_worth =
      each (λ j r q. r.budget.0 * share_at c j ≤ (row_at c j).budget.0 * share_at c j) (omega (arith, kept.worth)) (λ j e. omega arith)

  applied_spent : (j : ℕ) → whole * (row_at (applied a b c) j).usage.0 + (row_at (applied a b c) j).budget.0 * share_at c j ≤ spent_at c j
  applied_spent =
      each (λ j r q. whole * r.usage.0 + r.budget.0 * share_at c j ≤ spent_at c j) (omega (arith, kept.worth, kept.usage)) (λ j e. omega arith)

  applied_books : SoundBooks (applied a b c)
  unfolding applied
  applied_books = record {
    tree = s.tree;
    thick = s.thick;
    leaves = s.leaves;
    model = s.model;
    clock = s.clock;
    rows_all = length-set c.rows b.node _ ∙ s.rows_all;
    queues_all = length-set c.queues b.node _ ∙ s.queues_all;
    row = each (λ j r q. SoundRow r) kept.row (λ j e. s.row j);
    queue = each (λ j r q. SoundQueue q) kept.queue (λ j e. s.queue j);
    worth_at_most = λ j. le_trans (applied_worth j) (s.worth_at_most j);
    usage_at_most =
        omega (
          arith,
          (books_of s).usage_at_most,
          spent_sum c,
          spent_sum (applied a b c),
          sum_le (spent_at (applied a b c)) (spent_at c) leaf_most (λ j p q. applied_spent j),
        );
  }

  -- the active leaves stay, and so do those donors that owe nothing and wait for nothing
  applied_roles : (d : ℕ) → d < 2 ^ 64 → ((j : ℕ) → has d j ≡ true → has c.donors j ≡ true) → (has d b.node ≡ true → ends_donation a ≡ false)
      → SoundRoles (applied a b c) c.active d
  unfolding applied
  applied_roles d fits sub stays = record {
    active_fits = s.active_fits;
    donors_fit = fits;
    leaves = s.active;
    donors_active = λ j e. (s.donors j (sub j e)).active;
    donors_free =
        each (λ j r q. has d j ≡ true → FreeLeaf r q)
        (λ e. kept.free (stays e) ((roles_of s).donors_free b.node (sub b.node e)))
        (λ j i e. (roles_of s).donors_free j (sub j e));
    idle =
        each (λ j r q. has c.active j ≡ false → IdleLeaf r q)
        (λ e. absurd (true_not_false on e))
        (λ j i e. s.idle j e);
  }

  pub settling_keeps : Sound (settled a b c)
  unfolding settled applied
  settling_keeps = go (ends_donation a) (has c.donors b.node) refl refl
    where
      keep_donors : (has c.donors b.node ≡ true → ends_donation a ≡ false) → Sound (applied a b c)
      keep_donors h = sound_of applied_books (applied_roles c.donors s.donors_fit (λ j e. e) h) (shares_of s)

      go : (x y : Bool) → ends_donation a ≡ x → has c.donors b.node ≡ y
          → Sound (cond (x && y) (rebased c.active (applied a b c)) (applied a b c))
      go true true i j =
          rebasing_keeps applied_books c.active
          (applied_roles no_node (omega arith) (λ k e. absurd (true_not_false e (has_none k))) (λ e. absurd (true_not_false e (has_none b.node))))
      go true false i j = keep_donors (λ e. absurd (true_not_false e j))
      go false y i j = keep_donors (λ e. i)

  -- "the donation ends" leaves all but who donates, the shares and the budgets
  settling_reweighs : Reweighed (applied a b c) (settled a b c)
  unfolding settled
  settling_reweighs = go (ends_donation a && has c.donors b.node)
    where
      go : (t : Bool) → Reweighed (applied a b c) (cond t (rebased c.active (applied a b c)) (applied a b c))
      go true = rebasing_reweighs c.active (applied a b c) applied_books.rows_all
      go false = reweighed_itself (applied a b c)

  -- what an issued bio is charged is paid from what its leaf had saved
  applied_flow : (j : ℕ) → if_issued (Ok a) (cost_on j b c) * whole + (row_at (applied a b c) j).budget.0 * share_at (applied a b c) j
      ≤ (row_at c j).budget.0 * share_at c j
  unfolding applied
  applied_flow =
      each (λ j r q. if_issued (Ok a) (cost_on j b c) * whole + r.budget.0 * share_at c j ≤ (row_at c j).budget.0 * share_at c j)
      (rw (cost_here b c) kept.worth)
      (λ j e. rw (cost_elsewhere b c j e, none_issued (Ok a)) (omega arith))

  settled_flow : (j : ℕ) → if_issued (Ok a) (cost_on j b c) * whole + (row_at (settled a b c) j).budget.0 * share_at (settled a b c) j
      ≤ (row_at c j).budget.0 * share_at c j
  settled_flow j = omega (arith, applied_flow j, settling_reweighs.worth j)

  -- what waits and what is owed grows by the bio's cost as the answer says
  applied_waiting : (j : ℕ) → waiting (applied a b c) j ≡ waiting c j + if_waits (Ok a) (cost_on j b c)
  applied_waiting =
      each (λ j r q. cost_of_first q q.len ≡ waiting c j + if_waits (Ok a) (cost_on j b c))
      (rw (cost_here b c) kept.waiting)
      (λ j e. rw (cost_elsewhere b c j e, none_waits (Ok a)) (omega arith))

  applied_owed : (j : ℕ) → owed (applied a b c) j ≡ owed c j + if_on_debt (Ok a) (cost_on j b c)
  applied_owed =
      each (λ j r q. r.debt.0 ≡ owed c j + if_on_debt (Ok a) (cost_on j b c))
      (rw (cost_here b c) kept.owed)
      (λ j e. rw (cost_elsewhere b c j e, none_owed (Ok a)) (omega arith))

  applied_notes : (j : ℕ) → Noted b j (row_at c j) (row_at (applied a b c) j)
  applied_notes =
      each (λ j r q. Noted b j (row_at c j) r)
      (record { here = λ e. noted_marks b (answer_marks a _ _ _); elsewhere = λ n. absurd (n refl) })
      (λ j n. record { here = λ e. absurd (n e); elsewhere = λ e. same_marks (row_at c j) })

  settled_active : (settled a b c).active ≡ c.active
  unfolding settled applied
  settled_active = go (ends_donation a && has c.donors b.node)
    where
      go : (t : Bool) → (cond t (rebased c.active (applied a b c)) (applied a b c)).active ≡ c.active
      go true = active_of_rebased c.active (applied a b c)
      go false = refl

-- ---- a bio that is not refused
pub record Admitted (b : Bio) (c : Controller) : Type 0 where
  pub leaf : is_leaf c.tree b.node ≡ true
  pub range : bio_in_range b ≡ true
  pub cost : (cost_in c b).0 ≤ cost_most
  pub place : would_be c b ≡ Waits → (queue_at c b.node).len < queue_room
  pub limit : would_be c b ≡ OnDebt → (row_at c b.node).debt.0 + (cost_in c b).0 ≤ debt_most

wait_has_place : (a : Answer) (len : ℕ) → (is_wait a && leb queue_room len) ≡ false → a ≡ Waits → len < queue_room
wait_has_place a len e i = leb-false queue_room len (rw i at e)

debt_has_limit : (a : Answer) (sum : ℕ) → (is_debt a && ltb debt_most sum) ≡ false → a ≡ OnDebt → sum ≤ debt_most
debt_has_limit a sum e i = ltb-false debt_most sum (rw i at e)

pub admitted : (b : Bio) (c : Controller) → first_of (submit_checks b c) ≡ Ok tt → Admitted b c
unfolding submit_checks cost_checks room_checks
admitted b c e =
    let w = (accepted_exactly_when (submit_checks b c)).0 e in
    record {
      leaf = not-false (is_leaf c.tree b.node) w.0;
      range = not-false (bio_in_range b) w.1.0;
      cost = ltb-false cost_most (cost_in c b).0 w.1.1.0;
      place = wait_has_place (would_be c b) (queue_at c b.node).len w.1.1.1.0;
      limit = debt_has_limit (would_be c b) ((row_at c b.node).debt.0 + (cost_in c b).0) w.1.1.1.1.0;
    }

module _ {c : Controller} (s : Sound c) (b : Bio) (ok : Admitted b c) where
  -- the state in which the bio is judged
  there : Sound (entered b.node c)
  there = entering_keeps s b.node ok.leaf

  same : Reweighed c (entered b.node c)
  same = entering_reweighs s b.node

  on : has (entered b.node c).active b.node ≡ true
  on = entered_is_active s b.node ok.leaf

  same_cost : cost_in (entered b.node c) b ≡ cost_in c b
  same_cost = reweighed_cost same b b.node

  fair : Fair (would_be c b) (cost_in (entered b.node c) b) (share_at (entered b.node c) b.node) (row_at (entered b.node c) b.node)
      (queue_at (entered b.node c) b.node)
  unfolding would_be answer_in
  fair = record {
    fit = λ e. issued_fits _ _ _ _ (is_forced b) e;
    place = λ e. rw same.queues (ok.place e);
    limit = λ e. rw (same_cost, reweighed_debt same b.node) (ok.limit e);
  }

  share_pos : 0 < share_at (entered b.node c) b.node
  share_pos = omega (arith, there.share_at_floor b.node on)

  kept : Kept (entered b.node c) b (would_be c b)
  kept =
      answer_keeps b (cost_in (entered b.node c) b) (share_at (entered b.node c) b.node) (row_at (entered b.node c) b.node)
      (queue_at (entered b.node c) b.node) share_pos (rw same_cost ok.cost) (end_at_most b ok.range) (there.row b.node) (there.queue b.node)
      (would_be c b) fair

  pub submission_keeps : Sound (submission b c).state
  unfolding submission would_be
  submission_keeps = settling_keeps there b (would_be c b) on kept

  submission_flow : (j : ℕ) → if_issued (submission b c).answer (cost_on j b c) * whole + (row_at (submission b c).state j).budget.0 * share_at (submission b c).state j
      ≤ (row_at c j).budget.0 * share_at c j
  unfolding submission would_be
  submission_flow j =
      omega (arith, rw (reweighed_cost_on same b j) at (settled_flow there b (would_be c b) on kept j), same.worth j)

  submission_waiting : (j : ℕ) → waiting (submission b c).state j ≡ waiting c j + if_waits (submission b c).answer (cost_on j b c)
  unfolding submission would_be
  submission_waiting j =
      reweighed_waiting (settling_reweighs there b (would_be c b) on kept) j
      ∙ rw (reweighed_cost_on same b j, reweighed_waiting same j) at (applied_waiting there b (would_be c b) on kept j)

  submission_owed : (j : ℕ) → owed (submission b c).state j ≡ owed c j + if_on_debt (submission b c).answer (cost_on j b c)
  unfolding submission would_be
  submission_owed j =
      reweighed_debt (settling_reweighs there b (would_be c b) on kept) j
      ∙ rw (reweighed_cost_on same b j, reweighed_debt same j) at (applied_owed there b (would_be c b) on kept j)

  pub submission_notes : (j : ℕ) → Noted b j (row_at c j) (row_at (submission b c).state j)
  unfolding submission would_be
  submission_notes j =
      notes_between (reweighed_marks same j) (applied_notes there b (would_be c b) on kept j)
      (reweighed_marks (settling_reweighs there b (would_be c b) on kept) j)

  -- an accepted bio's leaf is active, and so is each that was
  pub submission_leaves_all_active : (n : ℕ) → has c.active n ≡ true → has (submission b c).state.active n ≡ true
  unfolding submission would_be
  submission_leaves_all_active n a = rw (settled_active there b (would_be c b) on kept) (entering_leaves_all_active s b.node n a)

  pub submission_is_active : has (submission b c).state.active b.node ≡ true
  unfolding submission would_be
  submission_is_active = rw (settled_active there b (would_be c b) on kept) on

-- ---- any bio: a refused one changes nothing
module _ {c : Controller} (s : Sound c) (b : Bio) where
  -- by the verdict: a fact of the refused call's state and of the submission's is one of both
  pub by_verdict : (P : Answered → Controller → Type 0)
      → ((x : Refusal) → P (Err x) c) → (Admitted b c → P (submission b c).answer (submission b c).state)
      → P (submitted b c).answer (submitted b c).state
  unfolding submitted submitted_by
  by_verdict P refused taken = go (first_of (submit_checks b c)) refl
    where
      go : (v : Verdict) → first_of (submit_checks b c) ≡ v → P (submitted_by v b c).answer (submitted_by v b c).state
      go (Ok tt) e = taken (admitted b c e)
      go (Err x) e = refused x

  pub submit_keeps : Sound (submitted b c).state
  submit_keeps = by_verdict (λ a d. Sound d) (λ x. s) (λ ok. submission_keeps s b ok)

  -- what is charged is paid from what the leaves had saved; nothing is generated
  submitted_flow : (j : ℕ) → if_issued (submitted b c).answer (cost_on j b c) * whole + (row_at (submitted b c).state j).budget.0 * share_at (submitted b c).state j
      ≤ (row_at c j).budget.0 * share_at c j
  submitted_flow j =
      by_verdict (λ a d. if_issued a (cost_on j b c) * whole + (row_at d j).budget.0 * share_at d j ≤ (row_at c j).budget.0 * share_at c j)
      (λ x. omega arith) (λ ok. submission_flow s b ok j)

  pub submit_flow : charged (Call.submit b) c * whole + saved (after (Call.submit b) c) ≤ saved c + generated (Call.submit b) c * whole
  unfolding charged issued released repaid generated saved
  submit_flow =
      let worth : Controller → ℕ → ℕ = λ d j. (row_at d j).budget.0 * share_at d j in
      let paid : ℕ → ℕ = λ j. if_issued (submitted b c).answer (cost_on j b c) + 0 + 0 in
      omega (
        arith,
        sum_le (λ j. whole * paid j + worth (submitted b c).state j) (worth c) leaf_most (λ j p q. omega (arith, submitted_flow j)),
        sum_add (λ j. whole * paid j) (worth (submitted b c).state) leaf_most,
        sum_scale paid whole leaf_most,
      )

  -- what waits grows by the cost of a bio that is to wait, and what is owed by that of one on debt
  pub submit_waiting : (j : ℕ) → waiting (after (Call.submit b) c) j ≡ waiting c j + if_waits (submitted b c).answer (cost_on j b c)
  submit_waiting j =
      by_verdict (λ a d. waiting d j ≡ waiting c j + if_waits a (cost_on j b c)) (λ x. omega arith) (λ ok. submission_waiting s b ok j)

  pub submit_owed : (j : ℕ) → owed (after (Call.submit b) c) j ≡ owed c j + if_on_debt (submitted b c).answer (cost_on j b c)
  submit_owed j = by_verdict (λ a d. owed d j ≡ owed c j + if_on_debt a (cost_on j b c)) (λ x. omega arith) (λ ok. submission_owed s b ok j)

  pub submit_books : (j : ℕ) → waiting (after (Call.submit b) c) j + owed (after (Call.submit b) c) j + issued (Call.submit b) c j
      ≡ waiting c j + owed c j + accepted (Call.submit b) c j
  unfolding issued accepted
  submit_books j =
      omega (arith, submit_waiting j, submit_owed j, taken_is_one_of_three (submitted b c).answer (cost_on j b c))
