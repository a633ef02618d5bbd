-- Request Six in a customer's words: the question is answered as the submission would be, at every node; what it is answered at
-- an active leaf and at any other node; and that nothing decides it but what is the leaf's own.
-- Assumes nothing.
use Rattle.std.specs.Prelude.{◌≡◌, Bool, not, ◌∷◌, ℕ, ◌+◌, ◌*◌, ◌≤◌, Err, Ok}
use Rattle.std.proofs.Math.Path.{refl, ap}
use Rattle.std.proofs.Common.{sym, ◌∙◌, arith}
use Rattle.std.proofs.Math.Bool.{true, false}
use borrow.Author.Tests.{le-ltb, lt-leb}
use Rattle.rules.specs.Numbers.{whole, leaf_most, queue_room, cost_most, debt_most}
use Rattle.rules.specs.Words.{has}
use Rattle.rules.specs.Cost.{is_forced, bio_in_range}
use Rattle.rules.specs.Tree.{is_leaf}
use Rattle.rules.specs.Budget.{row_at, queue_at, share_at, length_only, answer_to, answer_in, submission, would_be}
use Rattle.rules.specs.Refusals.{◌⇒◌, first_of, cost_checks, room_checks, submit_checks, answer_paper, paper_of, letters_of}
use Rattle.rules.specs.Entries.{costing, costing_by, submitted_by, submitted}
use Rattle.rules.specs.Question.{own_at, unless_refused, when_active, when_inactive, ruling_by, ruling, asked, question}
use Rattle.rules.specs.Invariant.{Sound}
use Rattle.rules.specs.Ledger.{Call, after, issued, released, repaid, charged, generated, saved}
use Rattle.rules.proofs.Laws.Bools.{never, true_not_false}
use Rattle.rules.proofs.Laws.Sums.{sum_none}
use Rattle.rules.proofs.Laws.Trees.{leaves_are}
use Rattle.rules.proofs.Laws.Costs.{bio_in_range_lem, costing_costs_exactly_when}
use Rattle.rules.proofs.Laws.Answers.{answer_by_count}
use Rattle.rules.proofs.Laws.Verdicts.{first_refused}
use Rattle.rules.proofs.Laws.Refusals.{submit_on_paper}
use Rattle.rules.proofs.Laws.Submits.{cost_in}
use Rattle.rules.proofs.Laws.Decisions.{entered_active, waits_exactly_when, on_debt_exactly_when}
use Rattle.rules.specs.declared.units.Abs.{Abs}
use Rattle.rules.specs.declared.cost.Model.{Model}
use Rattle.rules.specs.declared.cost.Bio.{Bio}
use Rattle.rules.specs.declared.budget.Row.{Row}
use Rattle.rules.specs.declared.budget.Queue.{Queue}
use Rattle.rules.specs.declared.budget.Own.{Own}
use Rattle.rules.specs.declared.budget.Controller.{Controller}
use Rattle.rules.specs.declared.refusals.Refusal.{Refusal}
use Rattle.rules.specs.declared.refusals.Refusal.TheVariants.{NoLeaf}
use Rattle.rules.specs.declared.refusals.Ruling.{Ruling}
use Rattle.rules.specs.declared.refusals.Answer.{Answer}
use Rattle.rules.specs.declared.refusals.Answer.TheVariants.{Issued, Waits, OnDebt}
use Rattle.rules.specs.Results.{Verdict, Costing}

-- ---- ".. looks only at that leaf's own row and the model, not at the other leaves"
-- two states that have the same of node n: all else may differ, the trees, the clocks, the donors and every other leaf's books
pub record Alike (n : ℕ) (c d : Controller) : Type 0 where
  pub leaf : has c.leaves n ≡ has d.leaves n
  pub active : has c.active n ≡ has d.active n
  pub model : c.model ≡ d.model
  pub share : share_at c n ≡ share_at d n
  pub row : row_at c n ≡ row_at d n
  pub waiting : (queue_at c n).len ≡ (queue_at d n).len

own_of_alike : {n : ℕ} {c d : Controller} → Alike n c d → own_at n c ≡ own_at n d
own_of_alike w = rw (w.leaf, w.active, w.model, w.share, w.row, w.waiting)

pub nothing_else_decides : (b : Bio) {c d : Controller} → Alike b.node c d → question b c ≡ question b d
nothing_else_decides b w = ap (asked b) (own_of_alike w)

-- ---- a bio that is refused 5 or 6, and one that is not
pub uncosted_refuses : (model : Model) (row : Row) (b : Bio) (x : Refusal) → costing model row b ≡ Err x
    → first_of (cost_checks model row b) ≡ Err x
unfolding costing costing_by
uncosted_refuses model row b x = go (first_of (cost_checks model row b))
  where
    go : (v : Verdict) → costing_by v model row b ≡ Err x → v ≡ Err x
    go (Ok tt) e = never (cc)
    go (Err y) e = cc

pub costed_passes : (model : Model) (row : Row) (b : Bio) (cost : Abs) → costing model row b ≡ Ok cost → first_of (cost_checks model row b) ≡ Ok tt
unfolding costing costing_by
costed_passes model row b cost = go (first_of (cost_checks model row b))
  where
    go : (v : Verdict) → costing_by v model row b ≡ Ok cost → v ≡ Ok tt
    go (Ok tt) e = refl
    go (Err y) e = never (cc)

-- what owes nothing and waits for nothing has room for any answer
pub idle_has_room : (a : Answer) (cost : Abs) (row : Row) (q : Queue) → row.debt.0 ≡ 0 → q.len ≡ 0 → cost.0 ≤ cost_most
    → first_of (room_checks a cost row q) ≡ Ok tt
unfolding room_checks
idle_has_room Issued cost row q d l k = refl
idle_has_room Waits cost row q d l k = rw (lt-leb queue_room q.len (omega arith))
idle_has_room OnDebt cost row q d l k = rw (le-ltb debt_most (row.debt.0 + cost.0) (omega arith))

-- a bio that is found to cost something: it is in range, and the cost is the rule's
module _ (b : Bio) (c : Controller) (cost : Abs) (e : costing c.model (row_at c b.node) b ≡ Ok cost) where
  pub costed_in_range : bio_in_range b ≡ true
  costed_in_range = (bio_in_range_lem b).1 ((costing_costs_exactly_when c.model (row_at c b.node) b cost).0 e).0.0

  pub costed_the_cost : cost ≡ cost_in c b
  costed_the_cost = ((costing_costs_exactly_when c.model (row_at c b.node) b cost).0 e).1

  pub costed_within : (cost_in c b).0 ≤ cost_most
  costed_within = ((costing_costs_exactly_when c.model (row_at c b.node) b cost).0 e).0.1

-- what is ruled on a leaf, by what the bio is found to cost
pub ruled_by : (b : Bio) (o : Own) {k : Costing} → o.leaf ≡ true → costing o.model o.row b ≡ k → ruling b o ≡ ruling_by k b o
unfolding ruling
ruled_by b o l e = rw (l, e)

-- a submission is answered its refusal, or what steps 2 and 3 answer
answered_by : (b : Bio) (c : Controller) → (submitted b c).answer ≡ unless_refused (first_of (submit_checks b c)) (would_be c b)
unfolding submitted submitted_by submission unless_refused
answered_by b c = go (first_of (submit_checks b c))
  where
    go : (v : Verdict) → (submitted_by v b c).answer ≡ unless_refused v (would_be c b)
    go (Ok tt) = refl
    go (Err x) = refl

module _ {c : Controller} (s : Sound c) (b : Bio) where
  -- an inactive leaf has saved nothing: what is not refused waits or goes on debt
  inactive_answers : has c.active b.node ≡ false → first_of (submit_checks b c) ≡ Ok tt
      → (submitted b c).answer ≡ Ok (when_inactive (is_forced b))
  unfolding when_inactive
  inactive_answers idle taken = go (is_forced b) refl
    where
      go : (t : Bool) → is_forced b ≡ t → (submitted b c).answer ≡ Ok (when_inactive t)
      go true e = (on_debt_exactly_when s b taken e).1 (λ w. true_not_false w.active idle)
      go false e = (waits_exactly_when s b taken e).1 (λ w. true_not_false w.affordable.active idle)

  own_leaf : has c.leaves b.node ≡ is_leaf c.tree b.node
  own_leaf = ap (λ (l : ℕ). has l b.node) s.leaves ∙ leaves_are s.tree b.node

  no_leaf_asked : is_leaf c.tree b.node ≡ false → question b c ≡ (submitted b c).answer
  unfolding asked ruling submitted submitted_by submit_checks
  no_leaf_asked e = rw (own_leaf, e)

  module _ (leaf : is_leaf c.tree b.node ≡ true) where
    by_costing : {k : Costing} → costing c.model (row_at c b.node) b ≡ k
        → question b c ≡ (ruling_by k b (own_at b.node c)).answer
    unfolding asked
    by_costing e = ap (λ (r : Ruling). r.answer) (ruled_by b (own_at b.node c) (own_leaf ∙ leaf) e)

    uncosted_asked : (x : Refusal) → costing c.model (row_at c b.node) b ≡ Err x → question b c ≡ (submitted b c).answer
    unfolding ruling_by submitted submitted_by submit_checks
    uncosted_asked x e =
        by_costing e
        ∙ rw leaf
        (ap (λ (v : Verdict). (submitted_by v b c).answer)
        (sym (first_refused (cost_checks c.model (row_at c b.node) b) _ x (uncosted_refuses c.model (row_at c b.node) b x e))))

    module _ (cost : Abs) (e : costing c.model (row_at c b.node) b ≡ Ok cost) where
      -- only 7 and 8 are left
      pub room_is_left : first_of (submit_checks b c) ≡ first_of (room_checks (would_be c b) (cost_in c b) (row_at c b.node) (queue_at c b.node))
      unfolding submit_checks cost_checks
      room_is_left = rw (leaf, costed_in_range b c cost e, le-ltb cost_most (cost_in c b).0 (costed_within b c cost e))

      active_asked : has c.active b.node ≡ true → question b c ≡ (submitted b c).answer
      unfolding ruling_by when_active answer_in would_be room_checks
      active_asked on =
          let counted : answer_in c b ≡ answer_to (is_forced b) (cost_in c b) (share_at c b.node) (row_at c b.node) (length_only (queue_at c b.node).len) =
          answer_by_count (is_forced b) (cost_in c b) (share_at c b.node) (row_at c b.node) (queue_at c b.node) in
          by_costing e ∙ rw (on, costed_the_cost b c cost e) (sym (answered_by b c ∙ rw (room_is_left, entered_active b.node c on, counted)))

      idle_asked : has c.active b.node ≡ false → question b c ≡ (submitted b c).answer
      unfolding ruling_by
      idle_asked off =
          let here = s.idle b.node off in
          by_costing e
          ∙ rw off
          (sym (inactive_answers off
          (room_is_left ∙ idle_has_room (would_be c b) (cost_in c b) (row_at c b.node) (queue_at c b.node) here.no_debt here.no_waiter
          (costed_within b c cost e))))

  -- "Its answer .. equals what submission would answer at that moment": at every node, refusals included
  pub asked_is_answered : question b c ≡ (submitted b c).answer
  asked_is_answered = go (is_leaf c.tree b.node) refl
    where
      judged : is_leaf c.tree b.node ≡ true → (k : Costing) → costing c.model (row_at c b.node) b ≡ k
          → (u : Bool) → has c.active b.node ≡ u → question b c ≡ (submitted b c).answer
      judged l (Ok cost) e true on = active_asked l cost e on
      judged l (Ok cost) e false off = idle_asked l cost e off
      judged l (Err x) e u a = uncosted_asked l x e

      go : (t : Bool) → is_leaf c.tree b.node ≡ t → question b c ≡ (submitted b c).answer
      go true l = judged l (costing c.model (row_at c b.node) b) refl (has c.active b.node) refl
      go false l = no_leaf_asked l

  -- the same as the paper has it: the number of the first check that holds, or the answer
  pub question_on_paper : answer_paper (question b c) ≡ paper_of (submit_checks b c) (letters_of (would_be c b))
  question_on_paper = ap answer_paper asked_is_answered ∙ submit_on_paper b c refl

  -- ".. for an active leaf": the refusal if there is one, and otherwise steps 2 and 3 upon the state as it is
  pub an_active_leaf_is_answered : has c.active b.node ≡ true → question b c ≡ unless_refused (first_of (submit_checks b c)) (answer_in c b)
  unfolding would_be
  an_active_leaf_is_answered on =
      asked_is_answered ∙ answered_by b c ∙ ap (λ (d : Controller). unless_refused (first_of (submit_checks b c)) (answer_in d b)) (entered_active b.node c on)

  -- "For any other node it is the refusal if there is one, and otherwise waits or on debt, by the forced flag"
  pub any_other_node_is_answered : has c.active b.node ≡ false
      → question b c ≡ unless_refused (first_of (submit_checks b c)) (when_inactive (is_forced b))
  unfolding unless_refused
  any_other_node_is_answered off = asked_is_answered ∙ go (first_of (submit_checks b c)) refl
    where
      go : (v : Verdict) → first_of (submit_checks b c) ≡ v → (submitted b c).answer ≡ unless_refused v (when_inactive (is_forced b))
      go (Ok tt) e = inactive_answers off e
      go (Err x) e = answered_by b c ∙ rw e

  -- 7 and 8 can't hold there: 4 to 6 are all that it can be refused
  pub any_other_node_is_refused_4_to_6_alone : has c.active b.node ≡ false
      → question b c
      ≡ unless_refused (first_of ((not (is_leaf c.tree b.node) ⇒ NoLeaf) ∷ cost_checks c.model (row_at c b.node) b)) (when_inactive (is_forced b))
  unfolding asked ruling ruling_by unless_refused
  any_other_node_is_refused_4_to_6_alone off = go (is_leaf c.tree b.node) refl
    where
      costed : is_leaf c.tree b.node ≡ true → (k : Costing) → costing c.model (row_at c b.node) b ≡ k
          → question b c ≡ unless_refused (first_of (cost_checks c.model (row_at c b.node) b)) (when_inactive (is_forced b))
      costed l (Ok cost) e = by_costing l e ∙ rw (off, costed_passes c.model (row_at c b.node) b cost e)
      costed l (Err x) e = by_costing l e ∙ rw (uncosted_refuses c.model (row_at c b.node) b x e)

      go : (t : Bool) → is_leaf c.tree b.node ≡ t
          → question b c ≡ unless_refused (first_of ((not t ⇒ NoLeaf) ∷ cost_checks c.model (row_at c b.node) b)) (when_inactive (is_forced b))
      go true l = costed l (costing c.model (row_at c b.node) b) refl
      go false l = rw (own_leaf ∙ l)

-- the same of submission: what it answers is decided by what is the leaf's own, whatever the others hold
pub nothing_else_decides_a_submission : (b : Bio) {c d : Controller} → Sound c → Sound d → Alike b.node c d
    → (submitted b c).answer ≡ (submitted b d).answer
nothing_else_decides_a_submission b s t w = sym (asked_is_answered s b) ∙ nothing_else_decides b w ∙ asked_is_answered t b

-- ---- "The state stays": nothing is charged and nothing generated
pub asking_flows : (b : Bio) (c : Controller)
    → charged (Call.ask b) c * whole + saved (after (Call.ask b) c) ≤ saved c + generated (Call.ask b) c * whole
unfolding charged issued released repaid generated
asking_flows b c = omega (arith, sum_none (λ n. 0 + 0 + 0) leaf_most (λ n p l. refl))
