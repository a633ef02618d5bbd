-- The decision on a bio, by what is the node's own: each way out of the code is what the rule says there, and what a bio that is
-- not refused has passed.
-- Assumes nothing.
use mathlib.Core.Path.{◌≡◌, refl, sym, ap, ◌∙◌}
use mathlib.Core.Bool.{Bool, true, false}
use Prim.Native.Nat.{ℕ, ◌<◌}
use Rattle.rules.specs.Numbers.{queue_room}
use Rattle.rules.specs.Cost.{is_forced}
use Rattle.rules.specs.Entries.{costing}
use Rattle.rules.specs.Question.{refused_by, when_active, when_inactive, ruling_by, ruling}
use Rattle.rules.proofs.Laws.Bools.{never}
use Rattle.rules.proofs.Laws.Costs.{bio_in_range_lem, costing_costs_exactly_when}
use Rattle.rules.proofs.Laws.Questions.{ruled_by}
use Rattle.rules.specs.declared.units.Abs.{Abs}
use Rattle.rules.specs.declared.cost.Bio.{Bio}
use Rattle.rules.specs.declared.budget.Own.{Own}
use Rattle.rules.specs.declared.refusals.Refusal.{Refusal}
use Rattle.rules.specs.declared.refusals.Refusal.TheVariants.{NoLeaf}
use Rattle.rules.specs.declared.refusals.Answer.{Answer}
use Rattle.rules.specs.declared.refusals.Answer.TheVariants.{Waits}
use Rattle.rules.specs.declared.refusals.Ruling.{Ruling}
use Rattle.submit.specs.OnLeaf.{CanAnswer, CanRule, CanBook}
use Rattle.submit.proofs.Shapes.{waits_with_room, issues_what_fits}
use Rattle.std.specs.Prelude.{Err, Ok}
use Rattle.rules.specs.Results.{Answered, Costing}

module _ (b : Bio) (o : Own) where
  pub no_leaf_ruled : o.leaf ≡ false → refused_by NoLeaf ≡ ruling b o
  unfolding ruling
  no_leaf_ruled e = rw e

  module _ (leaf : o.leaf ≡ true) {k : Costing} (c : k ≡ costing o.model o.row b) where
    pub uncosted_ruled : {x : Refusal} → k ≡ Err x → refused_by x ≡ ruling b o
    unfolding ruling_by
    uncosted_ruled i = sym (ruled_by b o leaf (sym c ∙ i))

    module _ {cost : Abs} (i : k ≡ Ok cost) where
      pub can_answer : CanRule o → o.active ≡ true → {share : ℕ} → share ≡ o.share → CanAnswer cost share o.row
      can_answer can on h =
          let known = (costing_costs_exactly_when o.model o.row b cost).0 (sym c ∙ i) in
          rw h (record { books = can.fit on; cheap = rw known.1 known.0.1 })

      pub active_ruled : o.active ≡ true → {forced : Bool} {share : ℕ} {a : Answered} → forced ≡ is_forced b → share ≡ o.share
          → a ≡ when_active forced cost share o.row o.waiting → ◌≡◌ {A = Ruling} (record { answer = a; cost = cost }) (ruling b o)
      unfolding ruling_by
      active_ruled on f h e = rw (e, f, h) (sym (ruled_by b o leaf (sym c ∙ i) ∙ rw on))

      pub inactive_ruled : o.active ≡ false → {forced : Bool} {a : Answer} → forced ≡ is_forced b → a ≡ when_inactive forced
          → ◌≡◌ {A = Ruling} (record { answer = Ok a; cost = cost }) (ruling b o)
      unfolding ruling_by
      inactive_ruled off f e = rw (e, f) (sym (ruled_by b o leaf (sym c ∙ i) ∙ rw off))

-- what a bio has passed that is accepted
pub record Taken (b : Bio) (o : Own) : Type 0 where
  pub leaf : o.leaf ≡ true
  pub cost : Abs
  pub costs : costing o.model o.row b ≡ Ok cost

refused_untaken : {r : Ruling} {a : Answer} (x : Refusal) → refused_by x ≡ r → r.answer ≡ Ok a → ⊥
refused_untaken {a = a} x e t = let no : ◌≡◌ {A = Answered} (Err x) (Ok a) = ap (λ (k : Ruling). k.answer) e ∙ t in never (cc)

pub taken_is : (b : Bio) (o : Own) {a : Answer} → (ruling b o).answer ≡ Ok a → Taken b o
taken_is b o t = go o.leaf refl
  where
    costed : o.leaf ≡ true → (k : Costing) → costing o.model o.row b ≡ k → Taken b o
    costed l (Ok cost) e = record { leaf = l; cost = cost; costs = e }
    costed l (Err x) e = absurd (refused_untaken x (uncosted_ruled b o l refl e) t)

    go : (u : Bool) → o.leaf ≡ u → Taken b o
    go true l = costed l (costing o.model o.row b) refl
    go false l = absurd (refused_untaken NoLeaf (no_leaf_ruled b o l) t)

-- what is ruled on a bio that is accepted, at a leaf that is active
module _ (b : Bio) (o : Own) (w : Taken b o) (on : o.active ≡ true) where
  pub ruled_there : ruling b o ≡ record { answer = when_active (is_forced b) w.cost o.share o.row o.waiting; cost = w.cost }
  ruled_there = sym (active_ruled b o w.leaf refl w.costs on refl refl refl)

  pub booking_there : CanRule o → {a : Answer} → (ruling b o).answer ≡ Ok a → CanBook b a (ruling b o).cost o.share o.row
  booking_there can {a} e =
      let known = (costing_costs_exactly_when o.model o.row b w.cost).0 w.costs in
      let there : when_active (is_forced b) w.cost o.share o.row o.waiting ≡ Ok a = ap (λ (r : Ruling). r.answer) (sym ruled_there) ∙ e in
      rw ruled_there
      (record {
        range = (bio_in_range_lem b).1 known.0.0;
        takes = record {
          books = can.fit on;
          cheap = rw known.1 known.0.1;
          fitting = λ i. issues_what_fits (is_forced b) w.cost o.share o.row o.waiting (there ∙ i);
        };
      })

  pub waits_there : (ruling b o).answer ≡ Ok Waits → o.waiting < queue_room
  waits_there e =
      waits_with_room (is_forced b) w.cost o.share o.row o.waiting (ap (λ (r : Ruling). r.answer) (sym ruled_there) ∙ e)
