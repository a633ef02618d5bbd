-- Request Six, the question: what a bio would be answered, by what concerns its own node and the model. Submission goes by the
-- same decision (`ruling`).
-- Assumes nothing.
use Rattle.std.specs.Prelude.{Bool, cond, ℕ, Err, Ok}
use Rattle.rules.specs.Words.{has}
use Rattle.rules.specs.Units.{abs}
use Rattle.rules.specs.Cost.{is_forced}
use Rattle.rules.specs.Budget.{row_at, queue_at, share_at, length_only, answer_to}
use Rattle.rules.specs.Refusals.{first_of, room_checks}
use Rattle.rules.specs.Entries.{costing}
use Rattle.rules.specs.declared.units.Abs.{Abs}
use Rattle.rules.specs.declared.cost.Bio.{Bio}
use Rattle.rules.specs.declared.cost.Model.{Model}
use Rattle.rules.specs.declared.budget.Row.{Row}
use Rattle.rules.specs.declared.budget.Own.{Own}
use Rattle.rules.specs.declared.budget.Controller.{Controller}
use Rattle.rules.specs.declared.refusals.Refusal.{Refusal}
use Rattle.rules.specs.declared.refusals.Refusal.TheVariants.{NoLeaf}
use Rattle.rules.specs.declared.refusals.Answer.{Answer}
use Rattle.rules.specs.declared.refusals.Answer.TheVariants.{Waits, OnDebt}
use Rattle.rules.specs.declared.refusals.Ruling.{Ruling}
use Rattle.rules.specs.Results.{Verdict, Costing, Answered}

-- ---- ".. looks only at that leaf's own row and the model, not at the other leaves"
-- what a state's sets, model and books have of node n
abbrev pub own_of : ℕ → ℕ → ℕ → Model → ℕ → Row → ℕ → Own
own_of n leaves active model share row waiting = record {
  leaf = has leaves n;
  active = has active n;
  model = model;
  share = share;
  row = row;
  waiting = waiting;
}

abbrev pub own_at : ℕ → Controller → Own
own_at n c = own_of n c.leaves c.active c.model (share_at c n) (row_at c n) (queue_at c n).len

-- ---- the decision: refusal 4, then 5 and 6, then by the leaf
abbrev pub refused_by : Refusal → Ruling
refused_by x = record { answer = Err x; cost = abs 0 }

-- ".. for an active leaf": steps 2 and 3, behind 7 and 8, which look at no more of the queue than how many wait
unfoldable pub unless_refused : Verdict → Answer → Answered
unless_refused (Ok tt) answer = Ok answer
unless_refused (Err x) answer = Err x

unfoldable pub when_active : Bool → Abs → ℕ → Row → ℕ → Answered
when_active forced cost share row waiting =
    let answer : Answer = answer_to forced cost share row (length_only waiting) in
    unless_refused (first_of (room_checks answer cost row (length_only waiting))) answer

-- "For any other node it is .. otherwise waits or on debt, by the forced flag."
unfoldable pub when_inactive : Bool → Answer
when_inactive forced = cond forced OnDebt Waits

unfoldable pub ruling_by : Costing → Bio → Own → Ruling
ruling_by (Ok cost) b o = record {
  answer = cond o.active (when_active (is_forced b) cost o.share o.row o.waiting) (Ok (when_inactive (is_forced b)));
  cost = cost;
}
ruling_by (Err x) b o = refused_by x

unfoldable pub ruling : Bio → Own → Ruling
ruling b o = cond o.leaf (ruling_by (costing o.model o.row b) b o) (refused_by NoLeaf)

-- ---- the question is the decision's answer
unfoldable pub asked : Bio → Own → Answered
asked b o = (ruling b o).answer

-- and in a state that of the bio's node
abbrev pub question : Bio → Controller → Answered
question b c = asked b (own_at b.node c)
