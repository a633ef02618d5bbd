-- The rules as one leaf sees them: of a queue they look at how many wait, of an accepted bio at where it ends.
-- Assumes nothing.
use Rattle.std.specs.Prelude.{◌≡◌, refl, Bool, true, ℕ}
use Rattle.rules.specs.Budget.{answer_to, with_accepted, with_end}
pub use Rattle.rules.specs.Budget.{length_only}
use Rattle.rules.specs.Tick.{capped}
use Rattle.rules.specs.Plan.{stays, is_donor}
use Rattle.rules.specs.declared.units.Abs.{Abs}
use Rattle.rules.specs.declared.budget.Row.{Row}
use Rattle.rules.specs.declared.budget.Queue.{Queue}
use Rattle.rules.specs.declared.refusals.Answer.{Answer}

-- ---- the rules, by the count alone
abbrev pub answer_with : Bool → Abs → ℕ → Row → ℕ → Answer
answer_with forced cost share row waiting = answer_to forced cost share row (length_only waiting)

abbrev pub capped_with : Row → ℕ → Row
capped_with row waiting = capped row (length_only waiting)

abbrev pub stays_with : Row → ℕ → Bool
stays_with row waiting = stays row (length_only waiting)

abbrev pub is_donor_with : ℕ → ℕ → Row → ℕ → Bool
is_donor_with target base row waiting = is_donor target base row (length_only waiting)

-- ---- nothing is lost by it: of the cap and of who stays by definition, of the answer by `answer_by_count` in the rules' Laws/Answers,
-- and of a donor by this
pub donor_by_count : (target base : ℕ) (row : Row) (q : Queue) → is_donor target base row q ≡ is_donor_with target base row q.len
unfolding is_donor
donor_by_count target base row q = refl

-- ---- an accepted bio that is no flush, by the sector where it ends
abbrev pub ended_at : ℕ → Row → Row
ended_at end row = with_accepted true (with_end end true row)
