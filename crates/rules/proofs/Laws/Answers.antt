-- Steps 2 and 3 of a submission on one leaf: which answer is given exactly when.
-- Assumes nothing.
use Rattle.std.specs.Prelude.{◌≡◌, refl, ◌↔◌, Bool, cond, ◌&&◌, ℕ, ◌≤◌, Err, Ok}
use Rattle.std.proofs.Math.Bool.{true, false, not}
use Rattle.std.proofs.Common.{arith, leb-true, le-leb, ltb-false, le-ltb}
use Rattle.std.proofs.lemmas.Bool.{not-true}
use Rattle.rules.specs.Units.{relative}
use Rattle.rules.specs.Budget.{owes, waits, fits, length_only, answer_to, would_be}
use Rattle.rules.proofs.Laws.Bools.{never, true_not_false, exactly, exactly_both, exactly_not}
use Rattle.rules.specs.declared.units.Abs.{Abs}
use Rattle.rules.specs.declared.cost.Bio.{Bio}
use Rattle.rules.specs.declared.budget.Row.{Row}
use Rattle.rules.specs.declared.budget.Queue.{Queue}
use Rattle.rules.specs.declared.budget.Controller.{Controller}
use Rattle.rules.specs.declared.refusals.Refusal.{Refusal}
use Rattle.rules.specs.declared.refusals.Answer.{Answer}
use Rattle.rules.specs.declared.refusals.Answer.TheVariants.{Issued, Waits, OnDebt}
use Rattle.rules.specs.Results.{Answered}

-- ---- of the queue steps 2 and 3 look at how many wait
pub answer_by_count : (forced : Bool) (cost : Abs) (share : ℕ) (row : Row) (q : Queue)
    → answer_to forced cost share row q ≡ answer_to forced cost share row (length_only q.len)
unfolding answer_to
answer_by_count true cost share row q = refl
answer_by_count false cost share row q = refl

-- ---- the tests of a row and a queue, as facts
pub owes_nothing : (r : Row) → (owes r ≡ false) ↔ (r.debt.0 ≡ 0)
owes_nothing r = (λ e. omega (arith, ltb-false 0 r.debt.0 e), λ z. le-ltb 0 r.debt.0 (omega arith))

pub waits_for_nothing : (q : Queue) → (waits q ≡ false) ↔ (q.len ≡ 0)
waits_for_nothing q = (λ e. omega (arith, ltb-false 0 q.len e), λ z. le-ltb 0 q.len (omega arith))

pub fits_its_budget : (cost : Abs) (share : ℕ) (r : Row) → (fits cost share r ≡ true) ↔ ((relative cost share).0 ≤ r.budget.0)
fits_its_budget cost share r = (leb-true _ _, le-leb _ _)

denied : {P : Type 0} (t : Bool) → ((t ≡ false) ↔ P) → (not t ≡ true) ↔ P
denied t p = (λ e. p.0 (not-true t e), λ w. rw (p.1 w))

-- ---- an answer that a test picks: Issued if it holds, another if not
record Other (a : Answer) : Type 0 where
  not_issued : a ≡ Issued → ⊥

waits_is_other : Other Waits
waits_is_other = record { not_issued = λ e. never (cc) }

debt_is_other : Other OnDebt
debt_is_other = record { not_issued = λ e. never (cc) }

issued_if : (a : Answer) → Other a → (t : Bool) → (cond t Issued a ≡ Issued) ↔ (t ≡ true)
issued_if a o true = (λ e. refl, λ t. refl)
issued_if a o false = (λ e. absurd (o.not_issued e), λ t. absurd (true_not_false t refl))

other_if_not : (a : Answer) → Other a → (t : Bool) → (cond t Issued a ≡ a) ↔ (t ≡ false)
other_if_not a o true = (λ e. absurd (o.not_issued (cc)), λ t. absurd (true_not_false refl t))
other_if_not a o false = (λ e. refl, λ t. refl)

never_declined_if : (a : Answered) (x : Refusal) → (a ≡ Err x → ⊥) → (t : Bool) → cond t (Ok Issued) a ≡ Err x → ⊥
never_declined_if a x h true e = never (cc)
never_declined_if a x h false e = h e

-- ---- "debt is 0 and it fits"
pub record CanPay (cost : Abs) (share : ℕ) (r : Row) : Type 0 where
  pub no_debt : r.debt.0 ≡ 0
  pub fit : (relative cost share).0 ≤ r.budget.0

-- "debt is 0, nothing waits and relative cost <= budget"
pub record CanPayFirst (cost : Abs) (share : ℕ) (r : Row) (q : Queue) : Type 0 where
  pub pays : CanPay cost share r
  pub no_waiter : q.len ≡ 0

module _ (cost : Abs) (share : ℕ) (r : Row) (q : Queue) where
  can_pay : ((not (owes r) && fits cost share r) ≡ true) ↔ CanPay cost share r
  can_pay =
      exactly (exactly_both _ _ (denied (owes r) (owes_nothing r)) (fits_its_budget cost share r))
      (λ w. record { no_debt = w.0; fit = w.1 }, λ w. (w.no_debt, w.fit))

  can_pay_first : ((not (owes r) && not (waits q) && fits cost share r) ≡ true) ↔ CanPayFirst cost share r q
  can_pay_first =
      exactly
      (exactly_both _ _ (exactly_both _ _ (denied (owes r) (owes_nothing r)) (denied (waits q) (waits_for_nothing q))) (fits_its_budget cost share r)) (
        λ w. record { pays = record { no_debt = w.0.0; fit = w.1 }; no_waiter = w.0.1 },
        λ w. ((w.pays.no_debt, w.no_waiter), w.pays.fit),
      )

  pub unforced_is_issued_exactly_when : (answer_to false cost share r q ≡ Issued) ↔ CanPayFirst cost share r q
  unfolding answer_to
  unforced_is_issued_exactly_when = exactly (issued_if Waits waits_is_other _) can_pay_first

  pub unforced_waits_exactly_when : (answer_to false cost share r q ≡ Waits) ↔ (CanPayFirst cost share r q → ⊥)
  unfolding answer_to
  unforced_waits_exactly_when = exactly (other_if_not Waits waits_is_other _) (exactly_not _ can_pay_first)

  pub forced_is_issued_exactly_when : (answer_to true cost share r q ≡ Issued) ↔ CanPay cost share r
  unfolding answer_to
  forced_is_issued_exactly_when = exactly (issued_if OnDebt debt_is_other _) can_pay

  pub forced_goes_on_debt_exactly_when : (answer_to true cost share r q ≡ OnDebt) ↔ (CanPay cost share r → ⊥)
  unfolding answer_to
  forced_goes_on_debt_exactly_when = exactly (other_if_not OnDebt debt_is_other _) (exactly_not _ can_pay)

  -- an issued bio fits
  pub issued_fits : (forced : Bool) → answer_to forced cost share r q ≡ Issued → fits cost share r ≡ true
  issued_fits false e = (fits_its_budget cost share r).1 (unforced_is_issued_exactly_when.0 e).pays.fit
  issued_fits true e = (fits_its_budget cost share r).1 (forced_is_issued_exactly_when.0 e).fit

  -- these steps refuse nothing
  pub no_refusal : (forced : Bool) (x : Refusal) → ◌≡◌ {A = Answered} (Ok (answer_to forced cost share r q)) (Err x) → ⊥
  no_refusal forced x e = never (cc)

pub answer_is_no_refusal : (c : Controller) (b : Bio) (x : Refusal) → ◌≡◌ {A = Answered} (Ok (would_be c b)) (Err x) → ⊥
answer_is_no_refusal c b x e = never (cc)
