-- Demand 2 in a customer's words: which bio is issued, which waits and which goes on debt, and what that does to the state.
-- Assumes nothing.
use Rattle.std.specs.Prelude.{◌≡◌, refl, ◌↔◌, ◌⊎◌, Bool, ◌&&◌, ℕ, ◌*◌, ◌≤◌, ◌<◌, Err, Ok}
use Rattle.std.proofs.Math.Path.{sym, ap}
use Rattle.std.proofs.Common.{◌∙◌, inl, inr, arith}
use Rattle.std.proofs.Math.Bool.{true, false}
use Rattle.rules.specs.Numbers.{whole}
use Rattle.rules.specs.Words.{has, no_node}
use Rattle.rules.specs.Units.{relative}
use Rattle.rules.specs.Cost.{is_forced}
use Rattle.rules.specs.Tree.{base_shares}
use Rattle.rules.specs.Budget.{row_at, queue_at, share_at, entered, answer_in, submission, put_leaf, charged, noted, row_after, queue_after, ends_donation, applied, settled, reshared, rebased, would_be}
use Rattle.rules.specs.Refusals.{first_of, submit_checks}
use Rattle.rules.specs.Entries.{submitted_by, submitted}
use Rattle.rules.specs.Invariant.{Sound, SoundModel}
use Rattle.rules.proofs.Laws.Bools.{never, true_not_false, exactly, is_true, and_not_right}
use Rattle.rules.proofs.Laws.Sets.{has_none}
use Rattle.rules.proofs.Laws.Units.{relative_cost_is_enough}
use Rattle.rules.proofs.Laws.Costs.{priced_sound, cost_least}
use Rattle.rules.proofs.Laws.Answers.{CanPay, CanPayFirst, unforced_is_issued_exactly_when, unforced_waits_exactly_when, forced_is_issued_exactly_when, forced_goes_on_debt_exactly_when}
use Rattle.rules.proofs.Laws.Resharing.{Reweighed, entering_keeps, entering_reweighs, entered_is_active, active_with, activated_is}
use Rattle.rules.proofs.Laws.Submits.{cost_in, Admitted, admitted, reweighed_queue, reweighed_cost}
use Rattle.rules.specs.declared.cost.Bio.{Bio}
use Rattle.rules.specs.declared.budget.Controller.{Controller}
use Rattle.rules.specs.declared.refusals.Answer.{Answer}
use Rattle.rules.specs.declared.refusals.Answer.TheVariants.{Issued, Waits, OnDebt}
use Rattle.rules.specs.Results.{Verdict, Answered}

-- ---- the bio's leaf, in the state as it was, can pay for it
pub record Affordable (b : Bio) (c : Controller) : Type 0 where
  pub active : has c.active b.node ≡ true
  pub fits_budget : (relative (cost_in c b) (share_at c b.node)).0 ≤ (row_at c b.node).budget.0
  pub owes_nothing : (row_at c b.node).debt.0 ≡ 0

-- and nothing of that leaf waits
pub record FirstInLine (b : Bio) (c : Controller) : Type 0 where
  pub affordable : Affordable b c
  pub none_waits : (queue_at c b.node).len ≡ 0

pub entered_active : (n : ℕ) (c : Controller) → has c.active n ≡ true → entered n c ≡ c
unfolding entered
entered_active n c e = rw e

module _ {c : Controller} (s : Sound c) (b : Bio) (ok : Admitted b c) where
  -- an inactive leaf has no budget, and a bio is never free
  inactive_never_pays : has c.active b.node ≡ false
      → (relative (cost_in (entered b.node c) b) (share_at (entered b.node c) b.node)).0 ≤ (row_at (entered b.node c) b.node).budget.0
      → ⊥
  inactive_never_pays e l =
      let d : Controller = entered b.node c in
      let w : Reweighed c d = entering_reweighs s b.node in
      let pos : 0 < share_at d b.node =
      omega (arith, (entering_keeps s b.node ok.leaf).share_at_floor b.node (entered_is_active s b.node ok.leaf)) in
      let model : SoundModel c.model = rw s.model.same (priced_sound s.model.rates s.model.valid) in
      let dear : 4 ≤ (cost_in d b).0 = rw (reweighed_cost w b b.node) (cost_least model (row_at c b.node) b ok.range) in
      let broke : (row_at d b.node).budget.0 ≡ 0 = omega (arith, w.budget b.node, (s.idle b.node e).no_budget) in
      never (cost_in d b).0 (relative (cost_in d b) (share_at d b.node)).0 (share_at d b.node)
      (relative_cost_is_enough (cost_in d b) (share_at d b.node) pos) dear (omega (arith, broke, l))
    where
      never : (x k share : ℕ) → x * whole ≤ k * share → 4 ≤ x → k ≡ 0 → ⊥
      never x k share h l z = omega (arith, rw z at h)

  -- so the leaf can pay, where the bio is judged, exactly when it could before
  can_pay_there : CanPay (cost_in (entered b.node c) b) (share_at (entered b.node c) b.node) (row_at (entered b.node c) b.node) ↔ Affordable b c
  can_pay_there = go (has c.active b.node) refl
    where
      go : (t : Bool) → has c.active b.node ≡ t
          → CanPay (cost_in (entered b.node c) b) (share_at (entered b.node c) b.node) (row_at (entered b.node c) b.node) ↔ Affordable b c
      go true e =
          rw (entered_active b.node c e) (
            λ w. record { active = e; fits_budget = w.fit; owes_nothing = w.no_debt },
            λ w. record { no_debt = w.owes_nothing; fit = w.fits_budget },
          )
      go false e = (λ w. absurd (inactive_never_pays e w.fit), λ w. absurd (true_not_false w.active e))

  can_pay_first_there : CanPayFirst (cost_in (entered b.node c) b) (share_at (entered b.node c) b.node) (row_at (entered b.node c) b.node)
      (queue_at (entered b.node c) b.node)
      ↔ FirstInLine b c
  can_pay_first_there =
      let same : queue_at (entered b.node c) b.node ≡ queue_at c b.node = reweighed_queue (entering_reweighs s b.node) b.node in (
        λ w. record { affordable = can_pay_there.0 w.pays; none_waits = rw same at w.no_waiter },
        λ w. record { pays = can_pay_there.1 w.affordable; no_waiter = rw same w.none_waits },
      )

exactly_denied : {P Q : Type 0} → P ↔ Q → (P → ⊥) ↔ (Q → ⊥)
exactly_denied p = (λ n q. n (p.1 q), λ n x. n (p.0 x))

-- an answer is given as it is
pub same_answer : (a d : Answer) → ◌≡◌ {A = Answered} (Ok a) (Ok d) → a ≡ d
same_answer a d e = cc

given_as : (a d : Answer) → ◌≡◌ {A = Answered} (Ok a) (Ok d) ↔ (a ≡ d)
given_as a d = (same_answer a d, λ e. ap Ok e)

-- ---- what is answered to a bio that is not refused
pub not_refused_is_answered : (b : Bio) (c : Controller) → first_of (submit_checks b c) ≡ Ok tt → (submitted b c).answer ≡ Ok (would_be c b)
unfolding submitted submitted_by submission would_be
not_refused_is_answered b c e = ap (λ (v : Verdict). (submitted_by v b c).answer) e

module _ {c : Controller} (s : Sound c) (b : Bio) (taken : first_of (submit_checks b c) ≡ Ok tt) where
  answered : (submitted b c).answer ≡ Ok (would_be c b)
  answered = not_refused_is_answered b c taken

  ok : Admitted b c
  ok = admitted b c taken

  -- "Unforced: issued exactly if debt is 0, nothing waits and relative cost <= budget"
  pub issued_exactly_when : is_forced b ≡ false → ((submitted b c).answer ≡ Ok Issued) ↔ FirstInLine b c
  unfolding would_be answer_in
  issued_exactly_when e = rw (answered, e) (exactly (given_as _ Issued) (exactly (unforced_is_issued_exactly_when _ _ _ _) (can_pay_first_there s b ok)))

  -- "Else it waits"
  pub waits_exactly_when : is_forced b ≡ false → ((submitted b c).answer ≡ Ok Waits) ↔ (FirstInLine b c → ⊥)
  unfolding would_be answer_in
  waits_exactly_when e = rw (answered, e) (exactly (given_as _ Waits) (exactly (unforced_waits_exactly_when _ _ _ _) (exactly_denied (can_pay_first_there s b ok))))

  -- "Forced: if debt is 0 and it fits, issued and charged, even past waiters"
  pub forced_issued_exactly_when : is_forced b ≡ true → ((submitted b c).answer ≡ Ok Issued) ↔ Affordable b c
  unfolding would_be answer_in
  forced_issued_exactly_when e = rw (answered, e) (exactly (given_as _ Issued) (exactly (forced_is_issued_exactly_when _ _ _ _) (can_pay_there s b ok)))

  -- "Else it goes on debt"
  pub on_debt_exactly_when : is_forced b ≡ true → ((submitted b c).answer ≡ Ok OnDebt) ↔ (Affordable b c → ⊥)
  unfolding would_be answer_in
  on_debt_exactly_when e = rw (answered, e) (exactly (given_as _ OnDebt) (exactly (forced_goes_on_debt_exactly_when _ _ _ _) (exactly_denied (can_pay_there s b ok))))

  -- what wakes a leaf is never issued
  pub inactive_never_issues : has c.active b.node ≡ false → (submitted b c).answer ≡ Ok Issued → ⊥
  inactive_never_issues idle i = go (is_forced b) refl
    where
      go : (t : Bool) → is_forced b ≡ t → ⊥
      go true e = true_not_false ((forced_issued_exactly_when e).0 i).active idle
      go false e = true_not_false ((issued_exactly_when e).0 i).affordable.active idle

-- ---- what an answer does to the state
answered_state : (b : Bio) (c : Controller) → first_of (submit_checks b c) ≡ Ok tt → (submitted b c).state ≡ settled (would_be c b) b (entered b.node c)
unfolding submitted submitted_by submission would_be
answered_state b c e = ap (λ (v : Verdict). (submitted_by v b c).state) e

waits_or_owes : (a : Answer) → ◌≡◌ {A = Answered} (Ok a) (Ok Waits) ⊎ ◌≡◌ {A = Answered} (Ok a) (Ok OnDebt) → ends_donation a ≡ true
waits_or_owes a (inl e) = rw (same_answer a Waits e)
waits_or_owes a (inr e) = rw (same_answer a OnDebt e)

issued_is_accepted : (b : Bio) (c : Controller) → (submitted b c).answer ≡ Ok Issued → first_of (submit_checks b c) ≡ Ok tt
unfolding submitted submitted_by
issued_is_accepted b c = go (first_of (submit_checks b c))
  where
    go : (v : Verdict) → (submitted_by v b c).answer ≡ Ok Issued → v ≡ Ok tt
    go (Ok tt) i = refl
    go (Err x) i = never (cc)

module _ {c : Controller} (s : Sound c) (b : Bio) where
  -- "the budget falls by it": every issued bio is charged at its leaf's share, and nothing else changes but what is noted of it
  pub an_issued_bio_is_charged : (submitted b c).answer ≡ Ok Issued
      → (submitted b c).state
      ≡ put_leaf b.node (noted b (charged (cost_in c b) (share_at c b.node) (row_at c b.node))) (queue_at c b.node) c
  unfolding settled applied row_after queue_after
  an_issued_bio_is_charged i =
      let taken : first_of (submit_checks b c) ≡ (Ok tt) = issued_is_accepted b c i in
      let would : would_be c b ≡ Issued = same_answer _ _ (sym (not_refused_is_answered b c taken) ∙ i) in
      let on : has c.active b.node ≡ true = is_true (has c.active b.node) (λ e. inactive_never_issues s b taken e i) in
      answered_state b c taken ∙ rw (would, entered_active b.node c on)

  module _ (taken : first_of (submit_checks b c) ≡ Ok tt) where
    -- "If the bio waited or went on debt and the leaf is a donor, the donation ends"
    pub a_donor_that_waits_or_owes_ends_the_donation : has c.donors b.node ≡ true
        → ((submitted b c).answer ≡ Ok Waits) ⊎ ((submitted b c).answer ≡ Ok OnDebt)
        → ((submitted b c).state.donors ≡ no_node) × ((submitted b c).state.shares ≡ base_shares c.tree c.active)
    unfolding settled applied rebased reshared
    a_donor_that_waits_or_owes_ends_the_donation donor ends =
        let on : has c.active b.node ≡ true = (s.donors b.node donor).active in
        let e : ends_donation (would_be c b) ≡ true = waits_or_owes (would_be c b) (rw (not_refused_is_answered b c taken) at ends) in (
          ap (λ (d : Controller). d.donors) (answered_state b c taken) ∙ rw (entered_active b.node c on, e, donor),
          ap (λ (d : Controller). d.shares) (answered_state b c taken) ∙ rw (entered_active b.node c on, e, donor),
        )

    -- and no other does, be it issued, waits or on debt
    pub an_active_non_donor_ends_no_donation : has c.active b.node ≡ true → has c.donors b.node ≡ false
        → ((submitted b c).state.donors ≡ c.donors) × ((submitted b c).state.shares ≡ c.shares)
    unfolding settled applied
    an_active_non_donor_ends_no_donation on taker =
        let none-donates : (ends_donation (would_be c b) && has c.donors b.node) ≡ false = and_not_right (ends_donation (would_be c b)) (has c.donors b.node) taker in (
          ap (λ (d : Controller). d.donors) (answered_state b c taken) ∙ rw (entered_active b.node c on, none-donates),
          ap (λ (d : Controller). d.shares) (answered_state b c taken) ∙ rw (entered_active b.node c on, none-donates),
        )

    -- "any donation ends and all base shares are worked out anew"
    pub an_activation_ends_the_donation : has c.active b.node ≡ false
        → ((submitted b c).state.donors ≡ no_node) × ((submitted b c).state.shares ≡ base_shares c.tree (active_with b.node c))
    unfolding entered settled applied rebased reshared
    an_activation_ends_the_donation idle =
        let woken : entered b.node c ≡ rebased (active_with b.node c) c = rw idle (activated_is b.node c (s.idle b.node idle).no_budget) in
        let none-donates : (ends_donation (would_be c b) && has no_node b.node) ≡ false = and_not_right (ends_donation (would_be c b)) (has no_node b.node) (has_none b.node) in (
          ap (λ (d : Controller). d.donors) (answered_state b c taken ∙ ap (settled (would_be c b) b) woken) ∙ rw none-donates,
          ap (λ (d : Controller). d.shares) (answered_state b c taken ∙ ap (settled (would_be c b) b) woken) ∙ rw none-donates,
        )
