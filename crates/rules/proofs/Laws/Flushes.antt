-- Request Four: what a flush is refused, what it costs and what it leaves; and that for every other bio all is as it was.
-- Assumes nothing.
use Rattle.std.specs.Prelude.{◌≡◌, ◌↔◌, ◌≢◌, Bool, true, false, cond, not, ◌&&◌, List, [], ◌∷◌, ◌++◌, ℕ, ◌<◌, ◌≤◌, ltb, Err, Ok}
use Rattle.std.proofs.Math.Path.{refl, ap}
use Rattle.std.proofs.Common.{sym, ◌∙◌, inl, arith, eq-eqb}
use Rattle.std.proofs.Math.Logic.{dite}
use Rattle.std.proofs.Math.Decide.{ℕ_discrete}
use Rattle.std.proofs.lemmas.Bool.{not-false}
use Rattle.rules.specs.Numbers.{sector_most, cost_most}
use Rattle.rules.specs.Words.{has}
use Rattle.rules.specs.Cost.{is_write, is_forced, is_flush, bytes_in_range, sector_in_range, flags_in_range, is_sequential, end_of, cost_at, cost_of}
use Rattle.rules.specs.Tree.{is_leaf}
use Rattle.rules.specs.Budget.{row_at, queue_at, share_at, put_leaf, with_accepted, with_end, noted, rebased, entered, answer_to, row_after, queue_after, ends_donation, answer_in, applied, settled, would_be, submission}
use Rattle.rules.specs.Refusals.{Check, ◌⇒◌, first_of, cost_checks, room_checks, submit_checks}
use Rattle.rules.specs.Entries.{costing_by, costing, submitted_by, submitted}
use Rattle.rules.specs.Invariant.{Sound, SoundModel}
use Rattle.rules.proofs.Laws.Bools.{true_not_false, is_true, is_false, and_left, exactly}
use Rattle.rules.proofs.Laws.Costs.{Flush, BioInRange, flush_exactly_when, bytes_in_range_lem, no_other_bio_has_new_bytes, priced_sound}
use Rattle.rules.proofs.Laws.Submits.{cost_in, Admitted, admitted, submission_notes, submission_is_active, by_verdict}
use Rattle.rules.proofs.Laws.Verdicts.{accepted_exactly_when}
use Rattle.rules.proofs.Laws.Refused.{refusal_5_exactly_when, refusal_6_exactly_when}
use Rattle.rules.specs.declared.units.Abs.{Abs}
use Rattle.rules.specs.declared.cost.Model.{Model}
use Rattle.rules.specs.declared.cost.Bio.{Bio}
use Rattle.rules.specs.declared.budget.Row.{Row}
use Rattle.rules.specs.declared.budget.Controller.{Controller}
use Rattle.rules.specs.declared.refusals.Refusal.TheVariants.{NoLeaf, BadBio, TooDear}
use Rattle.rules.specs.declared.refusals.Answer.{Answer}
use Rattle.rules.specs.Results.{Submitted, Verdict, Costing}

-- ---- "it costs one write page, with no base": at every leaf, wherever its last bio ended
pub a_flush_costs_one_write_page : (m : Model) (row : Row) (b : Bio) → Flush b → cost_of m row b ≡ m.write.page
unfolding cost_of
a_flush_costs_one_write_page m row b f = rw ((flush_exactly_when b).1 f)

-- ---- "is no longer refused for its bytes": its sector and its flags are checked as ever
pub a_flush_is_in_range_exactly_when : (b : Bio) → Flush b → BioInRange b ↔ ((b.sector ≤ sector_most) × (b.flags < 4))
a_flush_is_in_range_exactly_when b f =
    (λ w. (w.sector_fits, w.flags_known), λ w. record { bytes_fit = inl f; sector_fits = w.0; flags_known = w.1 })

-- "A read of 0 bytes stays refused"
pub a_read_of_0_bytes_is_refused : (b : Bio) (c : Controller) → is_leaf c.tree b.node ≡ true → b.bytes ≡ 0 → is_write b ≡ false
    → (submitted b c).answer ≡ Err BadBio
a_read_of_0_bytes_is_refused b c leaf none read =
    (refusal_5_exactly_when b c).1 (leaf, λ w. omega (arith, none, (no_other_bio_has_new_bytes b (λ f. true_not_false (eq-eqb _ _ f.write) read) w).fit.0))

pub a_flush_is_refused_5_exactly_when : (b : Bio) (c : Controller) → Flush b
    → ((submitted b c).answer ≡ Err BadBio) ↔ ((is_leaf c.tree b.node ≡ true) × (((b.sector ≤ sector_most) × (b.flags < 4)) → ⊥))
a_flush_is_refused_5_exactly_when b c f =
    let range = a_flush_is_in_range_exactly_when b f in
    exactly (refusal_5_exactly_when b c) (λ w. (w.0, λ fit. w.1 (range.1 fit)), λ w. (w.0, λ fit. w.1 (range.0 fit)))

-- 6 can't hold for it: one page costs a second at most
pub a_flush_is_never_refused_6 : {c : Controller} → Sound c → (b : Bio) → Flush b → (submitted b c).answer ≡ Err TooDear → ⊥
a_flush_is_never_refused_6 {c} s b f e =
    let model : SoundModel c.model = rw s.model.same (priced_sound s.model.rates s.model.valid) in
    let dear : cost_most < (cost_in c b).0 = ((refusal_6_exactly_when b c).0 e).2 in
    omega (arith, rw (a_flush_costs_one_write_page c.model (row_at c b.node) b f) at dear, model.writes.page_most)

-- ---- where each leaf's last bio ended, and whether it had one, behind a bio: only these two decide what the next one costs
pub cost_by_the_end : (m : Model) (b : Bio) (r r' : Row) → r'.end ≡ r.end → r'.begun ≡ r.begun → cost_of m r' b ≡ cost_of m r b
unfolding cost_of is_sequential
cost_by_the_end m b r r' e f = rw (e, f)

abbrev SameEnd : Row → Row → Type 0
SameEnd r r' = (r'.end ≡ r.end) × (r'.begun ≡ r.begun)

module _ {c : Controller} (s : Sound c) (b : Bio) where
  -- no bio, accepted or refused, moves the end of another leaf than its own
  pub a_bio_leaves_the_ends_of_others : (n : ℕ) → n ≢ b.node → SameEnd (row_at c n) (row_at (submitted b c).state n)
  a_bio_leaves_the_ends_of_others n e =
      by_verdict s b (λ a d. SameEnd (row_at c n) (row_at d n)) (λ x. (refl, refl))
      (λ ok. let w = (submission_notes s b ok n).elsewhere e in (w.end, w.begun))

  -- "it does not move the leaf's last end nor count as its first bio", be it issued, waits, on debt or refused
  pub a_flush_leaves_every_end : Flush b → (n : ℕ) → SameEnd (row_at c n) (row_at (submitted b c).state n)
  a_flush_leaves_every_end f n =
      dite (ℕ_discrete n b.node)
      (λ (e : n ≡ b.node). by_verdict s b (λ a d. SameEnd (row_at c n) (row_at d n)) (λ x. (refl, refl)) (λ ok. own ok e))
      (λ (e : n ≢ b.node). a_bio_leaves_the_ends_of_others n e)
    where
      own : Admitted b c → n ≡ b.node → SameEnd (row_at c n) (row_at (submission b c).state n)
      own ok e =
          let w = (submission_notes s b ok n).here e in
          (rw ((flush_exactly_when b).1 f) at w.end, rw ((flush_exactly_when b).1 f) at w.begun)

  -- so no bio costs more or less for a flush before it, at any leaf
  pub a_flush_changes_no_cost : Flush b → (n : ℕ) (next : Bio) → cost_of c.model (row_at (submitted b c).state n) next ≡ cost_of c.model (row_at c n) next
  a_flush_changes_no_cost f n next = let w = a_flush_leaves_every_end f n in cost_by_the_end c.model next (row_at c n) (row_at (submitted b c).state n) w.0 w.1

  module _ (taken : first_of (submit_checks b c) ≡ Ok tt) where
    after_taken : (submitted b c).state ≡ (submission b c).state
    unfolding submitted submitted_by
    after_taken = ap (λ (v : Verdict). (submitted_by v b c).state) taken

    -- "callers may no longer rely on every accepted bio moving the end": on every other one they may
    pub any_other_accepted_bio_moves_the_end : (Flush b → ⊥)
        → ((row_at (submitted b c).state b.node).end ≡ end_of b) × ((row_at (submitted b c).state b.node).begun ≡ true)
    any_other_accepted_bio_moves_the_end other =
        let none : is_flush b ≡ false = is_false (is_flush b) (λ t. other ((flush_exactly_when b).0 t)) in
        let w = (submission_notes s b (admitted b c taken) b.node).here refl in
        rw after_taken (rw none at w.end, rw none at w.begun)

    -- "counts as an accepted bio since the last plan": every accepted bio does, a flush too
    pub an_accepted_bio_counts : (row_at (submitted b c).state b.node).accepted ≡ true
    an_accepted_bio_counts = rw after_taken ((submission_notes s b (admitted b c taken) b.node).here refl).accepted

    -- and leaves its leaf active; up to the next plan both stay so (Demand3/Plans)
    pub an_accepted_bio_activates : has (submitted b c).state.active b.node ≡ true
    an_accepted_bio_activates = rw after_taken (submission_is_active s b (admitted b c taken))

-- ---- "The cost rule for all else is as before": the rules without request Four, as document 01 has them
abbrev pub range_before : Bio → Bool
range_before b = bytes_in_range b.bytes && sector_in_range b.sector && flags_in_range b.flags

abbrev pub cost_before : Model → Row → Bio → Abs
cost_before model row b = cost_at (cond (is_write b) model.write model.read) (is_sequential row b) b.bytes

abbrev pub cost_checks_before : Model → Row → Bio → List Check
cost_checks_before model row b = (not (range_before b) ⇒ BadBio) ∷ (ltb cost_most (cost_before model row b).0 ⇒ TooDear) ∷ []

abbrev costing_by_before : Verdict → Model → Row → Bio → Costing
costing_by_before (Ok tt) model row b = Ok (cost_before model row b)
costing_by_before (Err x) model row b = Err x

abbrev pub costing_before : Model → Row → Bio → Costing
costing_before model row b = costing_by_before (first_of (cost_checks_before model row b)) model row b

abbrev pub noted_before : Bio → Row → Row
noted_before b r = with_accepted true (with_end (end_of b) true r)

abbrev answer_in_before : Controller → Bio → Answer
answer_in_before c b =
    answer_to (is_forced b) (cost_before c.model (row_at c b.node) b) (share_at c b.node) (row_at c b.node) (queue_at c b.node)

abbrev applied_before : Answer → Bio → Controller → Controller
applied_before answer b c =
    let cost : Abs = cost_before c.model (row_at c b.node) b in
    put_leaf b.node
    (noted_before b (row_after answer cost (share_at c b.node) (row_at c b.node)))
    (queue_after answer b.id cost (queue_at c b.node))
    c

abbrev settled_before : Answer → Bio → Controller → Controller
settled_before answer b c =
    cond (ends_donation answer && has c.donors b.node) (rebased c.active (applied_before answer b c)) (applied_before answer b c)

abbrev would_be_before : Controller → Bio → Answer
would_be_before c b = answer_in_before (entered b.node c) b

abbrev pub submit_checks_before : Bio → Controller → List Check
submit_checks_before b c =
    (not (is_leaf c.tree b.node) ⇒ NoLeaf)
    ∷ cost_checks_before c.model (row_at c b.node) b
    ++ room_checks (would_be_before c b) (cost_before c.model (row_at c b.node) b) (row_at c b.node) (queue_at c b.node)

abbrev pub submitted_by_before : Verdict → Bio → Controller → Submitted
submitted_by_before (Ok tt) b c =
    record { answer = Ok (would_be_before c b); state = settled_before (would_be_before c b) b (entered b.node c) }
submitted_by_before (Err x) b c = record { answer = Err x; state = c }

abbrev pub submitted_before : Bio → Controller → Submitted
submitted_before b c = submitted_by_before (first_of (submit_checks_before b c)) b c

-- what they accepted was no flush
pub what_was_in_range_is_no_flush : (b : Bio) → range_before b ≡ true → is_flush b ≡ false
what_was_in_range_is_no_flush b e =
    let fit = ((bytes_in_range_lem b.bytes).0 (and_left (bytes_in_range b.bytes) (sector_in_range b.sector) (and_left _ (flags_in_range b.flags) e))).fit in
    is_false (is_flush b) (λ t. omega (arith, ((flush_exactly_when b).0 t).empty, fit.0))

-- of every bio but a flush, be it accepted or refused, they say what is said now: the cost, what is noted, the answer and the state
module _ (b : Bio) (other : is_flush b ≡ false) where
  pub the_cost_is_as_before : (m : Model) (row : Row) → cost_of m row b ≡ cost_before m row b
  unfolding cost_of
  the_cost_is_as_before m row = rw other

  pub the_costing_is_as_before : (m : Model) (row : Row) → costing m row b ≡ costing_before m row b
  unfolding costing costing_by cost_checks
  the_costing_is_as_before m row = rw (other, the_cost_is_as_before m row) (go (first_of (cost_checks_before m row b)))
    where
      go : (v : Verdict) → costing_by v m row b ≡ costing_by_before v m row b
      go (Ok tt) = rw (the_cost_is_as_before m row)
      go (Err x) = refl

  pub what_is_noted_is_as_before : (r : Row) → noted b r ≡ noted_before b r
  what_is_noted_is_as_before r = rw other

  would_be_lem : (c : Controller) → would_be c b ≡ would_be_before c b
  unfolding would_be answer_in
  would_be_lem c = rw (the_cost_is_as_before (entered b.node c).model (row_at (entered b.node c) b.node))

  settles : (a : Answer) (c : Controller) → settled a b c ≡ settled_before a b c
  unfolding settled applied
  settles a c = rw (the_cost_is_as_before c.model (row_at c b.node), other)

  checks : (c : Controller) → submit_checks b c ≡ submit_checks_before b c
  unfolding submit_checks cost_checks
  checks c = rw (other, the_cost_is_as_before c.model (row_at c b.node), would_be_lem c)

  pub all_else_is_as_before : (c : Controller) → submitted b c ≡ submitted_before b c
  unfolding submitted submitted_by submission
  all_else_is_as_before c = rw (checks c) (go (first_of (submit_checks_before b c)))
    where
      go : (v : Verdict) → submitted_by v b c ≡ submitted_by_before v b c
      go (Ok tt) = rw (would_be_lem c, settles (would_be_before c b) (entered b.node c))
      go (Err x) = refl

-- so for every bio that the old rules accepted, the new cost, end and answer are the old ones
pub what_was_accepted_is_as_before : (b : Bio) (c : Controller) → first_of (submit_checks_before b c) ≡ Ok tt
    → (cost_in c b ≡ cost_before c.model (row_at c b.node) b) × ((r : Row) → noted b r ≡ noted_before b r) × (submitted b c ≡ submitted_before b c)
what_was_accepted_is_as_before b c e =
    let other = what_was_in_range_is_no_flush b (not-false (range_before b) ((accepted_exactly_when (submit_checks_before b c)).0 e).1.0) in
    (the_cost_is_as_before b other c.model (row_at c b.node), what_is_noted_is_as_before b other, all_else_is_as_before b other c)

-- and what is accepted beyond them is a flush
pub only_flushes_are_new : (b : Bio) (c : Controller) → first_of (submit_checks b c) ≡ Ok tt
    → (first_of (submit_checks_before b c) ≡ Ok tt → ⊥) → Flush b
only_flushes_are_new b c taken was =
    (flush_exactly_when b).0 (is_true (is_flush b) (λ other. was (ap first_of (sym (checks b other c)) ∙ taken)))
