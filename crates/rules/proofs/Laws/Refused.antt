-- Demand 1 in a customer's words: when each refusal of each entry is given, and that a refusal changes nothing.
-- Assumes nothing.
use Rattle.std.specs.Prelude.{◌≡◌, ◌↔◌, Bool, true, false, not, ◌&&◌, ℕ, ◌+◌, ◌≤◌, ◌<◌, eqb, leb, ltb, length, Err, Ok}
use Rattle.std.proofs.Math.Path.{refl}
use Rattle.std.proofs.Common.{ap, sym, ◌∙◌, arith}
use mathlib.Core.List.{List, [], ◌∷◌}
use borrow.Author.Tests.{ltb-true, ltb-false, lt-ltb, le-ltb, eqb-true, eq-eqb, not-true, not-false}
use Rattle.rules.specs.Numbers.{queue_room, cost_most, debt_most, elapsed_most, vtime_most, since_most, vrate_least, vrate_most, weight_least, weight_most}
use Rattle.rules.specs.Cost.{rates_in_range, bio_in_range}
use Rattle.rules.specs.Tree.{weight_in_range, is_leaf, tree_fault, is_thin, is_below_root, with_weight}
use Rattle.rules.specs.Budget.{fresh, row_at, queue_at, submission, would_be}
use Rattle.rules.specs.Tick.{growth, waiting_all}
use Rattle.rules.specs.Refusals.{Check, ◌⇒◌, first_of, is_fault, is_wait, is_debt, cost_checks, room_checks, submit_checks, tick_checks, plan_checks, vrate_checks, weight_checks, tree_checks, rate_checks, start_checks, fault_in}
use Rattle.rules.specs.Entries.{submitted_by, submitted, ticked_by, ticked, lent_by, lent_of, planned_by, planned, vrated_by, vrated, weighted_by, weighted, started_by, started, no_tree, slowest_model}
use Rattle.rules.proofs.Laws.Bools.{never, true_not_false, exactly, exactly_both, exactly_not, at_most, between}
use Rattle.rules.proofs.Laws.Costs.{BioInRange, bio_in_range_lem, RatesInRange, rates_in_range_lem}
use Rattle.rules.proofs.Laws.TreeVerdicts.{sound_when}
use Rattle.rules.proofs.Laws.Faults.{CountInRange, FirstSays, TreeSays, the_first_bad_node, fault_given, no_fault's_number, thin_and_rates_lack}
use Rattle.rules.proofs.Laws.Passes.{start_answers, plan_answers, vrate_answers, weighted_answers}
use Rattle.rules.proofs.Laws.Answers.{answer_is_no_refusal}
use Rattle.rules.proofs.Laws.Verdicts.{accepted_is_not_refused, given_exactly_when}
use Rattle.rules.proofs.Laws.Submits.{cost_in}
use Rattle.rules.specs.declared.cost.Rates.{Rates}
use Rattle.rules.specs.declared.cost.Bio.{Bio}
use Rattle.rules.specs.declared.tree.Tree.{Tree}
use Rattle.rules.specs.declared.tree.Fault.{Fault}
use Rattle.rules.specs.declared.tree.Fault.TheVariants.{Count, Parent, Weight, Level}
use Rattle.rules.specs.declared.budget.Controller.{Controller}
use Rattle.rules.specs.declared.refusals.Refusal.{Refusal}
use Rattle.rules.specs.declared.refusals.Refusal.TheVariants.{BadTree, ThinTree, BadRate, NoLeaf, BadBio, TooDear, QueueFull, DebtFull, TimeBack, TimeFar, ClockFull, PlanDue, FewPlaces, NothingPassed, BadVrate, NotBelowRoot}
use Rattle.rules.specs.declared.refusals.Answer.{Answer}
use Rattle.rules.specs.declared.refusals.Answer.TheVariants.{Issued, Waits, OnDebt}
use Rattle.rules.specs.Results.{Verdict, Finding}

-- ---- the refusals of a submission
pub submit_refuses_exactly_when : (b : Bio) (c : Controller) (x : Refusal) → ((submitted b c).answer ≡ Err x) ↔ (first_of (submit_checks b c) ≡ Err x)
unfolding submitted submitted_by submission
submit_refuses_exactly_when b c x = go (first_of (submit_checks b c))
  where
    go : (v : Verdict) → ((submitted_by v b c).answer ≡ Err x) ↔ (v ≡ Err x)
    go (Ok tt) = (λ e. absurd (answer_is_no_refusal c b x e), λ e. absurd (accepted_is_not_refused x e))
    go (Err y) = (λ e. cc, λ e. cc)

not_test : (t : Bool) → (not t ≡ false) ↔ (t ≡ true)
not_test t = (not-false t, λ e. rw e)

above_test : (a b : ℕ) → (ltb a b ≡ true) ↔ (a < b)
above_test a b = (ltb-true a b, lt-ltb a b)

wait_test : (a : Answer) → (is_wait a ≡ true) ↔ (a ≡ Waits)
wait_test Issued = (λ e. absurd (true_not_false e refl), λ e. never (cc))
wait_test Waits = (λ e. refl, λ e. refl)
wait_test OnDebt = (λ e. absurd (true_not_false e refl), λ e. never (cc))

debt_test : (a : Answer) → (is_debt a ≡ true) ↔ (a ≡ OnDebt)
debt_test Issued = (λ e. absurd (true_not_false e refl), λ e. never (cc))
debt_test Waits = (λ e. absurd (true_not_false e refl), λ e. never (cc))
debt_test OnDebt = (λ e. refl, λ e. refl)

-- an answer that is a debt is no wait
debt_no_wait : (a : Answer) (len : ℕ) → a ≡ OnDebt → (is_wait a && leb queue_room len) ≡ false
debt_no_wait a len e = rw e

module _ (b : Bio) (c : Controller) where
  -- the five checks, in the table's order
  no_leaf : Check
  no_leaf = not (is_leaf c.tree b.node) ⇒ NoLeaf

  bad_bio : Check
  bad_bio = not (bio_in_range b) ⇒ BadBio

  too_dear : Check
  too_dear = ltb cost_most (cost_in c b).0 ⇒ TooDear

  queue_full : Check
  queue_full = is_wait (would_be c b) && leb queue_room (queue_at c b.node).len ⇒ QueueFull

  debt_full : Check
  debt_full = is_debt (would_be c b) && ltb debt_most ((row_at c b.node).debt.0 + (cost_in c b).0) ⇒ DebtFull

  pub refusal_4_exactly_when : ((submitted b c).answer ≡ Err NoLeaf) ↔ (is_leaf c.tree b.node ≡ false)
  unfolding submit_checks cost_checks room_checks no_leaf bad_bio too_dear queue_full debt_full
  refusal_4_exactly_when =
      let g = given_exactly_when [] no_leaf.holds NoLeaf (bad_bio ∷ too_dear ∷ queue_full ∷ debt_full ∷ []) refl refl in
      exactly (submit_refuses_exactly_when b c NoLeaf) (exactly g (λ w. not-true _ w.1, λ e. (tt, rw e)))

  pub refusal_5_exactly_when : ((submitted b c).answer ≡ Err BadBio) ↔ ((is_leaf c.tree b.node ≡ true) × (BioInRange b → ⊥))
  unfolding submit_checks cost_checks room_checks no_leaf bad_bio too_dear queue_full debt_full
  refusal_5_exactly_when =
      let g = given_exactly_when (no_leaf ∷ []) bad_bio.holds BadBio (too_dear ∷ queue_full ∷ debt_full ∷ []) refl refl in
      let out = exactly_not (bio_in_range b) (bio_in_range_lem b) in
      exactly (submit_refuses_exactly_when b c BadBio) (exactly g (
        λ w. (not-false _ w.0.0, out.0 (not-true _ w.1)),
        λ w. (((not_test _).1 w.0, tt), rw (out.1 w.1)),
      ))

  pub refusal_6_exactly_when : ((submitted b c).answer ≡ Err TooDear)
      ↔ ((is_leaf c.tree b.node ≡ true) × BioInRange b × (cost_most < (cost_in c b).0))
  unfolding submit_checks cost_checks room_checks no_leaf bad_bio too_dear queue_full debt_full
  refusal_6_exactly_when =
      let g = given_exactly_when (no_leaf ∷ bad_bio ∷ []) too_dear.holds TooDear (queue_full ∷ debt_full ∷ []) refl refl in
      exactly (submit_refuses_exactly_when b c TooDear) (exactly g (
        λ w. (not-false _ w.0.0, (bio_in_range_lem b).0 (not-false _ w.0.1.0), ltb-true _ _ w.1),
        λ w. (((not_test _).1 w.0, ((not_test _).1 ((bio_in_range_lem b).1 w.1), tt)), lt-ltb _ _ w.2),
      ))

  pub refusal_7_exactly_when : ((submitted b c).answer ≡ Err QueueFull)
      ↔ ((is_leaf c.tree b.node ≡ true) × BioInRange b × ((cost_in c b).0 ≤ cost_most) × (would_be c b ≡ Waits) × (queue_room ≤ (queue_at c b.node).len))
  unfolding submit_checks cost_checks room_checks no_leaf bad_bio too_dear queue_full debt_full
  refusal_7_exactly_when =
      let g = given_exactly_when (no_leaf ∷ bad_bio ∷ too_dear ∷ []) queue_full.holds QueueFull (debt_full ∷ []) refl refl in
      let full = exactly_both _ _ (wait_test (would_be c b)) (at_most queue_room (queue_at c b.node).len) in
      exactly (submit_refuses_exactly_when b c QueueFull) (exactly g (
        λ w. (
          not-false _ w.0.0,
          (bio_in_range_lem b).0 (not-false _ w.0.1.0),
          ltb-false _ _ w.0.1.1.0,
          (full.0 w.1).0,
          (full.0 w.1).1,
        ),
        λ w. (
          ((not_test _).1 w.0, ((not_test _).1 ((bio_in_range_lem b).1 w.1), (le-ltb _ _ w.2, tt))),
          full.1 (w.3, w.4),
        ),
      ))

  pub refusal_8_exactly_when : ((submitted b c).answer ≡ Err DebtFull)
      ↔ ((is_leaf c.tree b.node ≡ true) × BioInRange b × ((cost_in c b).0 ≤ cost_most) × (would_be c b ≡ OnDebt)
      × (debt_most < (row_at c b.node).debt.0 + (cost_in c b).0))
  unfolding submit_checks cost_checks room_checks no_leaf bad_bio too_dear queue_full debt_full
  refusal_8_exactly_when =
      let g = given_exactly_when (no_leaf ∷ bad_bio ∷ too_dear ∷ queue_full ∷ []) debt_full.holds DebtFull [] refl refl in
      let full = exactly_both _ _ (debt_test (would_be c b)) (above_test debt_most ((row_at c b.node).debt.0 + (cost_in c b).0)) in
      exactly (submit_refuses_exactly_when b c DebtFull) (exactly g (
        λ w. (
          not-false _ w.0.0,
          (bio_in_range_lem b).0 (not-false _ w.0.1.0),
          ltb-false _ _ w.0.1.1.0,
          (full.0 w.1).0,
          (full.0 w.1).1,
        ),
        λ w. (
          ((not_test _).1 w.0, ((not_test _).1 ((bio_in_range_lem b).1 w.1), (le-ltb _ _ w.2, (debt_no_wait (would_be c b) (queue_at c b.node).len w.3, tt)))),
          full.1 (w.3, w.4),
        ),
      ))

-- ---- the refusals of a tick
pub tick_refuses_exactly_when : (time : ℕ) (lent : List ℕ) (c : Controller) (x : Refusal)
    → ((ticked time lent c).answer ≡ Err x) ↔ (first_of (tick_checks time (length lent) c) ≡ Err x)
unfolding ticked ticked_by
tick_refuses_exactly_when time lent c x = go (first_of (tick_checks time (length lent) c))
  where
    go : (v : Verdict) → ((ticked_by v time c).answer ≡ Err x) ↔ (v ≡ Err x)
    go (Ok tt) = (λ e. never (cc), λ e. absurd (accepted_is_not_refused x e))
    go (Err y) = (λ e. cc, λ e. cc)

module _ (time : ℕ) (lent : List ℕ) (c : Controller) where
  -- "Time earlier than the last accepted", and the four below it
  time_back : Check
  time_back = ltb time c.clock.time ⇒ TimeBack

  time_far : Check
  time_far = ltb (c.clock.time + elapsed_most) time ⇒ TimeFar

  clock_full : Check
  clock_full = ltb vtime_most (c.clock.vtime.0 + (growth c.clock time).0) ⇒ ClockFull

  plan_due : Check
  plan_due = ltb since_most (c.clock.since.0 + (growth c.clock time).0) ⇒ PlanDue

  few_places : Check
  few_places = ltb (length lent) (waiting_all c) ⇒ FewPlaces

  pub refusal_9_exactly_when : ((ticked time lent c).answer ≡ Err TimeBack) ↔ (time < c.clock.time)
  unfolding tick_checks time_back time_far clock_full plan_due few_places
  refusal_9_exactly_when =
      let g = given_exactly_when [] time_back.holds TimeBack (time_far ∷ clock_full ∷ plan_due ∷ few_places ∷ []) refl refl in
      exactly (tick_refuses_exactly_when time lent c TimeBack) (exactly g (λ w. ltb-true _ _ w.1, λ w. (tt, lt-ltb _ _ w)))

  pub refusal_10_exactly_when : ((ticked time lent c).answer ≡ Err TimeFar) ↔ (c.clock.time + elapsed_most < time)
  unfolding tick_checks time_back time_far clock_full plan_due few_places
  refusal_10_exactly_when =
      let g = given_exactly_when (time_back ∷ []) time_far.holds TimeFar (clock_full ∷ plan_due ∷ few_places ∷ []) refl refl in
      exactly (tick_refuses_exactly_when time lent c TimeFar)
      (exactly g (λ w. ltb-true _ _ w.1, λ w. ((le-ltb time c.clock.time (omega arith), tt), lt-ltb _ _ w)))

  -- the time is neither earlier nor too far
  pub record TimeFits : Type 0 where
    pub not_back : c.clock.time ≤ time
    pub not_far : time ≤ c.clock.time + elapsed_most

  pub refusal_11_exactly_when : ((ticked time lent c).answer ≡ Err ClockFull) ↔ (TimeFits × (vtime_most < c.clock.vtime.0 + (growth c.clock time).0))
  unfolding tick_checks time_back time_far clock_full plan_due few_places
  refusal_11_exactly_when =
      let g = given_exactly_when (time_back ∷ time_far ∷ []) clock_full.holds ClockFull (plan_due ∷ few_places ∷ []) refl refl in
      exactly (tick_refuses_exactly_when time lent c ClockFull) (exactly g (
        λ w. (record { not_back = ltb-false _ _ w.0.0; not_far = ltb-false _ _ w.0.1.0 }, ltb-true _ _ w.1),
        λ w. ((le-ltb _ _ w.0.not_back, (le-ltb _ _ w.0.not_far, tt)), lt-ltb _ _ w.1),
      ))

  pub refusal_12_exactly_when : ((ticked time lent c).answer ≡ Err PlanDue)
      ↔ (TimeFits × (c.clock.vtime.0 + (growth c.clock time).0 ≤ vtime_most) × (since_most < c.clock.since.0 + (growth c.clock time).0))
  unfolding tick_checks time_back time_far clock_full plan_due few_places
  refusal_12_exactly_when =
      let g = given_exactly_when (time_back ∷ time_far ∷ clock_full ∷ []) plan_due.holds PlanDue (few_places ∷ []) refl refl in
      exactly (tick_refuses_exactly_when time lent c PlanDue) (exactly g (
        λ w. (
          record { not_back = ltb-false _ _ w.0.0; not_far = ltb-false _ _ w.0.1.0 },
          ltb-false _ _ w.0.1.1.0,
          ltb-true _ _ w.1,
        ),
        λ w. ((le-ltb _ _ w.0.not_back, (le-ltb _ _ w.0.not_far, (le-ltb _ _ w.1, tt))), lt-ltb _ _ w.2),
      ))

  pub refusal_13_exactly_when : ((ticked time lent c).answer ≡ Err FewPlaces)
      ↔ (TimeFits × (c.clock.vtime.0 + (growth c.clock time).0 ≤ vtime_most) × (c.clock.since.0 + (growth c.clock time).0 ≤ since_most)
      × (length lent < waiting_all c))
  unfolding tick_checks time_back time_far clock_full plan_due few_places
  refusal_13_exactly_when =
      let g = given_exactly_when (time_back ∷ time_far ∷ clock_full ∷ plan_due ∷ []) few_places.holds FewPlaces [] refl refl in
      exactly (tick_refuses_exactly_when time lent c FewPlaces) (exactly g (
        λ w. (
          record { not_back = ltb-false _ _ w.0.0; not_far = ltb-false _ _ w.0.1.0 },
          ltb-false _ _ w.0.1.1.0,
          ltb-false _ _ w.0.1.1.1.0,
          ltb-true _ _ w.1,
        ),
        λ w. (
          (le-ltb _ _ w.0.not_back, (le-ltb _ _ w.0.not_far, (le-ltb _ _ w.1, (le-ltb _ _ w.2, tt)))),
          lt-ltb _ _ w.3,
        ),
      ))

-- ---- the refusals of a plan and of vrate
-- an answer that is what its checks give refuses exactly where they do
as_its_checks : {answer v : Verdict} → answer ≡ v → (x : Refusal) → (answer ≡ Err x) ↔ (v ≡ Err x)
as_its_checks e x = (λ i. sym e ∙ i, λ i. e ∙ i)

pub plan_refuses : (c : Controller) (x : Refusal) → ((planned c).answer ≡ Err x) ↔ (first_of (plan_checks c) ≡ Err x)
plan_refuses c = as_its_checks (plan_answers c)

pub refusal_14_exactly_when : (c : Controller) → ((planned c).answer ≡ Err NothingPassed) ↔ (c.clock.since.0 ≡ 0)
unfolding plan_checks
refusal_14_exactly_when c =
    exactly (plan_refuses c NothingPassed)
    (exactly (given_exactly_when [] (eqb c.clock.since.0 0) NothingPassed [] refl refl) (λ w. eqb-true _ _ w.1, λ w. (tt, eq-eqb _ _ w)))

vrate_refuses : (v : ℕ) (c : Controller) (x : Refusal) → ((vrated v c).answer ≡ Err x) ↔ (first_of (vrate_checks v) ≡ Err x)
vrate_refuses v c = as_its_checks (vrate_answers v c)

pub refusal_15_exactly_when : (v : ℕ) (c : Controller) → ((vrated v c).answer ≡ Err BadVrate) ↔ ((vrate_least ≤ v) × (v ≤ vrate_most) → ⊥)
unfolding vrate_checks
refusal_15_exactly_when v c =
    let out = exactly_not (leb vrate_least v && leb v vrate_most) (between vrate_least v vrate_most) in
    exactly (vrate_refuses v c BadVrate)
    (exactly (given_exactly_when [] (not (leb vrate_least v && leb v vrate_most)) BadVrate [] refl refl)
    (λ w. out.0 (not-true _ w.1), λ w. (tt, rw (out.1 w))))

-- ---- the refusals of a weight: 19, then 22, then 2
weight_refuses : (n w : ℕ) (c : Controller) (x : Refusal) → ((weighted n w c).answer ≡ Err x) ↔ (first_of (weight_checks n w c.tree) ≡ Err x)
weight_refuses n w c = as_its_checks (weighted_answers n w c)

module _ (n w : ℕ) (c : Controller) where
  -- the node is neither the root nor absent
  abbrev BelowRoot : Type 0
  BelowRoot = (0 < n) × (n < c.tree.count)

  abbrev WeightInRange : Type 0
  WeightInRange = (weight_least ≤ w) × (w ≤ weight_most)

  below_root : (is_below_root c.tree n ≡ true) ↔ BelowRoot
  unfolding is_below_root
  below_root = exactly_both _ _ (above_test 0 n) (above_test n c.tree.count)

  weight_in_range_lem : (weight_in_range w ≡ true) ↔ WeightInRange
  unfolding weight_in_range
  weight_in_range_lem = between weight_least w weight_most

  not_below_root : Check
  not_below_root = not (is_below_root c.tree n) ⇒ NotBelowRoot

  bad_weight : Check
  bad_weight = not (weight_in_range w) ⇒ BadTree (Weight n)

  too_thin : Check
  too_thin = is_thin (with_weight n w c.tree) ⇒ ThinTree

  pub refusal_19_exactly_when : ((weighted n w c).answer ≡ Err NotBelowRoot) ↔ (BelowRoot → ⊥)
  unfolding weight_checks bad_weight too_thin
  refusal_19_exactly_when =
      let out = exactly_not (is_below_root c.tree n) below_root in
      exactly (weight_refuses n w c NotBelowRoot)
      (exactly (given_exactly_when [] (not (is_below_root c.tree n)) NotBelowRoot (bad_weight ∷ too_thin ∷ []) refl refl)
      (λ h. out.0 (not-true _ h.1), λ h. (tt, rw (out.1 h))))

  pub a_weight_is_refused_22_exactly_when : ((weighted n w c).answer ≡ Err (BadTree (Weight n))) ↔ (BelowRoot × (WeightInRange → ⊥))
  unfolding weight_checks not_below_root too_thin
  a_weight_is_refused_22_exactly_when =
      let out = exactly_not (weight_in_range w) weight_in_range_lem in
      exactly (weight_refuses n w c (BadTree (Weight n)))
      (exactly (given_exactly_when (not_below_root ∷ []) (not (weight_in_range w)) (BadTree (Weight n)) (too_thin ∷ []) refl refl) (
        λ h. (below_root.0 ((not_test _).0 h.0.0), out.0 (not-true _ h.1)),
        λ h. (((not_test _).1 (below_root.1 h.0), tt), rw (out.1 h.1)),
      ))

  -- thin is the tree with the new weight, with all its leaves active
  pub a_weight_is_refused_2_exactly_when : ((weighted n w c).answer ≡ Err ThinTree)
      ↔ (BelowRoot × WeightInRange × (is_thin (with_weight n w c.tree) ≡ true))
  unfolding weight_checks not_below_root bad_weight
  a_weight_is_refused_2_exactly_when =
      exactly (weight_refuses n w c ThinTree)
      (exactly (given_exactly_when (not_below_root ∷ bad_weight ∷ []) (is_thin (with_weight n w c.tree)) ThinTree [] refl refl) (
        λ h. (below_root.0 ((not_test _).0 h.0.0), weight_in_range_lem.0 ((not_test _).0 h.0.1.0), h.1),
        λ h. (((not_test _).1 (below_root.1 h.0), ((not_test _).1 (weight_in_range_lem.1 h.1), tt)), h.2),
      ))

-- ---- the refusals of start
start_refuses : (t : Tree) (r : Rates) (time : ℕ) (x : Refusal) → ((started t r time).answer ≡ Err x) ↔ (first_of (start_checks t r) ≡ Err x)
start_refuses t r time = as_its_checks (start_answers t r time)

fault_test : (f : Finding) → (is_fault f ≡ false) ↔ (f ≡ Ok tt)
fault_test f = (sound_when f, λ e. rw e)

module _ (t : Tree) (r : Rates) (time : ℕ) where
  start_given : (f : Fault) → ((started t r time).answer ≡ Err (BadTree f)) ↔ (tree_fault t ≡ Err f)
  unfolding start_checks tree_checks rate_checks
  start_given f =
      exactly (start_refuses t r time (BadTree f))
      (fault_given f (tree_fault t) ((is_thin t ⇒ ThinTree) ∷ (not (rates_in_range r) ⇒ BadRate) ∷ []) (thin_and_rates_lack f (is_thin t) (not (rates_in_range r))))

  -- 20 to 23 carry the first fault of the tree, and no other one
  pub start_names : (f : Fault) → ((started t r time).answer ≡ Err (BadTree f)) ↔ TreeSays t f
  start_names f = exactly (start_given f) (the_first_bad_node t f)

  pub refusal_20_exactly_when : ((started t r time).answer ≡ Err (BadTree Count)) ↔ (CountInRange t → ⊥)
  refusal_20_exactly_when = start_names Count

  pub refusal_21_exactly_when : (n : ℕ) → ((started t r time).answer ≡ Err (BadTree (Parent n))) ↔ FirstSays t (Parent n)
  refusal_21_exactly_when n = start_names (Parent n)

  pub refusal_22_exactly_when : (n : ℕ) → ((started t r time).answer ≡ Err (BadTree (Weight n))) ↔ FirstSays t (Weight n)
  refusal_22_exactly_when n = start_names (Weight n)

  pub refusal_23_exactly_when : (n : ℕ) → ((started t r time).answer ≡ Err (BadTree (Level n))) ↔ FirstSays t (Level n)
  refusal_23_exactly_when n = start_names (Level n)

  pub refusal_2_exactly_when : ((started t r time).answer ≡ Err ThinTree) ↔ ((tree_fault t ≡ Ok tt) × (is_thin t ≡ true))
  unfolding start_checks tree_checks rate_checks
  refusal_2_exactly_when =
      let g =
      given_exactly_when ((is_fault (tree_fault t) ⇒ BadTree (fault_in (tree_fault t))) ∷ []) (is_thin t) ThinTree ((not (rates_in_range r) ⇒ BadRate) ∷ []) (rw (no_fault's_number (fault_in (tree_fault t)) 2 (omega arith) (omega arith))) refl in
      exactly (start_refuses t r time ThinTree)
      (exactly g (λ w. ((fault_test (tree_fault t)).0 w.0.0, w.1), λ w. (((fault_test (tree_fault t)).1 w.0, tt), w.1)))

  pub refusal_3_exactly_when : ((started t r time).answer ≡ Err BadRate)
      ↔ ((tree_fault t ≡ Ok tt) × (is_thin t ≡ false) × (RatesInRange r → ⊥))
  unfolding start_checks tree_checks rate_checks
  refusal_3_exactly_when =
      let g =
      given_exactly_when ((is_fault (tree_fault t) ⇒ BadTree (fault_in (tree_fault t))) ∷ (is_thin t ⇒ ThinTree) ∷ []) (not (rates_in_range r)) BadRate [] (rw (no_fault's_number (fault_in (tree_fault t)) 3 (omega arith) (omega arith))) refl in
      let out = exactly_not (rates_in_range r) (rates_in_range_lem r) in
      exactly (start_refuses t r time BadRate) (exactly g (
        λ w. ((fault_test (tree_fault t)).0 w.0.0, w.0.1.0, out.0 (not-true _ w.1)),
        λ w. (((fault_test (tree_fault t)).1 w.0, (w.1, tt)), rw (out.1 w.2)),
      ))

-- ---- "Each returns its number and changes nothing"
pub a_refused_bio_changes_nothing : (b : Bio) (c : Controller) (x : Refusal) → (submitted b c).answer ≡ Err x → (submitted b c).state ≡ c
unfolding submitted submitted_by
a_refused_bio_changes_nothing b c x e =
    ap (λ (v : Verdict). (submitted_by v b c).state) ((submit_refuses_exactly_when b c x).0 e)

pub a_refused_tick_changes_nothing : (time : ℕ) (lent : List ℕ) (c : Controller) (x : Refusal) → (ticked time lent c).answer ≡ Err x
    → ((ticked time lent c).state ≡ c) × (lent_of time lent c ≡ lent)
unfolding ticked ticked_by lent_of lent_by
a_refused_tick_changes_nothing time lent c x e =
    let v : first_of (tick_checks time (length lent) c) ≡ Err x = (tick_refuses_exactly_when time lent c x).0 e in
    (ap (λ (w : Verdict). (ticked_by w time c).state) v, ap (λ (w : Verdict). lent_by w time lent c) v)

pub a_refused_plan_changes_nothing : (c : Controller) (x : Refusal) → (planned c).answer ≡ Err x → (planned c).state ≡ c
unfolding planned planned_by
a_refused_plan_changes_nothing c x e = ap (λ (v : Verdict). (planned_by v c).state) ((plan_refuses c x).0 e)

pub a_refused_vrate_changes_nothing : (v : ℕ) (c : Controller) (x : Refusal) → (vrated v c).answer ≡ Err x → (vrated v c).state ≡ c
unfolding vrated vrated_by
a_refused_vrate_changes_nothing v c x e = ap (λ (w : Verdict). (vrated_by w v c).state) ((vrate_refuses v c x).0 e)

pub a_refused_weight_changes_nothing : (n w : ℕ) (c : Controller) (x : Refusal) → (weighted n w c).answer ≡ Err x → (weighted n w c).state ≡ c
unfolding weighted weighted_by
a_refused_weight_changes_nothing n w c x e = ap (λ (v : Verdict). (weighted_by v n w c).state) ((weight_refuses n w c x).0 e)

-- a refused start has no state to keep: the one that it hands out has no leaf
pub a_refused_start_has_no_leaf : (t : Tree) (r : Rates) (time : ℕ) (x : Refusal) → (started t r time).answer ≡ Err x
    → (started t r time).state ≡ fresh no_tree slowest_model 0
unfolding started started_by
a_refused_start_has_no_leaf t r time x e = ap (λ (w : Verdict). (started_by w t r time).state) ((start_refuses t r time x).0 e)
