-- The refusals that each entry can give, by number and in the order of its checks, and what each entry answers on paper: the number
-- of the first check that holds, 0 where none does, and the values that it then gives.
-- Assumes nothing.
use Rattle.std.specs.Prelude.{◌≡◌, refl, Bool, true, false, cond, List, [], ◌∷◌, ℕ, ◌+◌, ◌<◌, ◌≤◌, ltb, length, get_or, drop, Err, Ok}
use Rattle.std.proofs.Common.{ap, ◌∙◌, arith, lt-ltb, le-ltb}
use Rattle.rules.specs.Cost.{priced, cost_of}
use Rattle.rules.specs.Budget.{would_be, submission}
use Rattle.rules.specs.Tick.{growth, releases}
use Rattle.rules.specs.Trace.{layout, record_bytes, writing, fields_from, behind, read_at}
use Rattle.rules.specs.Tree.{tree_fault, newest_fault}
use Rattle.rules.specs.Refusals.{◌⇒◌, fault_number, paper, paper_of, unless, verdict_paper, numbers_of, first_of, verdict_number, answer_values, model_values, answer_paper, count_paper, pricing_paper, costing_paper, read_paper, write_paper, tree_checks, node_checks, rate_checks, start_checks, cost_checks, room_checks, submit_checks, tick_checks, plan_checks, vrate_checks, weight_checks, read_checks, values_at, write_checks, fault_in, letters_of}
use Rattle.rules.specs.Entries.{pricing_by, pricing, tree_verdict, costing_by, costing, started, submitted_by, submitted, ticked_by, ticked, planned, vrated, weighted}
use Rattle.rules.proofs.Laws.Passes.{start_answers, plan_answers, vrate_answers, weighted_answers}
use Rattle.rules.proofs.Laws.Answers.{answer_is_no_refusal}
use Rattle.rules.proofs.Laws.Trace.{end_at, Reading, each_answer, kind_of_record, fields_of_record}
use Rattle.rules.proofs.Laws.Trace.Reading.{beyond, ended, unknown, cut, whole}
use Rattle.rules.specs.declared.cost.Rates.{Rates}
use Rattle.rules.specs.declared.cost.Model.{Model}
use Rattle.rules.specs.declared.cost.Bio.{Bio}
use Rattle.rules.specs.declared.tree.Tree.{Tree}
use Rattle.rules.specs.declared.budget.Row.{Row}
use Rattle.rules.specs.declared.budget.Controller.{Controller}
use Rattle.rules.specs.declared.refusals.Refusal.{Refusal}
use Rattle.rules.specs.declared.refusals.Refusal.TheVariants.{ShortBuffer}
use Rattle.rules.specs.declared.trace.Record.{Record}
use Rattle.rules.specs.Results.{Judged, Submitted, Ticked, Verdict, Pricing, Costing, Read, Write, Answered}

pub node_refusals : (t : Tree) → numbers_of (node_checks t) ≡ fault_number (fault_in (newest_fault t)) ∷ []
unfolding node_checks
node_refusals t = refl

pub start_refusals : (t : Tree) (r : Rates) → numbers_of (start_checks t r) ≡ fault_number (fault_in (tree_fault t)) ∷ 2 ∷ 3 ∷ []
unfolding start_checks tree_checks rate_checks
start_refusals t r = refl

pub submit_refusals : (b : Bio) (c : Controller) → numbers_of (submit_checks b c) ≡ 4 ∷ 5 ∷ 6 ∷ 7 ∷ 8 ∷ []
unfolding submit_checks cost_checks room_checks
submit_refusals b c = refl

pub tick_refusals : (time places : ℕ) (c : Controller) → numbers_of (tick_checks time places c) ≡ 9 ∷ 10 ∷ 11 ∷ 12 ∷ 13 ∷ []
unfolding tick_checks
tick_refusals time places c = refl

pub plan_refusals : (c : Controller) → numbers_of (plan_checks c) ≡ 14 ∷ []
unfolding plan_checks
plan_refusals c = refl

pub vrate_refusals : (v : ℕ) → numbers_of (vrate_checks v) ≡ 15 ∷ []
unfolding vrate_checks
vrate_refusals v = refl

pub weight_refusals : (n w : ℕ) (t : Tree) → numbers_of (weight_checks n w t) ≡ 19 ∷ 22 ∷ 2 ∷ []
unfolding weight_checks
weight_refusals n w t = refl

pub read_refusals : (trace : List ℕ) (at : ℕ) → numbers_of (read_checks trace at) ≡ 16 ∷ 17 ∷ []
unfolding read_checks
read_refusals trace at = refl

pub write_refusals : (r : Record) (lent : List ℕ) → numbers_of (write_checks r lent) ≡ 28 ∷ []
unfolding write_checks
write_refusals r lent = refl

-- ---- "Each returns its number": an entry that answers as its rule does says this on paper
-- what is promised, and what follows from it
pub both : {A B : Type 0} → A → (A → B) → A × B
both a f = (a, f a)

pub price_on_paper : (rates : Rates) {r : Pricing} → r ≡ pricing rates → pricing_paper r ≡ paper_of (rate_checks rates) (model_values (priced rates))
unfolding pricing pricing_by
price_on_paper rates e = ap pricing_paper e ∙ go (first_of (rate_checks rates))
  where
    go : (v : Verdict) → pricing_paper (pricing_by v rates) ≡ paper (verdict_number v) (unless v (model_values (priced rates)))
    go (Ok tt) = refl
    go (Err x) = refl

pub cost_on_paper : (m : Model) (row : Row) (b : Bio) {r : Costing} → r ≡ costing m row b
    → costing_paper r ≡ paper_of (cost_checks m row b) ((cost_of m row b).0 ∷ [])
unfolding costing costing_by
cost_on_paper m row b e = ap costing_paper e ∙ go (first_of (cost_checks m row b))
  where
    go : (v : Verdict) → costing_paper (costing_by v m row b) ≡ paper (verdict_number v) (unless v ((cost_of m row b).0 ∷ []))
    go (Ok tt) = refl
    go (Err x) = refl

pub check_on_paper : (t : Tree) {r : Verdict} → r ≡ tree_verdict t → verdict_paper r ≡ paper_of (tree_checks t) []
unfolding tree_verdict
check_on_paper t e = ap verdict_paper e

-- of a call that answers a verdict, by the outcome of its rule
verdict_on_paper : {r o : Judged} {v : Verdict} → o.answer ≡ v → r ≡ o → verdict_paper r.answer ≡ verdict_paper v
verdict_on_paper i e = ap (λ (o : Judged). verdict_paper o.answer) e ∙ ap verdict_paper i

pub start_on_paper : (t : Tree) (rates : Rates) (time : ℕ) {r : Judged} → r ≡ started t rates time → verdict_paper r.answer ≡ paper_of (start_checks t rates) []
start_on_paper t rates time = verdict_on_paper (start_answers t rates time)

-- issued, waits and on debt are no refusals
no_refusal : (a : Answered) → ((x : Refusal) → a ≡ Err x → ⊥) → answer_paper a ≡ paper 0 (answer_values a)
no_refusal (Ok a) h = refl
no_refusal (Err x) h = absurd (h x refl)

pub submit_on_paper : (b : Bio) (c : Controller) {r : Submitted} → r ≡ submitted b c
    → answer_paper r.answer ≡ paper_of (submit_checks b c) (letters_of (would_be c b))
unfolding submitted submitted_by submission
submit_on_paper b c e = ap (λ (o : Submitted). answer_paper o.answer) e ∙ go (first_of (submit_checks b c))
  where
    go : (v : Verdict) → answer_paper (submitted_by v b c).answer ≡ paper (verdict_number v) (unless v (letters_of (would_be c b)))
    go (Ok tt) = no_refusal (Ok (would_be c b)) (answer_is_no_refusal c b)
    go (Err x) = refl

pub tick_on_paper : (time : ℕ) (lent : List ℕ) (c : Controller) {r : Ticked} → r ≡ ticked time lent c
    → count_paper r.answer ≡ paper_of (tick_checks time (length lent) c) (length (releases (growth c.clock time) c) ∷ [])
unfolding ticked ticked_by
tick_on_paper time lent c e = ap (λ (o : Ticked). count_paper o.answer) e ∙ go (first_of (tick_checks time (length lent) c))
  where
    go : (v : Verdict) → count_paper (ticked_by v time c).answer
        ≡ paper (verdict_number v) (unless v (length (releases (growth c.clock time) c) ∷ []))
    go (Ok tt) = refl
    go (Err x) = refl

pub plan_on_paper : (c : Controller) {r : Judged} → r ≡ planned c → verdict_paper r.answer ≡ paper_of (plan_checks c) []
plan_on_paper c = verdict_on_paper (plan_answers c)

pub vrate_on_paper : (v : ℕ) (c : Controller) {r : Judged} → r ≡ vrated v c → verdict_paper r.answer ≡ paper_of (vrate_checks v) []
vrate_on_paper v c = verdict_on_paper (vrate_answers v c)

pub weight_on_paper : (n w : ℕ) (c : Controller) {r : Judged} → r ≡ weighted n w c → verdict_paper r.answer ≡ paper_of (weight_checks n w c.tree) []
weight_on_paper n w c = verdict_on_paper (weighted_answers n w c)

-- ---- a place of a trace, and a lent buffer
whole_inside : (trace : List ℕ) (at : ℕ) → end_at trace at ≤ length trace → at < length trace
unfolding behind
whole_inside trace at h = omega arith

reading_on_paper : {trace : List ℕ} {at : ℕ} {r : Read} → Reading trace at r → read_paper r ≡ paper_of (read_checks trace at) (values_at trace at)
unfolding read_checks values_at
reading_on_paper {trace} {at} (beyond h) = rw (le-ltb at (length trace) (omega arith), lt-ltb (length trace) at h)
reading_on_paper {trace} {at} (ended h) = rw (h, le-ltb (length trace) (length trace) (omega arith))
reading_on_paper {trace} {at} (unknown i k) = rw (lt-ltb at (length trace) i, k)
reading_on_paper {trace} {at} (cut i k h) = rw (lt-ltb at (length trace) i, k, le-ltb (length trace) at (omega arith), lt-ltb (length trace) (end_at trace at) h)
reading_on_paper {trace} {at} (whole k h) =
    let kind : ℕ = get_or trace at 0 in
    let body : List ℕ = drop (at + 1) trace in
    let inside : at < length trace = whole_inside trace at h in
    rw (
      lt-ltb at (length trace) inside,
      k,
      le-ltb (length trace) at (omega arith),
      le-ltb (length trace) (end_at trace at) h,
      kind_of_record (fields_from (layout kind) body) kind k,
      fields_of_record body kind k,
    )

pub read_on_paper : (trace : List ℕ) (at : ℕ) {r : Read} → r ≡ read_at trace at → read_paper r ≡ paper_of (read_checks trace at) (values_at trace at)
read_on_paper trace at e = ap read_paper e ∙ reading_on_paper (each_answer trace at)

pub write_on_paper : (r : Record) (lent : List ℕ) {w : Write} → w ≡ writing r lent
    → write_paper w ≡ paper_of (write_checks r lent) (length (record_bytes r) ∷ [])
unfolding writing write_checks
write_on_paper r lent e = ap write_paper e ∙ go (ltb (length lent) (length (record_bytes r)))
  where
    go : (b : Bool) → write_paper (cond b (Err ShortBuffer) (Ok (length (record_bytes r))))
        ≡ paper_of ((b ⇒ ShortBuffer) ∷ []) (length (record_bytes r) ∷ [])
    go true = refl
    go false = refl
