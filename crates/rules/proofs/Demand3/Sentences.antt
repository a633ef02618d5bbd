-- Demand 3 in the customer's sentences: over every finite list of calls, of any kind and with any arguments, from a fresh
-- start. The bound holds between any two moments; from the start on nothing is saved yet.
-- Assumes nothing.
use Rattle.std.specs.Prelude.{◌≡◌, refl, true, false, List, [], ◌∷◌, ℕ, ◌+◌, ◌*◌, ◌≤◌, take}
use Rattle.std.proofs.Common.{le_of_mul-le-mul_right, arith}
use Rattle.rules.specs.Numbers.{whole, leaf_most, vtime_most}
use Rattle.rules.specs.Words.{sum_to, has, no_node}
use Rattle.rules.specs.Units.{ceil_of}
use Rattle.rules.specs.Tree.{base_share, base_shares}
use Rattle.rules.specs.Budget.{share_at}
use Rattle.rules.specs.Entries.{started}
use Rattle.rules.specs.Invariant.{Sound}
use Rattle.rules.specs.Bench.Run.{Move, left, run_tree, run_rates, begun, moves, up_to, weights, weights_up_to, aged}
use Rattle.rules.specs.Bench.Flushes.{ssd_rates, flushing, flush_begun, flushed_up_to}
use Rattle.rules.specs.Ledger.{Call, after, waiting, owed, accepted, issued, released, repaid, forgiven, generated, exact, charged, saved}
use Rattle.rules.proofs.Demand3.Steps.{call_keeps, call_flow, call_books}
use Rattle.rules.proofs.Demand3.Heads.{generated_is_the_growth_of_virtual_time, a_question_counts_nothing}
use Rattle.rules.proofs.Laws.Units.{ceil_enough}
use Rattle.rules.proofs.Laws.Starts.{start_gives, start_saves_nothing, start_owes_nothing, clock_keeps}
use Rattle.rules.specs.declared.cost.Bio.{Bio}
use Rattle.rules.specs.declared.cost.Rates.{Rates}
use Rattle.rules.specs.declared.tree.Tree.{Tree}
use Rattle.rules.specs.declared.budget.Controller.{Controller}
use Rattle.rules.specs.Demand3.Sentences.{run, sum_of, unasked}

-- every state that calls reach is sound
pub reached_is_sound : (ks : List Call) {c : Controller} → Sound c → Sound (run ks c)
reached_is_sound [] sound = sound
reached_is_sound (k ∷ ks) sound = reached_is_sound ks (call_keeps k sound)

-- ---- between any two moments
pub never_overspent_between : (ks : List Call) {c : Controller} → Sound c
    → sum_of charged ks c * whole + saved (run ks c) ≤ saved c + sum_of generated ks c * whole
never_overspent_between [] {c} sound = omega arith
never_overspent_between (k ∷ ks) {c} sound = omega (arith, call_flow k sound, never_overspent_between ks (call_keeps k sound))

-- what is charged between two moments is at most the virtual time generated between them, and what was saved at the first
pub never_overspent_in_any_window : (ks : List Call) {c : Controller} → Sound c
    → sum_of charged ks c ≤ sum_of generated ks c + ceil_of (saved c) whole
never_overspent_in_any_window ks {c} sound =
    le_of_mul-le-mul_right {k = whole} (omega (arith, never_overspent_between ks sound, ceil_enough (saved c) whole (omega arith))) (omega arith)

-- and what is generated is the growth of virtual time
pub generated_is_virtual_time : (ks : List Call) (c : Controller) → sum_of generated ks c + c.clock.vtime.0 ≡ (run ks c).clock.vtime.0
generated_is_virtual_time [] c = omega arith
generated_is_virtual_time (k ∷ ks) c =
    omega (arith, generated_is_the_growth_of_virtual_time k c, generated_is_virtual_time ks (after k c))

pub books_balance_between : (ks : List Call) {c : Controller} → Sound c → (n : ℕ)
    → waiting c n + owed c n + sum_of (λ k s. accepted k s n) ks c
    ≡ sum_of (λ k s. issued k s n) ks c + sum_of (λ k s. released k s n) ks c + waiting (run ks c) n + owed (run ks c) n
    + sum_of (λ k s. repaid k s n) ks c + sum_of (λ k s. forgiven k s n) ks c
books_balance_between [] {c} sound n = omega arith
books_balance_between (k ∷ ks) {c} sound n = omega (arith, call_books k sound n, books_balance_between ks (call_keeps k sound) n)

pub questions_leave_no_trace : (ks : List Call) (c : Controller) → run ks c ≡ run (unasked ks) c
questions_leave_no_trace [] c = refl
questions_leave_no_trace (Call.submit b ∷ ks) c = questions_leave_no_trace ks (after (Call.submit b) c)
questions_leave_no_trace (Call.ask b ∷ ks) c = questions_leave_no_trace ks c
questions_leave_no_trace (Call.tick time lent ∷ ks) c = questions_leave_no_trace ks (after (Call.tick time lent) c)
questions_leave_no_trace (Call.plan ∷ ks) c = questions_leave_no_trace ks (after Call.plan c)
questions_leave_no_trace (Call.set x ∷ ks) c = questions_leave_no_trace ks (after (Call.set x) c)

without_questions : (head : Call → Controller → ℕ) → ((b : Bio) (c : Controller) → head (Call.ask b) c ≡ 0)
    → (ks : List Call) (c : Controller) → sum_of head ks c ≡ sum_of head (unasked ks) c
without_questions head none [] c = refl
without_questions head none (Call.submit b ∷ ks) c = omega (arith, without_questions head none ks (after (Call.submit b) c))
without_questions head none (Call.ask b ∷ ks) c = omega (arith, none b c, without_questions head none ks c)
without_questions head none (Call.tick time lent ∷ ks) c = omega (arith, without_questions head none ks (after (Call.tick time lent) c))
without_questions head none (Call.plan ∷ ks) c = omega (arith, without_questions head none ks (after Call.plan c))
without_questions head none (Call.set x ∷ ks) c = omega (arith, without_questions head none ks (after (Call.set x) c))

pub record SameSums (ks ls : List Call) (c : Controller) : Type 0 where
  pub all_accepted : (n : ℕ) → sum_of (λ k s. accepted k s n) ks c ≡ sum_of (λ k s. accepted k s n) ls c
  pub all_issued : (n : ℕ) → sum_of (λ k s. issued k s n) ks c ≡ sum_of (λ k s. issued k s n) ls c
  pub all_released : (n : ℕ) → sum_of (λ k s. released k s n) ks c ≡ sum_of (λ k s. released k s n) ls c
  pub all_repaid : (n : ℕ) → sum_of (λ k s. repaid k s n) ks c ≡ sum_of (λ k s. repaid k s n) ls c
  pub all_forgiven : (n : ℕ) → sum_of (λ k s. forgiven k s n) ks c ≡ sum_of (λ k s. forgiven k s n) ls c
  pub all_generated : sum_of generated ks c ≡ sum_of generated ls c
  pub all_exact : sum_of exact ks c ≡ sum_of exact ls c

pub questions_add_nothing : (ks : List Call) (c : Controller) → SameSums ks (unasked ks) c
questions_add_nothing ks c = record {
  all_accepted = λ n. without_questions (λ k s. accepted k s n) (λ b s. (a_question_counts_nothing b s).none_accepted n) ks c;
  all_issued = λ n. without_questions (λ k s. issued k s n) (λ b s. (a_question_counts_nothing b s).none_issued n) ks c;
  all_released = λ n. without_questions (λ k s. released k s n) (λ b s. (a_question_counts_nothing b s).none_released n) ks c;
  all_repaid = λ n. without_questions (λ k s. repaid k s n) (λ b s. (a_question_counts_nothing b s).none_repaid n) ks c;
  all_forgiven = λ n. without_questions (λ k s. forgiven k s n) (λ b s. (a_question_counts_nothing b s).none_forgiven n) ks c;
  all_generated = without_questions generated (λ b s. (a_question_counts_nothing b s).none_generated) ks c;
  all_exact = without_questions exact (λ b s. (a_question_counts_nothing b s).none_exact) ks c;
}

-- ---- from a fresh start
module _ (tree : Tree) (rates : Rates) (time : ℕ) (ks : List Call) where
  -- the cost of bios answered issued or released, plus debt repaid, is at most the virtual time that the ticks generated
  pub never_overspent : sum_of charged ks (started tree rates time).state ≤ sum_of generated ks (started tree rates time).state
  never_overspent =
      le_of_mul-le-mul_right {k = whole}
      (omega (arith, never_overspent_between ks (start_gives tree rates time), start_saves_nothing tree rates time)) (omega arith)

  -- of each leaf: the cost of its accepted bios is issued + released + waiting + owed + repaid + forgiven
  pub books_balance : (n : ℕ)
      → sum_of (λ k s. accepted k s n) ks (started tree rates time).state
      ≡ sum_of (λ k s. issued k s n) ks (started tree rates time).state
      + sum_of (λ k s. released k s n) ks (started tree rates time).state
      + waiting (run ks (started tree rates time).state) n
      + owed (run ks (started tree rates time).state) n
      + sum_of (λ k s. repaid k s n) ks (started tree rates time).state
      + sum_of (λ k s. forgiven k s n) ks (started tree rates time).state
  books_balance n = omega (arith, books_balance_between ks (start_gives tree rates time) n, start_owes_nothing tree rates time n)

  -- the active shares sum exactly to the sum of their base shares, whatever is donated
  pub donation_keeps_the_sum : (c : Controller) → c ≡ run ks (started tree rates time).state
      → sum_to (share_at c) leaf_most ≡ sum_to (base_share c.tree c.active) leaf_most
  donation_keeps_the_sum c e = rw e (reached_is_sound ks (start_gives tree rates time)).share_sum

  -- and a leaf that is not active holds none, so that sum is of the active shares alone
  pub no_share_while_inactive : (c : Controller) → c ≡ run ks (started tree rates time).state → (n : ℕ)
      → has c.active n ≡ false → share_at c n ≡ 0
  no_share_while_inactive c e = rw e (reached_is_sound ks (start_gives tree rates time)).share_idle

  -- no active leaf that is no donor is below its base share
  pub no_taker_below_base : (c : Controller) → c ≡ run ks (started tree rates time).state → (n : ℕ)
      → has c.active n ≡ true → has c.donors n ≡ false → base_share c.tree c.active n ≤ share_at c n
  no_taker_below_base c e = rw e (reached_is_sound ks (start_gives tree rates time)).taker

  -- where no donation stands, or one has ended, every leaf holds its base share
  pub no_donation_restores_base : (c : Controller) → c ≡ run ks (started tree rates time).state
      → c.donors ≡ no_node → c.shares ≡ base_shares c.tree c.active
  no_donation_restores_base c e = rw e (reached_is_sound ks (start_gives tree rates time)).no_donation

-- ---- these promises are not empty: the bench's run begins with a start and has answers of every kind, refusals 4 to 15
-- among them (`run_answers`, `run_reaches` and `limit_answers` in Bench/Run), and each of its states is sound; so is each that
-- weights bring about, accepted and refused, where a donation of that run stands (`weight_answers`, `weights_reach`)
left_is_sound : (ms : List Move) {c : Controller} → Sound c → Sound (left ms c)
left_is_sound [] sound = sound
left_is_sound (m ∷ ms) sound = left_is_sound ms (call_keeps m.call sound)

pub bench_run_is_sound : (k : ℕ) → Sound (up_to k)
unfolding begun
bench_run_is_sound k = left_is_sound (take k moves) (start_gives run_tree run_rates 0)

pub bench_weights_are_sound : (k : ℕ) → Sound (weights_up_to k)
bench_weights_are_sound k = left_is_sound (take k weights) (bench_run_is_sound 26)

-- and so is each of the run with flushes of every answer (`flush_answers`, `flushes_reach` in Bench/Flushes)
pub bench_flushes_are_sound : (k : ℕ) → Sound (flushed_up_to k)
unfolding flush_begun
bench_flushes_are_sound k = left_is_sound (take k flushing) (start_gives run_tree ssd_rates 0)

-- so is one at any virtual time up to the limit
pub aged_is_sound : {c : Controller} → Sound c → (vtime : ℕ) → vtime ≤ vtime_most → Sound (aged vtime c)
aged_is_sound sound vtime l =
    clock_keeps sound _
    (record {
      vrate_at_least = sound.clock.vrate_at_least;
      vrate_at_most = sound.clock.vrate_at_most;
      vtime_at_most = l;
      since_at_most = sound.clock.since_at_most;
      remainder_below = sound.clock.remainder_below;
    })
    refl
