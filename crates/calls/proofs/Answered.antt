-- A call's answer, its lines and its state are what the rules say of that call.
-- Assumes nothing.
use Rattle.std.proofs.Common.{◌≡◌, refl, sym, ap, ◌∙◌, List, ℕ, length, drop, arith}
use Rattle.std.specs.Prelude.{Err, Ok}
use lib.Seq.{take_at}
use Rattle.rules.specs.Refusals.{first_of, tick_checks}
use Rattle.rules.specs.Tick.{growth, releases, lent_after}
use Rattle.rules.specs.Replay.{answer_line, release_lines, tick_lines, plan_lines, verdict_lines, all_room}
use Rattle.rules.specs.Chunks.{calling}
use Rattle.rules.specs.Entries.{submitted, ticked, ticked_by, lent_by, lent_of, planned, set_by}
use Rattle.rules.specs.Buffers.{Written}
use Rattle.rules.specs.Invariant.{Sound}
use Rattle.rules.specs.Results.{Answered, Ticked, Verdict, Count}
use Rattle.rules.proofs.Laws.Lines.{share_lines_lem}
use Rattle.rules.proofs.Laws.Ticks.{tick_releases_fit}
use Rattle.rules.specs.declared.cost.Bio.{Bio}
use Rattle.rules.specs.declared.budget.Controller.{Controller}
use Rattle.rules.specs.declared.replay.Call.TheVariants.{Bio as CallBio, Tick as CallTick, Plan as CallPlan, Set as CallSet}
use Rattle.rules.specs.declared.replay.Setting.{Setting}
use Rattle.calls.specs.Calls.{CanPrint, plan_lines_of, Answers}

-- the ids that a tick wrote stand first, so its lines are the same whatever stood in the buffer that it was lent
tick_lines_lem : (v : Verdict) (time : ℕ) (lent : List ℕ) (c : Controller)
    → tick_lines (ticked_by v time c).answer (lent_by v time lent c) ≡ tick_lines (ticked_by v time c).answer (lent_by v time all_room c)
unfolding tick_lines ticked_by lent_by lent_after
tick_lines_lem (Ok tt) time lent c =
    let ids = releases (growth c.clock time) c in
    ap release_lines (take_at ids (drop (length ids) lent) (length ids) refl ∙ sym (take_at ids (drop (length ids) all_room) (length ids) refl))
tick_lines_lem (Err x) time lent c = refl

-- and they are no more than can wait, so their lines have room
pub released_fit : {c : Controller} → Sound c → (time : ℕ) (lent ids : List ℕ) {answer : Count} → length lent ≡ 504 → length ids ≡ 504
    → answer ≡ (ticked time lent c).answer → CanPrint answer (length ids)
unfolding ticked ticked_by
released_fit {c} sound time lent ids long all e = rw e (go (first_of (tick_checks time (length lent) c)) refl)
  where
    go : (v : Verdict) → first_of (tick_checks time (length lent) c) ≡ v → CanPrint (ticked_by v time c).answer (length ids)
    go (Ok tt) f =
        let few = tick_releases_fit sound time (length lent) f in
        (omega (arith, few), omega (arith, few))
    go (Err x) f = tt

-- ---- what a call printed and left
plan_lines_lem : (answer : Verdict) (c : Controller) → plan_lines_of answer c.active c.shares ≡ plan_lines answer c
unfolding plan_lines_of plan_lines
plan_lines_lem (Ok tt) c = sym (share_lines_lem c)
plan_lines_lem (Err x) c = refl

module _ (c : Controller) {r : ℕ} (o₀ o : List ℕ) {d : Controller} where
  pub bio_answered : (b : Bio) {a : Answered} → (a ≡ (submitted b c).answer) × (d ≡ (submitted b c).state) → Written (answer_line a b.id) r o₀ o
      → Answers (CallBio b) c r o₀ o d
  unfolding calling
  bio_answered b e w = (rw e.0 at w, e.1)

  pub tick_answered : (time : ℕ) (lent : List ℕ) {a : Count} {ids : List ℕ} → length lent ≡ 504
      → (a ≡ (ticked time lent c).answer) × (d ≡ (ticked time lent c).state) × (ids ≡ lent_of time lent c)
      → Written (tick_lines a ids) r o₀ o → Answers (CallTick time) c r o₀ o d
  unfolding calling ticked lent_of
  tick_answered time lent k e w =
      let v = first_of (tick_checks time 504 c) in
      let same : ticked_by (first_of (tick_checks time (length lent) c)) time c ≡ ticked_by v time c = ap (λ (n : ℕ). ticked_by (first_of (tick_checks time n c)) time c) k in
      let ids : _ ≡ lent_by v time lent c = e.2 ∙ ap (λ (n : ℕ). lent_by (first_of (tick_checks time n c)) time lent c) k in
      (rw (e.0, same, ids, tick_lines_lem v time lent c) at w, e.1 ∙ ap (λ (t : Ticked). t.state) same)

  pub plan_answered : {a : Verdict} → (a ≡ (planned c).answer) × (d ≡ (planned c).state) → Written (plan_lines_of a d.active d.shares) r o₀ o
      → Answers CallPlan c r o₀ o d
  unfolding calling
  plan_answered e w = (rw (plan_lines_lem, e.0, e.1) at w, e.1)

  pub set_answered : (x : Setting) {a : Verdict} → (a ≡ (set_by x c).answer) × (d ≡ (set_by x c).state) → Written (verdict_lines a) r o₀ o
      → Answers (CallSet x) c r o₀ o d
  unfolding calling
  set_answered x e w = (rw e.0 at w, e.1)
