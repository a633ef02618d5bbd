-- `steps::chunk::whole` meets its contract: one chunk, which is the last, from the beginning.
-- Assumes nothing.
use mathlib.Core.Path.{◌≡◌, refl, sym, ap, ◌∙◌}
use mathlib.Core.Bool.{true}
use mathlib.Core.List.{List}
use Prim.Native.Nat.{ℕ}
use lib.ListN.{length}
use Rattle.rules.specs.Replay.{beginning, replay}
use Rattle.rules.specs.Chunks.{fed, whole_part, printed_if, whole}
use Rattle.rules.specs.Buffers.{Written}
use Rattle.rules.proofs.Laws.Chunks.{over_is_whole}
use Rattle.rules.proofs.Laws.Bools.{never}
use Rattle.rules.specs.declared.replay.Replay.{Replay}
use Rattle.rules.specs.declared.replay.Pause.{Pause}
use Rattle.rules.specs.declared.replay.Pause.TheVariants.{Over, Bytes, Room}
use Rattle.rules.specs.declared.replay.Fed.{Fed}
use Rattle.steps.specs.Fed.{Feeds, Prints}
use Rattle.steps.proofs.chunk.whole.Goals.{in-Over, in_default}
use Rattle.steps.proofs.chunk.whole.Goals as goal
use Rattle.std.specs.Prelude.{Some, None}

module _ (trace o₀ : List ℕ) {o : List ℕ} {s : Replay} {r : Fed} (begins : s ≡ beginning) (feeds : Feeds true trace 0 s r o₀ o) where
  fed-is : r ≡ fed true trace (length o₀) 0 beginning
  fed-is = rw begins at feeds.answers

  part-is : Written (whole_part trace (length o₀)).bytes r.count o₀ o
  part-is = rw begins at feeds.lines

  answers : (p : Pause) → r.pause ≡ p → Prints trace (printed_if p r.count) o₀ o
  unfolding whole
  answers p e = record { answers = rw (← fed-is, e); leaves = part-is.1; all = all p e }
    where
      all : (p : Pause) → r.pause ≡ p → (n : ℕ) → printed_if p r.count ≡ Some n → Written (replay trace) n o₀ o
      all Over e n f =
          let same : r.count ≡ n = cc in
          let over : (fed true trace (length o₀) 0 beginning).pause ≡ Over = ap (λ (x : Fed). x.pause) (sym fed-is) ∙ e in
          rw (over_is_whole trace (length o₀) over, same) at part-is
      all Bytes e n f = never (cc)
      all Room e n f = never (cc)

none_unless_over : (p : Pause) (n : ℕ) → (p ≡ Over → ⊥) → printed_if p n ≡ None
none_unless_over Over n k = absurd (k refl)
none_unless_over Bytes n k = refl
none_unless_over Room n k = refl

pub feed-fed-requires : goal.feed-fed-requires
feed-fed-requires c = c.beginning.ensures.1

pub returns : goal.returns
returns c =
    let told = answers c.args.trace.now c.args.out.now c.beginning.ensures.0 c.feed-fed.ensures in
    elim c.match-matches.branch [
      | in-Over w ↦ rw (c.then_some.ensures, w.matches-is) (told Over w.in-Over.is)
      | in_default w ↦
          rw (c.then_some.ensures, w.matches-is) (rw (none_unless_over c.feed-fed.result.pause c.feed-fed.result.count w.in_default.not-Over) at (told c.feed-fed.result.pause refl))
    ]
