-- `listing::put_pair` meets its contract: the line has the records that stand at both places.
-- Assumes nothing.
use Rattle.std.proofs.Common.{◌≡◌, ℕ, List, Ok}
use Rattle.rules.specs.Trace.{behind}
use Rattle.rules.proofs.Laws.Trace.{found_only_whole}
use Rattle.rules.proofs.Laws.Bools.{never}
use Rattle.trace.specs.declared.decoder.Whole.{Whole}
use Rattle.comparison.specs.Compare.{Stepped}
use Rattle.comparison.proofs.Laws.Steps.{WholeAt, Stepping, each_step}
use Rattle.comparison.proofs.Laws.Steps.Stepping.{pair, first_ends, second_ends, both_end, first_broken, second_broken}
use Rattle.comparison.specs.declared.Pair.{Pair as PairOf}
use Rattle.comparison.specs.declared.Step.TheVariants.{Pair}
use Rattle.listing.specs.Listing.{WholeHere}
use Rattle.listing.proofs.put_pair.Goals as goal

whole_here : {trace : List ℕ} {at : ℕ} {w : Whole} → WholeAt trace at w → WholeHere trace at w.kind
unfolding behind
whole_here {trace} {at} v = record { kind_here = v.kind_here; inside = (found_only_whole trace at _ _ v.reads).inside }

one_pair : {a b : PairOf} → ◌≡◌ {A = Stepped} (Ok (Pair a)) (Ok (Pair b)) → a ≡ b
one_pair e = cc

both : {first : List ℕ} {p : ℕ} {second : List ℕ} {q : ℕ} {s : Stepped} {w : PairOf} → Stepping first p second q s → s ≡ Ok (Pair w)
    → WholeHere first p w.first.kind × WholeHere second q w.second.kind
both (pair v u) e = rw (← one_pair e) (whole_here v, whole_here u)
both (first_ends h w) e = never (cc)
both (second_ends v h) e = never (cc)
both (both_end h k) e = never (cc)
both (first_broken x) e = never (cc)
both (second_broken x) e = never (cc)

pub record_in-requires : goal.record_in-requires
record_in-requires c = (both (each_step _ _ _ _) c.requires.stands).0

pub record_in-requires-2 : goal.record_in-requires-2
record_in-requires-2 c = (both (each_step _ _ _ _) c.requires.stands).1
