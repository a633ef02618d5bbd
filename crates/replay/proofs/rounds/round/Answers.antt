-- `replay::rounds::round` meets its contract: a feed, its lines written, what it leaves, and onward, or the end where not all was taken.
-- Assumes nothing.
use Rattle.std.proofs.Common.{◌≡◌, refl, ◌∙◌, rules, length, take, length-take-le, false}
use Rattle.rules.proofs.Laws.Bools.{true_not_false}
use Rattle.replay.specs.Rounds.{could_write}
use Rattle.replay.proofs.Round.{stays_so, rounds}
use Rattle.replay.proofs.rounds.round.Goals as goal

pub returns-in_err-s : goal.returns-in_err-s
returns-in_err-s g c =
    let mid = c.left_over.new.chunk in
    let failed : could_write c.from_residual.result ≡ false = search rules in
    rounds c.replayed-fed.ensures c.left_over.ensures refl refl (stays_so mid mid c.left_over.ensures.stands refl) (λ e. absurd (true_not_false e failed)) (λ e. absurd (true_not_false (rw e) failed))

pub returns : goal.returns
returns g c =
    let all : c.in_ok-s.field-0 ≡ length (take c.replayed-fed.result.count c.replayed-fed.new.out) = search rules in
    rounds c.replayed-fed.ensures c.left_over.ensures refl refl c.onward.ensures.stands (λ e. all ∙ length-take-le _ _ c.replayed-fed.ensures.fits) c.onward.ensures.over
