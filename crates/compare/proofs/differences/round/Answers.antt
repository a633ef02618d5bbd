-- The lines of a round are written and more is read, or it fails as one that could not write.
use Rattle.std.proofs.Common.{◌≡◌, ◌∙◌, false, rules, length, take, length-take-le}
use Rattle.compare.specs.Rounds.{could_write}
use Rattle.compare.specs.Rounds.OneRound.{unwritten}
use Rattle.compare.proofs.Walk.{passed_inside, goes_on}
use Rattle.compare.proofs.differences.round.Goals as goal

pub returns-in_err-s : goal.returns-in_err-s
returns-in_err-s g c =
    let failed : could_write c.from_residual.result ≡ false = search rules in
    unwritten (passed_inside _ _ c.requires c.told-listed.ensures c.pass.ensures) failed

pub returns : goal.returns
returns g c =
    let all : c.in_ok-s.field-0 ≡ length (take c.told-listed.result.count c.told-listed.new.out) = search rules in
    let told = c.told-listed.ensures in
    goes_on c.in_ok-s.field-0 told c.pass.ensures (all ∙ length-take-le _ _ told.fits) c.onward.ensures
