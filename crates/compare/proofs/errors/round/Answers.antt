-- What was read anew is scanned.
use Rattle.std.proofs.Common.{subst, length, refl}
use Rattle.compare.specs.Parts.{Refilled}
use Rattle.compare.specs.Parts.OneScan.{scanned}
use Rattle.compare.proofs.errors.round.Goals as goal

pub returns : goal.returns
returns g c =
    scanned c.refill.new.self tt c.scanned.result (subst (λ r. Refilled c.args.held.now r c.refill.new.self (length c.refill.new.buf)) c.in_ok-refill.was c.refill.ensures) c.scanned.ensures refl
