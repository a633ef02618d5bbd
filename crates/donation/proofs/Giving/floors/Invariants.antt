-- `donation::floors` meets its contract: at the loop's head the places passed have their shares.
-- Assumes nothing.
use mathlib.Core.Path.{◌≡◌}
use Rattle.rules.specs.Words.{table}
use Rattle.rules.specs.Plan.{share_given}
use Rattle.rules.proofs.Laws.Sweeps.{swept}
use Rattle.donation.proofs.Giving.floors.Given as goal

abbrev pub invariant-loop-n : goal.invariant-loop-n
invariant-loop-n l =
    l.share-items ≡ swept (table (share_given l.self.active l.self.donors l.quota.left l.quota.kept 0 l.self.bases.now l.self.targets.now)) l.initial.share-items l.n
