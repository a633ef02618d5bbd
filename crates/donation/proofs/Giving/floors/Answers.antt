-- `donation::floors` meets its contract: at the loop's head the places passed have their shares.
-- Assumes nothing.
use mathlib.Core.Path.{refl}
use native.Mathlib.Omega.{arith}
use lib.ListN.{replicate}
use Rattle.rules.specs.Plan.{share_given}
use Rattle.rules.proofs.Laws.Sweeps.{place_put, places_done}
use Rattle.donation.proofs.Rest.{quotient_fits, share_floored}
use Rattle.donation.proofs.Giving.floors.Goals as goal

pub floored-requires : goal.floored-requires
floored-requires c =
    let a = c.args in
    quotient_fits a.self.now.active a.self.now.donors a.quota.left_most c.requires c.loop-n.n c.loop-n-test.true c.has.result
    c.has-in-loop-n.result c.has.ensures c.has-in-loop-n.ensures

pub loop-n-preserved : goal.loop-n-preserved
loop-n-preserved c =
    let a = c.args in
    place_put (share_given a.self.now.active a.self.now.donors a.quota.left a.quota.kept 0 a.self.now.bases.now a.self.now.targets.now) (replicate 64 0) c.loop-n.share-items c.loop-n.n 0
    refl c.loop-n.invariant c.loop-n-test.true c.floored.result
    (share_floored a.self.now.active a.self.now.donors a.quota.left a.quota.kept a.self.now.bases.now a.self.now.targets.now c.loop-n.n c.floored.result
    c.has.result c.has-in-loop-n.result c.has.ensures
    c.has-in-loop-n.ensures c.floored.ensures)

pub returns : goal.returns
returns c =
    let a = c.args in
    places_done (share_given a.self.now.active a.self.now.donors a.quota.left a.quota.kept 0 a.self.now.bases.now a.self.now.targets.now) (replicate 64 0) c.loop-n.share-items c.loop-n.n
    refl c.loop-n.invariant (omega arith)
