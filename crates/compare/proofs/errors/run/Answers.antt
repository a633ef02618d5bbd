-- `compare::errors::run` meets its contract: what a round finds is found from where the walk began, with the tries that it took.
-- Assumes nothing.
use Rattle.std.proofs.Common.{◌^◌, ◌-◌, ◌<◌, rules}
use Rattle.compare.proofs.Scan.{tries_on, tries_found}
use Rattle.compare.proofs.errors.run.Goals as goal

pub returns-in-Some-clause-finds : goal.returns-in-Some-clause-finds
returns-in-Some-clause-finds g c =
    let left : c.loop-tries._tries < 2 ^ 64 - 1 = search rules in
    c.loop-tries.invariant.1 _ _ (tries_found c.loop-tries._tries c.round-scanned.ensures left c.in_ok-found.was c.in-Some.is)

pub loop-tries-preserved : goal.loop-tries-preserved
loop-tries-preserved g c =
    let left : c.loop-tries._tries < 2 ^ 64 - 1 = search rules in
    (search rules, λ r t rest. c.loop-tries.invariant.1 r t (tries_on c.loop-tries._tries c.round-scanned.ensures left c.in_ok-found.was c.in-None.is rest))
