-- Numbers of their own for the clock: what is left over, when it is paid out, and who leaves it alone.
-- Assumes nothing.
use Rattle.std.specs.Prelude.{◌≡◌, refl, true}
use Rattle.rules.specs.Ledger.{cost_waiting, cost_of_first, cost_on, released_at, repaid_at, forgiven_at, accepted, issued, released, repaid, forgiven, generated, exact}
use Rattle.rules.specs.Bench.{computed}
use Rattle.rules.specs.Bench.Edges.{all_same, saved6, owes6}
use Rattle.rules.specs.Bench.Clocks.{clocks}

pub clocks_hold : all_same clocks ≡ true
unfolding computed clocks saved6 owes6 accepted issued released repaid forgiven generated exact cost_on released_at repaid_at forgiven_at cost_of_first cost_waiting
clocks_hold = refl
