-- Numbers of their own for every rule, so that a slip of it gives another number here: each limit of document 01 on it and one
-- past it, whole books after each call, prices of devices, what the ledger makes of the calls, the replay by its parts, and a
-- trace with lines of every kind.
-- Assumes nothing.
use Rattle.std.specs.Prelude.{◌≡◌, refl, true}
use Rattle.rules.specs.Replay.{replay}
use Rattle.rules.specs.Ledger.{cost_waiting, cost_of_first, cost_on, released_at, repaid_at, forgiven_at, accepted, issued, released, repaid, forgiven, generated, charged, saved}
use Rattle.rules.specs.Bench.{computed, plan10, all_right}
use Rattle.rules.specs.Bench.Edges.{all_same, books, both6, crowded, devices, edges, every_output, every_trace, last63, later, ledger, owes6, parts, saved6, small6, waits6}

pub edges_hold : all_right edges ≡ true
unfolding computed edges plan10 later
edges_hold = refl

pub books_hold : all_same books ≡ true
unfolding computed books saved6 waits6 owes6 both6 small6 last63
books_hold = refl

pub devices_hold : all_same devices ≡ true
unfolding computed devices
devices_hold = refl

pub ledger_holds : all_same ledger ≡ true
unfolding computed ledger saved6 waits6 owes6 both6 small6 accepted issued released repaid forgiven generated cost_on released_at repaid_at forgiven_at cost_of_first cost_waiting charged saved
ledger_holds = refl

pub parts_hold : all_same parts ≡ true
unfolding computed parts crowded
parts_hold = refl

pub every_kind_of_line : replay every_trace ≡ every_output
unfolding computed every_trace every_output
every_kind_of_line = refl
