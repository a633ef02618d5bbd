-- Numbers of their own for another weight in flight: when it is refused, the books before and after it, what the ledger makes
-- of it, and a trace.
-- Assumes nothing.
use Rattle.std.specs.Prelude.{◌≡◌, refl, true}
use Rattle.rules.specs.Replay.{replay}
use Rattle.rules.specs.Ledger.{cost_waiting, cost_of_first, cost_on, released_at, repaid_at, forgiven_at, accepted, issued, released, repaid, forgiven, generated}
use Rattle.rules.specs.Bench.{computed, all_right}
use Rattle.rules.specs.Bench.Edges.{all_same, saved6, owes6}
use Rattle.rules.specs.Bench.Weights.{weight_books, weight_edges, weight_output, weight_trace}

pub weight_edges_hold : all_right weight_edges ≡ true
unfolding computed weight_edges
weight_edges_hold = refl

pub weight_books_hold : all_same weight_books ≡ true
unfolding computed weight_books saved6 owes6 accepted issued released repaid forgiven generated cost_on released_at repaid_at forgiven_at cost_of_first cost_waiting
weight_books_hold = refl

pub weight_in_a_trace : replay weight_trace ≡ weight_output
unfolding computed weight_trace weight_output
weight_in_a_trace = refl
