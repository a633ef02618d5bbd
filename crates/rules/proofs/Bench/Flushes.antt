-- Numbers of their own for flushes: what is one, what it costs wherever the last bio ended, what it leaves of its leaf, and a run in
-- which flushes are issued, wait, go on debt and are refused.
-- Assumes nothing.
use Rattle.std.specs.Prelude.{◌≡◌, refl, true, [], ◌∷◌}
use Rattle.rules.specs.Ledger.{cost_waiting, cost_of_first, cost_on, released_at, repaid_at, forgiven_at, accepted, issued, released, repaid, forgiven, generated}
use Rattle.rules.specs.Bench.{computed}
use Rattle.rules.specs.Bench.Run.{replies, wants}
use Rattle.rules.specs.Bench.Edges.{all_same, saved6, waits6, owes6}
use Rattle.rules.specs.Bench.Flushes.{flush_begun, flush_books, flush_costs, flushing, stands}

pub flush_costs_hold : all_same flush_costs ≡ true
unfolding computed flush_costs
flush_costs_hold = refl

pub flush_books_hold : all_same flush_books ≡ true
unfolding computed flush_books saved6 waits6 owes6 accepted issued released repaid forgiven generated cost_on released_at repaid_at forgiven_at cost_of_first cost_waiting
flush_books_hold = refl

pub flush_answers : replies flushing flush_begun ≡ wants flushing
unfolding computed flushing flush_begun
flush_answers = refl

pub flushes_reach :
    (stands 1 ≡ 2 ∷ 1073741824 ∷ 0 ∷ 0 ∷ 0 ∷ 0 ∷ 0 ∷ 1 ∷ 0 ∷ 1 ∷ [])
    × (stands 3 ≡ 2 ∷ 1073741824 ∷ 0 ∷ 0 ∷ 9573 ∷ 0 ∷ 0 ∷ 1 ∷ 1 ∷ 0 ∷ [])
    × (stands 11 ≡ 2 ∷ 1073741824 ∷ 0 ∷ 0 ∷ 248503 ∷ 16 ∷ 1 ∷ 1 ∷ 4 ∷ 0 ∷ [])
    × (stands 27 ≡ 2 ∷ 1073741824 ∷ 0 ∷ 28719 ∷ 248503 ∷ 16 ∷ 1 ∷ 1 ∷ 4 ∷ 8 ∷ [])
    × (stands 31 ≡ 2 ∷ 1073741824 ∷ 0 ∷ 0 ∷ 363379 ∷ 16 ∷ 1 ∷ 1 ∷ 4 ∷ 0 ∷ [])
    × (stands 36 ≡ 2 ∷ 1073741824 ∷ 1 ∷ 0 ∷ 0 ∷ 16 ∷ 1 ∷ 0 ∷ 4 ∷ 0 ∷ [])
    × (stands 39 ≡ 2 ∷ 1073741824 ∷ 0 ∷ 0 ∷ 0 ∷ 16 ∷ 1 ∷ 0 ∷ 5 ∷ 0 ∷ [])
    × (stands 41 ≡ 0 ∷ 0 ∷ 0 ∷ 0 ∷ 0 ∷ 16 ∷ 1 ∷ 0 ∷ 5 ∷ 0 ∷ [])
    × (stands 42 ≡ 2 ∷ 1073741824 ∷ 0 ∷ 0 ∷ 0 ∷ 16 ∷ 1 ∷ 1 ∷ 5 ∷ 1 ∷ [])
unfolding computed flushing flush_begun
flushes_reach = (refl, refl, refl, refl, refl, refl, refl, refl, refl)
