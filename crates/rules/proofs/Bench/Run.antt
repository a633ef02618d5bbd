-- A run: calls from a fresh start with answers of every kind, so that a promise about sound states is no empty one.
-- Assumes nothing.
use Rattle.std.specs.Prelude.{◌≡◌, refl, [], ◌∷◌, ◌-◌, ◌^◌, Err, Ok}
use Rattle.rules.specs.Ledger.{Call}
use Rattle.rules.specs.declared.refusals.Refusal.TheVariants.{ClockFull}
use Rattle.rules.specs.Bench.{computed}
use Rattle.rules.specs.Bench.Run.{aged, begun, moves, replies, reply, seen, to_tick, up_to, wants, weights, weights_up_to}

pub run_answers : replies moves begun ≡ wants moves
unfolding computed moves begun
run_answers = refl

pub run_reaches :
    (seen (up_to 26) ≡ 6 ∷ 4 ∷ 751619277 ∷ 0 ∷ 0 ∷ 322122547 ∷ 239999 ∷ 0 ∷ [])
    × (seen (up_to 27) ≡ 6 ∷ 0 ∷ 268435456 ∷ 0 ∷ 0 ∷ 805306368 ∷ 95999 ∷ 0 ∷ [])
    × (seen (up_to 582) ≡ 6 ∷ 4 ∷ 1073310649 ∷ 33567911 ∷ 549000000000 ∷ 431175 ∷ 134217728 ∷ 0 ∷ [])
    × (seen (up_to 585) ≡ 2 ∷ 0 ∷ 1073741824 ∷ 0 ∷ 548966445561 ∷ 0 ∷ 0 ∷ 0 ∷ [])
unfolding computed moves begun
run_reaches = (refl, refl, refl, refl)

pub weight_answers : replies weights (up_to 26) ≡ wants weights
unfolding computed moves begun weights
weight_answers = refl

pub weights_reach :
    (seen (weights_up_to 3) ≡ 6 ∷ 4 ∷ 751619277 ∷ 0 ∷ 0 ∷ 322122547 ∷ 239999 ∷ 0 ∷ [])
    × (seen (weights_up_to 4) ≡ 6 ∷ 0 ∷ 536870912 ∷ 0 ∷ 0 ∷ 536870912 ∷ 143999 ∷ 0 ∷ [])
unfolding computed moves begun weights
weights_reach = (refl, refl)

-- a nanosecond more is 4 of virtual time
pub limit_answers : (reply (Call.tick 2000500003 []) (aged (2 ^ 60 - 4) (up_to 585)) ≡ to_tick (Ok 0) [])
    × (reply (Call.tick 2000500003 []) (aged (2 ^ 60 - 3) (up_to 585)) ≡ to_tick (Err ClockFull) [])
unfolding computed moves begun
limit_answers = (refl, refl)
