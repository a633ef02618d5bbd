-- Numbers of their own for shares on a tree of 8 levels, most of whose nodes do not stand right behind their parents: with all leaves
-- active, with some, and behind each call that works them out anew; on the largest tree; and the floor at level 8.
-- Assumes nothing.
use Rattle.std.specs.Prelude.{◌≡◌, refl, true}
use Rattle.rules.specs.Bench.{computed, all_right}
use Rattle.rules.specs.Bench.Edges.{all_same}
use Rattle.rules.specs.Bench.Shares.{share_calls, share_numbers, thin_at_depth}

pub share_numbers_hold : all_same share_numbers ≡ true
unfolding computed share_numbers
share_numbers_hold = refl

pub share_calls_hold : all_same share_calls ≡ true
unfolding computed share_calls
share_calls_hold = refl

pub thin_at_depth_lem : all_right thin_at_depth ≡ true
unfolding computed thin_at_depth
thin_at_depth_lem = refl
