-- One step over the members of a set: the lowest comes and is taken out, and the end comes when none is left.
-- Assumes nothing.
use Rattle.std.specs.Prelude.{◌≡◌, not, ◌&&◌, ℕ, eqb, Option, None, Some}
use Rattle.rules.specs.Words.{has, set_of}
use Rattle.sets.specs.declared.Members.{Members}
use Rattle.sets.specs.Lowest.{Lowest}

abbrev pub Steps : Members → Option ℕ → Members → Type 0
Steps before None after = before.0 ≡ 0
Steps before (Some n) after = Lowest before.0 n × (after.0 ≡ set_of (λ k. has before.0 k && not (eqb k n)))
