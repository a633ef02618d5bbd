-- `comparison::both::same_body` meets its contract: bodies of two lengths are not the same.
-- Assumes nothing.
use Rattle.std.proofs.Common.{length, sym, ap}
use Rattle.rules.proofs.Laws.Bools.{is_false}
use Rattle.comparison.proofs.Laws.Lists.{same_bytes_are_equal}
use Rattle.comparison.proofs.both.same_body.Goals as goal

pub returns-then-first-second : goal.returns-then-first-second
returns-then-first-second c = sym (is_false _ (λ t. c.if-first-second.true (ap length (same_bytes_are_equal _ _ t))))
