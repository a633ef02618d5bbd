-- `often::asked_often`: what is left to ask of the bio at hand is what there was to ask of the first.
-- Assumes nothing.
use Rattle.std.proofs.Common.{◌≡◌, ◌-◌}
use Rattle.asks.specs.Often.{asked_often}
use Rattle.asks.proofs.often.asked_often.Given as goal

abbrev pub invariant-loop : goal.invariant-loop
invariant-loop l = asked_often (l.times - l.counter) l.c l.next ≡ asked_often l.times l.c l.fn.bio
