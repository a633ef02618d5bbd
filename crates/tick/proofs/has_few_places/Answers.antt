-- `has_few_places` meets its contract: all that wait are counted, unless there is a place for each that can.
-- Assumes nothing.
use Rattle.std.proofs.Common.{◌≡◌, ◌∙◌, ap, ltb, arith}
use Prim.Native.Nat.{ℕ, ◌≤◌}
use borrow.Author.Tests.{le-ltb}
use Rattle.rules.specs.Tick.{waiting_all}
use Rattle.rules.proofs.Laws.States.{waiting_small}
use Rattle.tick.proofs.Answers.{all_wait, few_wait}
use Rattle.tick.proofs.has_few_places.Goals as goal

-- above the need that a lie about it may leave true: the first error is what is false
pub returns-then-places-lt-WAITING_MOST : goal.returns-then-places-lt-WAITING_MOST
returns-then-places-lt-WAITING_MOST c = ap (ltb c.args.places) (c.waiting_in.ensures ∙ all_wait c.requires)

pub waiting_in-requires : goal.waiting_in-requires
waiting_in-requires c = few_wait c.requires

pub returns-else-places-lt-WAITING_MOST : goal.returns-else-places-lt-WAITING_MOST
returns-else-places-lt-WAITING_MOST c =
    let all : waiting_all c.args.c.now ≤ c.args.places = omega (arith, waiting_small c.requires, c.if-places-lt-WAITING_MOST.false) in
    rw (le-ltb c.args.places 504 c.if-places-lt-WAITING_MOST.false, le-ltb c.args.places (waiting_all c.args.c.now) all)
