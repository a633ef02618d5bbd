-- `ask` meets its contract: what stands at the place of the bio's books is handed on.
-- Assumes nothing.
use mathlib.Core.Path.{◌≡◌}
use Prim.Native.Nat.{ℕ, ◌<◌}
use Rattle.rules.specs.Numbers.{nodes_most}
use Rattle.rules.specs.declared.cost.Bio.{Bio}
use Rattle.submit.specs.Decision.{place_of, view_at}
use Rattle.submit.proofs.Decisions.{place_inside, queue_read, can_decide, can_rule}
use Rattle.question.proofs.Handing.{answers}
use Rattle.question.proofs.ask.Goals as goal

inside : {n : ℕ} (b : Bio) → n ≡ place_of b → n < nodes_most
inside b e = rw e (place_inside b)

-- above the goals that a lie about it may leave true: the first error is what is false
pub returns : goal.returns
returns c =
    let read = queue_read c.requires (inside c.args.bio c.place_of-node.ensures) in
    answers c.requires c.args.bio (rw (c.own_of-own.ensures, read, c.place_of-node.ensures) at c.answer.ensures)

pub answer-requires : goal.answer-requires
answer-requires c =
    let node = c.place_of-node.result in
    let small = inside c.args.bio c.place_of-node.ensures in
    can_rule node (view_at node c.args.c.now) (rw (queue_read c.requires small) at c.own_of-own.ensures) (can_decide c.requires small)

pub own_of-own-requires : goal.own_of-own-requires
own_of-own-requires c = inside _ c.place_of-node.ensures
