-- `next` of the members meets its contract: without the one that comes, the set is a smaller number.
-- Assumes nothing.
use Rattle.std.proofs.Common.{◌<◌, ◌^◌, arith}
use Rattle.rules.proofs.Laws.Sets.{remove_less}
use Rattle.sets.proofs.MembersIterator.next.Goals as goal

pub returns-clause-goes : goal.returns-clause-goes
returns-clause-goes c =
    let set = c.args.self.now.0 in
    let fits : set < 2 ^ 64 = omega arith in
    let less : c.remove-self.result < set =
    rw c.remove-self.ensures (remove_less set c.lowest-member.result fits c.lowest-member.ensures.node c.lowest-member.ensures.here) in
    record { on = λ _. (tt, tt, less); keeps = tt; rests = λ _. tt }
