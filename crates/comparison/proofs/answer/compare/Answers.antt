-- `comparison::answer::compare` meets its contract: what it tells is the rule's answer, so it says what is due on paper.
-- Assumes nothing.
use Rattle.std.proofs.Common.{◌≡◌, Ok, arith}
use Rattle.std.proofs.lemmas.Grind.{common_steps}
use Rattle.comparison.specs.Compare.{Told, error_of, compared_from, compared}
use Rattle.comparison.proofs.Paper.{compared_on_paper}
use Rattle.comparison.proofs.answer.compare.Goals as goal

pub returns-clause-number : goal.returns-clause-number
unfolding compared error_of compared_from
returns-clause-number c =
    let value : ◌≡◌ {A = Told} (Ok c.concluded.result) (compared c.args.first.now c.args.second.now c.args.from) = grind (arith, common_steps) in
    compared_on_paper c.args.first.now c.args.second.now c.args.from value
