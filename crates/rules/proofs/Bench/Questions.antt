-- Numbers of their own for the question: what it answers by what is the leaf's own, on both sides of every edge, what it answers in
-- states where another leaf, another share or another row would answer otherwise, and the bench's run with a question before each bio.
-- Assumes nothing.
use Rattle.std.specs.Prelude.{◌≡◌, refl, true}
use Rattle.rules.specs.Ledger.{cost_waiting, cost_of_first, cost_on, released_at, repaid_at, forgiven_at, accepted, issued, released, repaid, forgiven, generated, exact}
use Rattle.rules.specs.Bench.{computed}
use Rattle.rules.specs.Bench.Run.{replies, wants, begun, moves}
use Rattle.rules.specs.Bench.Edges.{all_same, saved6, waits6, owes6}
use Rattle.rules.specs.Bench.Questions.{asking_first, question_numbers, questions_asked}

pub question_numbers_hold : all_same question_numbers ≡ true
unfolding computed question_numbers
question_numbers_hold = refl

pub questions_asked_hold : all_same questions_asked ≡ true
unfolding computed questions_asked saved6 waits6 owes6 accepted issued released repaid forgiven generated exact cost_on released_at repaid_at forgiven_at cost_of_first cost_waiting
questions_asked_hold = refl

pub asked_before_each_bio : replies (asking_first moves) begun ≡ wants (asking_first moves)
unfolding computed moves begun
asked_before_each_bio = refl
