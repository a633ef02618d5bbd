-- Questions one after the other, as a measurement asks them: the next bio is the one before at another sector, which hangs on the
-- answer.
-- Assumes nothing.
use Rattle.std.specs.Prelude.{ℕ, zero, suc, Ok, Err}
use Rattle.std.specs.Int.Bits.{bit_xor}
use Rattle.rules.specs.Question.{question}
use Rattle.rules.specs.declared.budget.Controller.{Controller}
use Rattle.rules.specs.declared.cost.Bio.{Bio}
use Rattle.rules.specs.Results.{Answered}
use Rattle.rules.specs.declared.refusals.Answer.TheVariants.{Issued, Waits, OnDebt}

abbrev pub step_of : Answered → ℕ
step_of (Ok Issued) = 8
step_of (Ok Waits) = 16
step_of (Ok OnDebt) = 32
step_of (Err x) = 64

abbrev pub varied_by : Bio → Answered → Bio
varied_by b a = record { node = b.node; flags = b.flags; id = b.id; sector = bit_xor b.sector (step_of a); bytes = b.bytes }

-- the bio that stands after so many questions
unfoldable pub asked_often : ℕ → Controller → Bio → Bio
asked_often zero c b = b
asked_often (suc n) c b = asked_often n c (varied_by b (question b c))
