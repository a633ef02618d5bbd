-- `rests::answer::put_answer` meets its contract: the length of the rest goes behind what was found.
-- Assumes nothing.
use Rattle.std.proofs.Common.{◌≡◌, List, ◌++◌, ℕ, length, arith}
use Rattle.rules.specs.Buffers.{Written, Stands}
use Rattle.rules.proofs.Laws.Buffers.{stands_more}
use Rattle.comparison.specs.Compare.{Told, compared, rest_of}
use Rattle.text.specs.Lines.{rest_length_line}
use Rattle.rests.specs.Answer.{found_lines, answer_lines}
use Rattle.rests.proofs.answer.put_answer.Goals as goal

-- the lines of what was found and of a rest that was handed back are those of the answer
answered : (first second : List ℕ) (from : ℕ) {c : Told} {r : List ℕ} (n : ℕ) (o₀ o : List ℕ) → c ≡ compared first second from → r ≡ rest_of first second
    → Written (found_lines c ++ rest_length_line (length r)) n o₀ o → Written (answer_lines first second from) n o₀ o
unfolding answer_lines
answered first second from n o₀ o e f w = rw (← e, ← f) w

pub returns : goal.returns
returns c =
    let found = c.put_found-found in
    let last = c.put_rest_length-last in
    let one : Stands (found_lines c.compare.result) c.args.out.now found.new.out found.result =
    record { front = found.ensures.0; within = omega (arith, c.requires, found.ensures.1) } in
    let two =
    stands_more one (rest_length_line (length c.rest-bytes.result.now)) last.new.out last.result last.ensures.0
    (omega (arith, c.requires, found.ensures.1, last.ensures.1)) in (
      answered c.args.first.now c.args.second.now c.args.from _ _ _ c.compare.ensures.value c.rest-bytes.ensures two.front,
      omega (arith, found.ensures.1, last.ensures.1),
    )
