-- The number is the measure: its hundredth is less where it has three digits.
-- Assumes nothing.
use Rattle.lines.proofs.+put_digits.Given as goal

abbrev pub decreases-put_digits : goal.decreases-put_digits
decreases-put_digits l = l.n
