-- `rests::number::with_digit` meets its contract: what is refused is no digit or too large, and nothing else is.
-- Assumes nothing.
use Rattle.std.proofs.Common.{sym, ◌∙◌, arith}
use Rattle.rests.proofs.Decimals.{no_digit_is_bad, too_large_is_bad, digit_if_small}
use Rattle.rests.proofs.number.with_digit.Goals as goal

pub returns-then-not-is_ascii_digit : goal.returns-then-not-is_ascii_digit
returns-then-not-is_ascii_digit c = sym (no_digit_is_bad c.args.value c.args.byte c.if-not-is_ascii_digit.ensures.cases)

pub returns-in_err-checked_mul : goal.returns-in_err-checked_mul
returns-in_err-checked_mul c =
    c.from_residual.ensures ∙ sym (too_large_is_bad c.args.value c.args.byte (omega (arith, c.in_err-checked_mul.ensures)))

pub returns : goal.returns
returns c =
    digit_if_small c.checked_add.result c.args.value c.args.byte c.in_ok-checked_mul.field-0 c.from.result c.if-not-is_ascii_digit.ensures.cases
    c.in_ok-checked_mul.ensures.1 c.from.ensures c.checked_add.ensures
