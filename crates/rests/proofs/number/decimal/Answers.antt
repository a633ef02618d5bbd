-- `rests::number::decimal` meets its contract: the digits that are left, behind what was read, make the number of the word.
-- Assumes nothing.
use Rattle.std.proofs.Common.{sym, ◌∙◌, arith, rules}
use Rattle.rests.proofs.Decimals.{goes_on, stops, ends, no_digits, some_digits}
use Rattle.rests.proofs.number.decimal.Goals as goal

pub returns-then-is_empty : goal.returns-then-is_empty
returns-then-is_empty c = sym (no_digits _ c.if-is_empty.ensures)

pub loop-byte-init : goal.loop-byte-init
loop-byte-init c = (omega arith, sym (some_digits _ c.if-is_empty.ensures))

pub returns-in_err-value : goal.returns-in_err-value
returns-in_err-value c =
    c.from_residual.ensures
    ∙ sym (stops c.args.word.now c.loop-byte.byte-index c.loop-byte.value c.loop-byte-test.true (sym c.with_digit.ensures ∙ c.in_err-value.was))
    ∙ c.loop-byte.invariant.1

pub loop-byte-preserved : goal.loop-byte-preserved
loop-byte-preserved c = (
  search rules,
  sym (goes_on c.args.word.now c.loop-byte.byte-index c.loop-byte.value c.loop-byte-test.true (sym c.with_digit.ensures ∙ c.in_ok-value.was))
      ∙ c.loop-byte.invariant.1,
)

pub returns : goal.returns
returns c = sym (ends _ _ _ c.loop-byte-test.false c.loop-byte.invariant.0) ∙ c.loop-byte.invariant.1
