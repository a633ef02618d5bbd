-- Numbers in decimals as a person writes them: each bound and each thing that is none.
-- Assumes nothing.
use Rattle.std.specs.Prelude.{◌≡◌, refl, ◌-◌, ◌^◌, Some, None}
use Rattle.text.specs.Words.{bytes}
use Rattle.rests.specs.Decimal.{all_digits, value_behind, behind, decimal_of}

pub the_least_number : decimal_of (bytes "0") ≡ Some 0
unfolding decimal_of behind all_digits value_behind
the_least_number = refl

pub the_digit_that_counts_most_is_first : decimal_of (bytes "0120") ≡ Some 120
unfolding decimal_of behind all_digits value_behind
the_digit_that_counts_most_is_first = refl

pub the_largest_number : decimal_of (bytes "18446744073709551615") ≡ Some (2 ^ 64 - 1)
unfolding decimal_of behind all_digits value_behind
the_largest_number = refl

pub one_more_is_none : decimal_of (bytes "18446744073709551616") ≡ None
unfolding decimal_of behind all_digits value_behind
one_more_is_none = refl

pub no_digits_are_none : decimal_of (bytes "") ≡ None
unfolding decimal_of
no_digits_are_none = refl

pub a_sign_is_none : decimal_of (bytes "+1") ≡ None
unfolding decimal_of behind all_digits value_behind
a_sign_is_none = refl

pub a_blank_is_none : decimal_of (bytes "1 ") ≡ None
unfolding decimal_of behind all_digits value_behind
a_blank_is_none = refl
