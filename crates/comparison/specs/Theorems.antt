-- The words that the theorems of request Seven are said with. They are shown in proofs/Theorems, so that an edit of a
-- definition is refused by them.
-- Assumes nothing.
use Rattle.std.specs.Prelude.{◌≡◌, ◌⊎◌, ℕ, ◌+◌, ◌≤◌, ◌<◌, get_or, Option, Some, None, Ok, Err}
use mathlib.Core.List.{List, [], ◌++◌}
use Rattle.std.proofs.Math.ListN.{length}
use Rattle.comparison.specs.Compare.{Fault, Told, other_side, other_of, compared, difference_told, ends_told, likeness_told, rest_of}
use Rattle.comparison.specs.declared.Side.TheVariants.{First, Second}
use Rattle.comparison.specs.declared.Difference.{Difference}
use Rattle.comparison.specs.declared.Ends.{Ends}
use Rattle.comparison.specs.declared.Error.{Error}

-- b is a and at least one byte more
abbrev pub IsPrefix : List ℕ → List ℕ → Type 0
IsPrefix a b = (rest : List ℕ) × ((b ≡ a ++ rest) × (0 < length rest))

-- "hand back the remaining records of the longer trace": behind the shorter they make it the longer
abbrev pub ends_first : ℕ → Ends
ends_first n = record { side = Some First; records = n }

abbrev pub ends_second : ℕ → Ends
ends_second n = record { side = Some Second; records = n }

abbrev pub ends_neither : ℕ → Ends
ends_neither n = record { side = None; records = n }

pub record Rest (first second : List ℕ) (ends : Option Ends) (rest : List ℕ) : Type 0 where
  pub of_the_second : (n : ℕ) → ends ≡ Some (ends_first n) → first ++ rest ≡ second
  pub of_the_first : (n : ℕ) → ends ≡ Some (ends_second n) → second ++ rest ≡ first
  pub one_ends : (n : ℕ) × ((ends ≡ Some (ends_first n)) ⊎ (ends ≡ Some (ends_second n)))

-- ---- the record given
-- a record begins with its kind
abbrev pub kind_in : List ℕ → ℕ
kind_in r = get_or r 0 0

abbrev pub first_differs : ℕ → ℕ → ℕ → Difference
first_differs n k l = record { number = n; first = k; second = l }

-- of records that are numbered from m on, the one at place i is the first that differs from the number asked on
pub record FirstFrom (from m i k l : ℕ) (rs ss : List (List ℕ)) : Type 0 where
  pub asked : from ≤ m + i
  pub in_first : i < length rs
  pub in_second : i < length ss
  pub kind_of_first : kind_in (get_or rs i []) ≡ k
  pub kind_of_second : kind_in (get_or ss i []) ≡ l
  pub differ : get_or rs i [] ≡ get_or ss i [] → ⊥
  pub same_before : (j : ℕ) → from ≤ m + j → j < i → get_or rs j [] ≡ get_or ss j []

-- ---- the other way round
abbrev pub swap_error : Error → Error
swap_error e = record { side = other_side e.side; refusal = e.refusal; place = e.place }

abbrev pub swap_fault : Fault → Fault
swap_fault (Err e) = Err (swap_error e)
swap_fault (Ok none) = Ok tt

abbrev pub swap_difference : Option Difference → Option Difference
swap_difference (Some d) = Some (record { number = d.number; first = d.second; second = d.first })
swap_difference None = None

abbrev pub swap_ends : Ends → Ends
swap_ends e = record { side = other_of e.side; records = e.records }

abbrev pub swapped : Told → Told
swapped (Ok c) = Ok (record { difference = swap_difference c.difference; ends = swap_ends c.ends; likeness = c.likeness })
swapped (Err e) = Err (swap_error e)

-- ---- an error stands alone
pub record Alone (first second : List ℕ) (from : ℕ) (e : Error) : Type 0 where
  pub told : compared first second from ≡ Err e
  pub no_difference : difference_told (compared first second from) ≡ None
  pub no_end : ends_told (compared first second from) ≡ None
  pub no_likeness : likeness_told (compared first second from) ≡ None
  pub no_rest : rest_of first second ≡ []
