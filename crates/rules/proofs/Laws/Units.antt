-- Laws of quotients, of the crossings between the two kinds of number, and of the rule for rising shares.
-- Assumes nothing.
use Rattle.std.specs.Prelude.{◌≡◌, Bool, cond, ℕ, suc, ◌+◌, ◌-◌, ◌*◌, ◌≤◌, ◌<◌}
use Rattle.std.proofs.Math.Path.{refl}
use Rattle.std.proofs.Common.{ap, div-lt_iff_lt-mul, suc-mul, div-mul-le_self, le-div_iff_mul-le, mul_comm}
use Rattle.std.proofs.Math.Bool.{true, false}
use Rattle.std.proofs.Math.Nat.{lt-div-mul-add, div-le_of_le-mul, mul-le-mul_left}
use native.Mathlib.Omega.{arith}
use Rattle.std.proofs.Math.Dec.{ltb}
use borrow.Author.Tests.{ltb-true, ltb-false, le-ltb}
use Rattle.rules.specs.Numbers.{whole}
use Rattle.rules.specs.Units.{virt, ceil_of, floor_of, relative, repayable, at_whole}
use Rattle.rules.specs.Budget.{rebudget}
use Rattle.rules.specs.declared.units.Abs.{Abs}
use Rattle.rules.specs.declared.units.Virt.{Virt}

-- ---- "CEIL rounds a quotient up": enough, the least that is enough, and less than one part too much
pub ceil_enough : (a b : ℕ) → 0 < b → a ≤ ceil_of a b * b
ceil_enough a b p = omega (arith, lt-div-mul-add {a = a + (b - 1)} p)

pub ceil_least : (a b k : ℕ) → 0 < b → a ≤ k * b → ceil_of a b ≤ k
ceil_least a b k p h = omega (arith, (div-lt_iff_lt-mul {x = a + (b - 1)} {y = suc k} p).1 (omega (arith, suc-mul k b)))

pub ceil_close : (a b : ℕ) → 0 < b → ceil_of a b * b ≤ a + (b - 1)
ceil_close a b p = div-mul-le_self (a + (b - 1)) b

-- ---- "FLOOR down": within, the most that is within, and less than one part too little
pub floor_within : (a b : ℕ) → floor_of a b * b ≤ a
floor_within a b = div-mul-le_self a b

pub floor_most : (a b k : ℕ) → 0 < b → k * b ≤ a → k ≤ floor_of a b
floor_most a b k p h = (le-div_iff_mul-le p).1 h

pub floor_close : (a b : ℕ) → 0 < b → a < floor_of a b * b + b
floor_close a b p = lt-div-mul-add {a = a} p

-- ---- the crossings
pub relative_cost_is_enough : (cost : Abs) (share : ℕ) → 0 < share → cost.0 * whole ≤ (relative cost share).0 * share
unfolding relative
relative_cost_is_enough cost share p = ceil_enough (cost.0 * whole) share p

pub relative_cost_is_least : (cost : Abs) (share k : ℕ) → 0 < share → cost.0 * whole ≤ k * share → (relative cost share).0 ≤ k
unfolding relative
relative_cost_is_least cost share k p h = ceil_least (cost.0 * whole) share k p h

pub relative_cost_is_close : (cost : Abs) (share : ℕ) → 0 < share → (relative cost share).0 * share ≤ cost.0 * whole + (share - 1)
unfolding relative
relative_cost_is_close cost share p = ceil_close (cost.0 * whole) share p

-- why plan may hold a usage against E
pub relative_cost_at_the_whole_share : (cost : Abs) → relative cost whole ≡ at_whole cost
unfolding relative
relative_cost_at_the_whole_share cost = ap virt (omega arith)

-- what a budget can repay is the most that it can be charged
pub repayable_is_within : (budget : Virt) (share : ℕ) → (repayable budget share).0 * whole ≤ budget.0 * share
repayable_is_within budget share = floor_within (budget.0 * share) whole

pub repayable_is_most : (budget : Virt) (share k : ℕ) → k * whole ≤ budget.0 * share → k ≤ (repayable budget share).0
repayable_is_most budget share k h = floor_most (budget.0 * share) whole k (omega arith) h

pub repayable_is_close : (budget : Virt) (share : ℕ) → budget.0 * share < (repayable budget share).0 * whole + whole
repayable_is_close budget share = floor_close (budget.0 * share) whole (omega arith)

pub repayable_is_affordable : (budget : Virt) (share : ℕ) → 0 < share → (relative (repayable budget share) share).0 ≤ budget.0
repayable_is_affordable budget share p =
    relative_cost_is_least (repayable budget share) share budget.0 p (repayable_is_within budget share)

-- ---- "Whenever a share rises from h to k, .."
module _ (h k : ℕ) (b : Virt) where
  pub budget_kept_unless_the_share_rises : k ≤ h → rebudget h k b ≡ b
  unfolding rebudget
  budget_kept_unless_the_share_rises l = rw (le-ltb h k l)

  pub rescaling_never_raises : (rebudget h k b).0 * k ≤ b.0 * h
  unfolding rebudget
  rescaling_never_raises = go (ltb h k) refl
    where
      go : (t : Bool) → ltb h k ≡ t → (cond t (virt (floor_of (b.0 * h) k)) b).0 * k ≤ b.0 * h
      go true e = floor_within (b.0 * h) k
      go false e = mul-le-mul_left b.0 (ltb-false h k e)

  pub rescaling_adds_no_budget : (rebudget h k b).0 ≤ b.0
  unfolding rebudget
  rescaling_adds_no_budget = go (ltb h k) refl
    where
      go : (t : Bool) → ltb h k ≡ t → (cond t (virt (floor_of (b.0 * h) k)) b).0 ≤ b.0
      go true e =
          let l : h ≤ k = omega (arith, ltb-true h k e) in
          div-le_of_le-mul k (rw (mul_comm k b.0) (mul-le-mul_left b.0 l))
      go false e = omega arith

  -- a budget that is no larger, and worth no more, is no larger than what is left of it
  pub rescaling_leaves_the_most : (x : ℕ) → x ≤ b.0 → x * k ≤ b.0 * h → x ≤ (rebudget h k b).0
  unfolding rebudget
  rescaling_leaves_the_most x small worth = go (ltb h k) refl
    where
      go : (t : Bool) → ltb h k ≡ t → x ≤ (cond t (virt (floor_of (b.0 * h) k)) b).0
      go true e = let l : h < k = ltb-true h k e in floor_most (b.0 * h) k x (omega arith) worth
      go false e = small
