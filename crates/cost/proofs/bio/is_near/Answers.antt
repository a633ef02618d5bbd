-- `cost::bio::is_near` meets its contract: of the rule's two tests the one on the nearer side always holds, and the other is the code's.
-- Assumes nothing.
use Rattle.std.proofs.Common.{◌≡◌, ◌&&◌, ℕ, ◌+◌, ◌-◌, ◌≤◌, leb, arith}
use borrow.Author.Tests.{leb-true, le-leb}
use Rattle.rules.specs.Numbers.{near_most}
use Rattle.rules.specs.Cost.{is_near}
use Rattle.rules.proofs.Laws.Bools.{same_test, and_left, and_right, and_both}
use Rattle.cost.proofs.bio.is_near.Goals as goal

apart : (x y : ℕ) → leb (x - y + (y - x)) near_most ≡ is_near x y
unfolding is_near
apart x y =
    same_test _ _
    (λ e.
    let l = leb-true (x - y + (y - x)) near_most e in
    and_both (leb x (y + near_most)) (leb y (x + near_most)) (le-leb x (y + near_most) (omega arith)) (le-leb y (x + near_most) (omega arith)))
    (λ e.
    let l = leb-true x (y + near_most) (and_left (leb x (y + near_most)) (leb y (x + near_most)) e) in
    let m = leb-true y (x + near_most) (and_right (leb x (y + near_most)) (leb y (x + near_most)) e) in
    le-leb (x - y + (y - x)) near_most (omega arith))

pub returns : goal.returns
returns c = rw c.abs_diff.ensures (apart c.args.sector c.args.end)
