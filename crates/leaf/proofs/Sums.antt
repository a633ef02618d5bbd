-- The sum over all of a list but the first, where the root stands, is that over the nodes from 1 on.
-- Assumes nothing.
use mathlib.Core.Path.{◌≡◌, refl, ap, ◌∙◌}
use mathlib.Core.List.{List}
use Prim.Native.Nat.{ℕ, zero, suc, ◌<◌}
use native.Mathlib.Numerals.{add-one}
use native.Mathlib.Omega.{arith}
use lib.ListN.{length, get_or, take, drop}
use Rattle.std.specs.Prelude.{sum_by}
use Rattle.std.proofs.lemmas.List.{get_or-drop, length-drop}
use Rattle.std.proofs.lemmas.List.Sums.{sum_by_more}
use Rattle.rules.specs.Words.{sum_to}

pub sum_rest : {A : Type 0} (f : A → ℕ) (l : List A) (d : A) (m : ℕ) → m < length l → sum_by f (take m (drop 1 l)) ≡ sum_to (λ n. f (get_or l n d)) m
unfolding sum_to
sum_rest f l d zero h = refl
sum_rest {A} f l d (suc m) h =
    let inside : m < length (drop 1 l) = omega (arith, length-drop 1 l) in
    let last : f (get_or (drop 1 l) m d) ≡ f (get_or l (suc m) d) = ap f (get_or-drop 1 l m d ∙ ap (λ (n : ℕ). get_or l n d) (omega arith)) in
    rw add-one at (sum_by_more f (drop 1 l) m d inside) ∙ omega (arith, sum_rest f l d m (omega arith), last)
