-- Words that the rules are written in: sums and tables over the nodes, and sets of nodes kept as bits of one number.
-- Assumes nothing.
use Rattle.std.specs.Prelude.{Bool, false, cond, ◌||◌, List, [], ◌∷◌, ◌++◌, ℕ, zero, suc, ◌+◌, ◌/◌, ◌%◌, ◌^◌, eqb}
use Rattle.rules.specs.Numbers.{nodes_most}

-- f 1 + f 2 + .. + f m
unfoldable pub sum_to : (ℕ → ℕ) → ℕ → ℕ
sum_to f zero = 0
sum_to f (suc m) = sum_to f m + f (suc m)

-- p 1 or p 2 or .. or p m
unfoldable pub any_to : (ℕ → Bool) → ℕ → Bool
any_to p zero = false
any_to p (suc m) = any_to p m || p (suc m)

-- f 1, then f 2, .. then f m
unfoldable pub join_to : (ℕ → List ℕ) → ℕ → List ℕ
join_to f zero = []
join_to f (suc m) = join_to f m ++ f (suc m)

-- f i, f (i + 1), ..: n of them
unfoldable pub table_from : {A : Type 0} → (ℕ → A) → ℕ → ℕ → List A
table_from f i zero = []
table_from f i (suc n) = f i ∷ table_from f (suc i) n

-- f n at each place n of the nodes
abbrev pub table : {A : Type 0} → (ℕ → A) → List A
table f = table_from f 0 nodes_most

-- is n in the set s: is the digit of place n a 1?
unfoldable pub has : ℕ → ℕ → Bool
has s n = eqb (s / 2 ^ n % 2) 1

-- the set of those below m of which p holds
unfoldable pub set_to : (ℕ → Bool) → ℕ → ℕ
set_to p zero = 0
set_to p (suc m) = set_to p m + cond (p m) (2 ^ m) 0

-- the set of the nodes of which p holds
abbrev pub set_of : (ℕ → Bool) → ℕ
set_of p = set_to p nodes_most

-- nobody
abbrev pub no_node : ℕ
no_node = 0
