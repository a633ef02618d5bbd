-- Laws of a sum and of a test over the nodes 1 to m.
-- Assumes nothing.
use Rattle.std.specs.Prelude.{◌≡◌, refl, Bool, true, false, cond, List, ◌++◌, ℕ, zero, suc, ◌+◌, ◌-◌, ◌*◌, ◌≤◌, ◌<◌, eqb, length, get_or}
use Rattle.std.proofs.Common.{◌∙◌, ⊎_elim, eq-or-lt_of_le, mul-add, mul-zero, arith, length-append, get_or-append-add, eq-eqb, ne_eqb}
use Rattle.std.proofs.Math.ListN.{get_or-append}
use Rattle.rules.specs.Words.{sum_to, any_to, join_to}
use Rattle.rules.proofs.Laws.Bools.{true_not_false, is_false, or_left, or_right, or_cases}

-- ---- a sum
pub sum_cong : (f g : ℕ → ℕ) (m : ℕ) → ((n : ℕ) → 0 < n → n ≤ m → f n ≡ g n) → sum_to f m ≡ sum_to g m
unfolding sum_to
sum_cong f g zero h = refl
sum_cong f g (suc m) h = omega (arith, sum_cong f g m (λ n p q. h n p (omega arith)), h (suc m) (omega arith) (omega arith))

-- the last term apart, as a loop adds it
pub sum_step : (f : ℕ → ℕ) (n : ℕ) → 0 < n → sum_to f n ≡ sum_to f (n - 1) + f n
unfolding sum_to
sum_step f zero p = absurd (omega arith)
sum_step f (suc n) p = let e : suc n - 1 ≡ n = omega arith in rw e

pub sum_le : (f g : ℕ → ℕ) (m : ℕ) → ((n : ℕ) → 0 < n → n ≤ m → f n ≤ g n) → sum_to f m ≤ sum_to g m
unfolding sum_to
sum_le f g zero h = omega arith
sum_le f g (suc m) h = omega (arith, sum_le f g m (λ n p q. h n p (omega arith)), h (suc m) (omega arith) (omega arith))

pub sum_add : (f g : ℕ → ℕ) (m : ℕ) → sum_to (λ n. f n + g n) m ≡ sum_to f m + sum_to g m
unfolding sum_to
sum_add f g zero = omega arith
sum_add f g (suc m) = omega (arith, sum_add f g m)

pub sum_none : (f : ℕ → ℕ) (m : ℕ) → ((n : ℕ) → 0 < n → n ≤ m → f n ≡ 0) → sum_to f m ≡ 0
unfolding sum_to
sum_none f zero h = refl
sum_none f (suc m) h = omega (arith, sum_none f m (λ n p q. h n p (omega arith)), h (suc m) (omega arith) (omega arith))

pub sum_scale : (f : ℕ → ℕ) (c m : ℕ) → sum_to (λ n. c * f n) m ≡ c * sum_to f m
unfolding sum_to
sum_scale f c zero = omega (arith, mul-zero c)
sum_scale f c (suc m) = omega (arith, sum_scale f c m, mul-add c (sum_to f m) (f (suc m)))

-- terms past m that are 0 add nothing
pub sum_past : (f : ℕ → ℕ) (m k : ℕ) → m ≤ k → ((n : ℕ) → m < n → n ≤ k → f n ≡ 0) → sum_to f k ≡ sum_to f m
unfolding sum_to
sum_past f m zero l h = let e : m ≡ 0 = omega arith in rw e
sum_past f m (suc k) l h =
    ⊎_elim
    (λ (e : m ≡ suc k). rw e)
    (λ (q : m < suc k). omega (arith, sum_past f m k (omega arith) (λ n a b. h n a (omega arith)), h (suc k) q (omega arith)))
    (eq-or-lt_of_le l)

-- a part of a sum is at most the sum
pub sum_part : (f : ℕ → ℕ) (m k : ℕ) → m ≤ k → sum_to f m ≤ sum_to f k
unfolding sum_to
sum_part f m zero l = let e : m ≡ 0 = omega arith in rw e (omega arith)
sum_part f m (suc k) l =
    ⊎_elim
    (λ (e : m ≡ suc k). rw e (omega arith))
    (λ (q : m < suc k). omega (arith, sum_part f m k (omega arith)))
    (eq-or-lt_of_le l)

-- a sum of terms that are each at most b
pub sum_bound : (f : ℕ → ℕ) (b m : ℕ) → ((n : ℕ) → 0 < n → n ≤ m → f n ≤ b) → sum_to f m ≤ m * b
unfolding sum_to
sum_bound f b zero h = omega arith
sum_bound f b (suc m) h = omega (arith, sum_bound f b m (λ n p q. h n p (omega arith)), h (suc m) (omega arith) (omega arith))

-- a term is at most the sum
pub sum_in : (f : ℕ → ℕ) (n m : ℕ) → 0 < n → n ≤ m → f n ≤ sum_to f m
unfolding sum_to
sum_in f n zero p q = absurd (omega arith)
sum_in f n (suc m) p q =
    ⊎_elim
    (λ (e : n ≡ suc m). rw e (omega arith))
    (λ (l : n < suc m). omega (arith, sum_in f n m p (omega arith)))
    (eq-or-lt_of_le q)

-- quotients rounded down, of the parts of a sum
pub sum_floors : (f g : ℕ → ℕ) (s w m : ℕ) → ((n : ℕ) → 0 < n → n ≤ m → f n * w ≤ s * g n) → sum_to f m * w ≤ s * sum_to g m
unfolding sum_to
sum_floors f g s w zero h = omega arith
sum_floors f g s w (suc m) h =
    omega (arith, sum_floors f g s w m (λ n p q. h n p (omega arith)), h (suc m) (omega arith) (omega arith))

-- the same from below: what each part loses by rounding is less than 1
pub sum_losses : (f g h : ℕ → ℕ) (s w m : ℕ) → ((n : ℕ) → 0 < n → n ≤ m → s * g n + h n ≤ f n * w)
    → s * sum_to g m + sum_to h m ≤ sum_to f m * w
unfolding sum_to
sum_losses f g h s w zero e = omega arith
sum_losses f g h s w (suc m) e =
    omega (arith, sum_losses f g h s w m (λ n p q. e n p (omega arith)), e (suc m) (omega arith) (omega arith))

-- x stands at one place of 0 to m
delta_past : (q x m : ℕ) → m < q → sum_to (λ p. cond (eqb q p) x 0) m ≡ 0
delta_past q x m l = sum_none (λ p. cond (eqb q p) x 0) m (λ n p k. rw (ne_eqb q n (omega arith)) refl)

pub delta : (q x m : ℕ) → q ≤ m → cond (eqb q 0) x 0 + sum_to (λ p. cond (eqb q p) x 0) m ≡ x
unfolding sum_to
delta q x zero l = let e : q ≡ 0 = omega arith in rw (eq-eqb q 0 e) (omega arith)
delta q x (suc m) l =
    ⊎_elim
    (λ (e : q ≡ suc m). rw (eq-eqb q (suc m) e, ne_eqb q 0 (omega arith)) (omega (arith, delta_past q x m (omega arith))))
    (λ (k : q < suc m). rw (ne_eqb q (suc m) (omega arith)) (omega (arith, delta q x m (omega arith))))
    (eq-or-lt_of_le l)

-- a sum over the nodes, by their parents
pub by_parent : (par g : ℕ → ℕ) (m k : ℕ) → ((n : ℕ) → 0 < n → n ≤ k → par n ≤ m)
    → sum_to g k ≡ sum_to (λ n. cond (eqb (par n) 0) (g n) 0) k + sum_to (λ p. sum_to (λ n. cond (eqb (par n) p) (g n) 0) k) m
unfolding sum_to
by_parent par g m zero h = omega (arith, sum_none (λ p. 0) m (λ n p q. refl))
by_parent par g m (suc k) h =
    omega (
      arith,
      by_parent par g m k (λ n p q. h n p (omega arith)),
      delta (par (suc k)) (g (suc k)) m (h (suc k) (omega arith) (omega arith)),
      sum_add (λ p. sum_to (λ n. cond (eqb (par n) p) (g n) 0) k) (λ p. cond (eqb (par (suc k)) p) (g (suc k)) 0) m,
    )

-- ---- lists that are joined
pub length_join : (f : ℕ → List ℕ) (m : ℕ) → length (join_to f m) ≡ sum_to (λ n. length (f n)) m
unfolding join_to sum_to
length_join f zero = refl
length_join f (suc m) = rw length-append (omega (arith, length_join f m))

-- list m + 1 stands behind those before it, and within
pub join_within : (f : ℕ → List ℕ) (m k : ℕ) → m < k → sum_to (λ n. length (f n)) m + length (f (suc m)) ≤ length (join_to f k)
unfolding sum_to
join_within f m k b = rw (length_join f k) (sum_part (λ n. length (f n)) (suc m) k b)

pub join_at : (f : ℕ → List ℕ) (m k j d : ℕ) → m < k → j < length (f (suc m))
    → get_or (join_to f k) (sum_to (λ n. length (f n)) m + j) d ≡ get_or (f (suc m)) j d
unfolding join_to
join_at f m zero j d l h = absurd (omega arith)
join_at f m (suc k) j d l h =
    ⊎_elim
    (λ (e : m ≡ k). rw (e, ← length_join f k) (get_or-append-add (join_to f k) (f (suc k)) j d))
    (λ (b : m < k).
    get_or-append (join_to f k) (f (suc k)) d (sum_to (λ n. length (f n)) m + j) (omega (arith, join_within f m k b))
    ∙ join_at f m k j d b h)
    (eq-or-lt_of_le (omega arith))

-- the last list apart, as a loop joins it
pub join_step : (f : ℕ → List ℕ) (n : ℕ) → 0 < n → join_to f n ≡ join_to f (n - 1) ++ f n
unfolding join_to
join_step f zero p = absurd (omega arith)
join_step f (suc n) p = let e : suc n - 1 ≡ n = omega arith in rw e

-- ---- a test of some
pub any_in : (p : ℕ → Bool) (n m : ℕ) → 0 < n → n ≤ m → p n ≡ true → any_to p m ≡ true
unfolding any_to
any_in p n zero l q e = absurd (omega arith)
any_in p n (suc m) l q e =
    ⊎_elim
    (λ (i : n ≡ suc m). or_right (any_to p m) (p (suc m)) (rw i at e))
    (λ (k : n < suc m). or_left (any_to p m) (p (suc m)) (any_in p n m l (omega arith) e))
    (eq-or-lt_of_le q)

pub any_out : (p : ℕ → Bool) (m : ℕ) → any_to p m ≡ true → (n : ℕ) × (0 < n) × (n ≤ m) × (p n ≡ true)
unfolding any_to
any_out p zero e = absurd (true_not_false e refl)
any_out p (suc m) e =
    ⊎_elim
    (λ (i : any_to p m ≡ true). let w = any_out p m i in (w.0, w.1, omega (arith, w.2), w.3))
    (λ (i : p (suc m) ≡ true). (suc m, omega arith, omega arith, i))
    (or_cases (any_to p m) (p (suc m)) e)

pub any_none : (p : ℕ → Bool) (n m : ℕ) → any_to p m ≡ false → 0 < n → n ≤ m → p n ≡ false
any_none p n m e l q = is_false (p n) (λ t. true_not_false (any_in p n m l q t) e)

pub none_any : (p : ℕ → Bool) (m : ℕ) → ((n : ℕ) → 0 < n → n ≤ m → p n ≡ false) → any_to p m ≡ false
none_any p m h = is_false (any_to p m) (λ t. let w = any_out p m t in true_not_false w.3 (h w.0 w.1 w.2))

pub any_cong : (p q : ℕ → Bool) (m : ℕ) → ((n : ℕ) → 0 < n → n ≤ m → p n ≡ q n) → any_to p m ≡ any_to q m
unfolding any_to
any_cong p q zero h = refl
any_cong p q (suc m) h = rw (any_cong p q m (λ n a b. h n a (omega arith)), h (suc m) (omega arith) (omega arith))
