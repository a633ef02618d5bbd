-- Small laws of true and false, used by all the laws.
-- Assumes nothing.
use Rattle.std.specs.Prelude.{◌≡◌, refl, ◌⊎◌, ◌↔◌, Bool, true, false, ◌&&◌, ◌||◌, ℕ, ◌≤◌, leb}
use Rattle.std.proofs.Common.{sym, inl, inr, ⊎_elim, arith, leb-true, le-leb}

-- from two variants that would be equal, anything
pub never : {A : Type 0} → ◌≡◌ {A = ℕ} 0 1 → A
never e = absurd (omega arith)

pub true_not_false : {b : Bool} → b ≡ true → b ≡ false → ⊥
true_not_false p q = never (cc)

pub is_false : (b : Bool) → (b ≡ true → ⊥) → b ≡ false
is_false true h = absurd (h refl)
is_false false h = refl

pub is_true : (b : Bool) → (b ≡ false → ⊥) → b ≡ true
is_true true h = refl
is_true false h = absurd (h refl)

-- two tests that hold of the same are equal
pub same_test : (a b : Bool) → (a ≡ true → b ≡ true) → (b ≡ true → a ≡ true) → a ≡ b
same_test true b f g = sym (f refl)
same_test false true f g = g refl
same_test false false f g = refl

pub and_left : (a b : Bool) → (a && b) ≡ true → a ≡ true
and_left true b e = refl
and_left false b e = e

pub and_right : (a b : Bool) → (a && b) ≡ true → b ≡ true
and_right true b e = e
and_right false b e = absurd (true_not_false e refl)

pub and_both : (a b : Bool) → a ≡ true → b ≡ true → (a && b) ≡ true
and_both a b p q = rw (p, q)

pub and_not_left : (a b : Bool) → a ≡ false → (a && b) ≡ false
and_not_left a b p = rw p

pub and_not_right : (a b : Bool) → b ≡ false → (a && b) ≡ false
and_not_right true b q = q
and_not_right false b q = refl

pub and_swap : (a b : Bool) → (a && b) ≡ (b && a)
and_swap true true = refl
and_swap true false = refl
and_swap false true = refl
and_swap false false = refl

pub or_left : (a b : Bool) → a ≡ true → (a || b) ≡ true
or_left a b p = rw p

pub or_right : (a b : Bool) → b ≡ true → (a || b) ≡ true
or_right true b q = refl
or_right false b q = q

pub or_cases : (a b : Bool) → (a || b) ≡ true → (a ≡ true) ⊎ (b ≡ true)
or_cases true b e = inl refl
or_cases false b e = inr e

pub or_neither : (a b : Bool) → a ≡ false → b ≡ false → (a || b) ≡ false
or_neither a b p q = rw (p, q)

pub or_not_left : (a b : Bool) → (a || b) ≡ false → a ≡ false
or_not_left true b e = e
or_not_left false b e = refl

pub or_not_right : (a b : Bool) → (a || b) ≡ false → b ≡ false
or_not_right true b e = absurd (true_not_false refl e)
or_not_right false b e = e

-- ---- a test that holds exactly when a fact does
pub exactly : {P Q R : Type 0} → P ↔ Q → Q ↔ R → P ↔ R
exactly p q = (λ x. q.0 (p.0 x), λ z. p.1 (q.1 z))

-- beside a fact that is there
pub exactly_beside : {P Q R : Type 0} → R → P ↔ Q → (P × R) ↔ Q
exactly_beside r p = (λ w. p.0 w.0, λ q. (p.1 q, r))

pub exactly_pair : {P Q R S : Type 0} → P ↔ R → Q ↔ S → (P × Q) ↔ (R × S)
exactly_pair p q = (λ w. (p.0 w.0, q.0 w.1), λ w. (p.1 w.0, q.1 w.1))

pub exactly_both : {P Q : Type 0} (a b : Bool) → ((a ≡ true) ↔ P) → ((b ≡ true) ↔ Q) → ((a && b) ≡ true) ↔ (P × Q)
exactly_both a b p q =
    (λ e. (p.0 (and_left a b e), q.0 (and_right a b e)), λ w. and_both a b (p.1 w.0) (q.1 w.1))

pub exactly_either : {P Q : Type 0} (a b : Bool) → ((a ≡ true) ↔ P) → ((b ≡ true) ↔ Q) → ((a || b) ≡ true) ↔ (P ⊎ Q)
exactly_either a b p q =
    (λ e. ⊎_elim (λ t. inl (p.0 t)) (λ t. inr (q.0 t)) (or_cases a b e), ⊎_elim (λ w. or_left a b (p.1 w)) (λ w. or_right a b (q.1 w)))

pub exactly_not : {P : Type 0} (a : Bool) → ((a ≡ true) ↔ P) → (a ≡ false) ↔ (P → ⊥)
exactly_not a p = (λ e w. true_not_false (p.1 w) e, λ n. is_false a (λ t. n (p.0 t)))

pub at_most : (a b : ℕ) → (leb a b ≡ true) ↔ (a ≤ b)
at_most a b = (leb-true a b, le-leb a b)

-- a number that is tested from both sides
pub between : (a x b : ℕ) → ((leb a x && leb x b) ≡ true) ↔ ((a ≤ x) × (x ≤ b))
between a x b = exactly_both (leb a x) (leb x b) (at_most a x) (at_most x b)
