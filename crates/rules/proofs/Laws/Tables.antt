-- Laws of a table: what stands at each of its places, and when two are equal.
-- Assumes nothing.
use Rattle.std.specs.Prelude.{◌≡◌, Bool, true, false, cond, ◌≢◌, eqb, length, get_or, set, replicate}
use Rattle.std.proofs.Math.Path.{refl, ap}
use Rattle.std.proofs.Common.{sym, ◌∙◌, add-suc, suc-add, zero-add, lt_of_not-le, le_of_suc-le-suc, arith, length-set, ext_get_or, get_or-set_same, get_or-set_other, eqb-true}
use mathlib.Core.List.{List, [], ◌∷◌, ◌++◌}
use Rattle.std.proofs.Math.Logic.{dite}
use Prim.Native.Nat.{ℕ, zero, suc, ◌+◌, ◌≤◌, ◌<◌}
use Rattle.std.proofs.Math.Nat.{add-zero}
use Rattle.std.proofs.Math.Decide.{ℕ_discrete, dec_lt}
use Rattle.std.proofs.Math.ListN.{get_or-eq_default}
use Rattle.std.proofs.lemmas.Bool.{eqb-false}
use Rattle.rules.specs.Numbers.{nodes_most}
use Rattle.rules.specs.Words.{table_from, table}

module _ {A : Type 0} (f : ℕ → A) where
  pub length_table : (i n : ℕ) → length (table_from f i n) ≡ n
  unfolding table_from
  length_table i zero = refl
  length_table i (suc n) = ap suc (length_table (suc i) n)

  pub get_D_table : (i n j : ℕ) (d : A) → j < n → get_or (table_from f i n) j d ≡ f (i + j)
  unfolding table_from
  get_D_table i zero j d h = absurd (omega arith)
  get_D_table i (suc n) zero d h = rw add-zero
  get_D_table i (suc n) (suc j) d h = rw (add-suc, ← suc-add) (get_D_table (suc i) n j d (omega arith))

  -- the last of a table stands behind the others
  pub table_from_last : (i n : ℕ) → table_from f i (suc n) ≡ table_from f i n ++ (f (i + n) ∷ [])
  unfolding table_from
  table_from_last i zero = rw add-zero
  table_from_last i (suc n) = ap (λ (l : List A). f i ∷ l) (rw (add-suc, ← suc-add) (table_from_last (suc i) n))

  pub table_length : length (table f) ≡ nodes_most
  table_length = length_table 0 nodes_most

  pub table_at : (n : ℕ) (d : A) → n < nodes_most → get_or (table f) n d ≡ f n
  table_at n d h = get_D_table 0 nodes_most n d h ∙ ap f (zero-add n)

  -- past the end there is nothing
  pub table_past : (n : ℕ) (d : A) → nodes_most ≤ n → get_or (table f) n d ≡ d
  table_past n d h = get_or-eq_default (table f) d (rw table_length h)

  -- so a table of what is d past the end has it at every place
  pub table_every : (d : A) → ((n : ℕ) → nodes_most ≤ n → f n ≡ d) → (n : ℕ) → get_or (table f) n d ≡ f n
  table_every d h n =
      dite (dec_lt n nodes_most) (λ (l : n < nodes_most). table_at n d l)
      (λ g. let l : nodes_most ≤ n = le_of_suc-le-suc (lt_of_not-le g) in table_past n d l ∙ sym (h n l))

-- what holds of the new value and of the old ones holds at every place of the list with one place set
pub set_keeps : {A : Type 0} (P : A → Type 0) (l : List A) (i j : ℕ) (a d : A) → i < length l → P a → P (get_or l j d) → P (get_or (set l i a) j d)
set_keeps P l i j a d h new old =
    dite (ℕ_discrete j i) (λ (e : j ≡ i). rw (e, get_or-set_same l i a d h) new) (λ (n : j ≢ i). rw (get_or-set_other l i j a d n) old)

-- inside a list it does not matter what stands past its end
pub get_D_inside : {A : Type 0} (l : List A) (i : ℕ) (d e : A) → i < length l → get_or l i d ≡ get_or l i e
get_D_inside [] i d e h = absurd (omega arith)
get_D_inside (x ∷ l) zero d e h = refl
get_D_inside (x ∷ l) (suc i) d e h = get_D_inside l i d e (omega arith)

-- a list of one value has it at every place, and past the end
pub replicate_every : {A : Type 0} (n i : ℕ) (a : A) → get_or (replicate n a) i a ≡ a
replicate_every zero i a = refl
replicate_every (suc n) zero a = refl
replicate_every (suc n) (suc i) a = replicate_every n i a

-- a list is the table of what stands at its places
pub table_back : {A : Type 0} (l : List A) (d : A) → length l ≡ nodes_most → l ≡ table (λ n. get_or l n d)
table_back l d e =
    ext_get_or d l (table (λ n. get_or l n d)) (e ∙ sym (table_length (λ n. get_or l n d)))
    (λ i h. sym (table_at (λ n. get_or l n d) i d (omega arith)))

module _ {A : Type 0} (f g : ℕ → A) where
  pub table_from_cong : (i n : ℕ) → ((j : ℕ) → i ≤ j → j < i + n → f j ≡ g j) → table_from f i n ≡ table_from g i n
  unfolding table_from
  table_from_cong i zero h = refl
  table_from_cong i (suc n) h =
      rw (h i (omega arith) (omega arith), table_from_cong (suc i) n (λ j a b. h j (omega arith) (omega arith)))

  pub table_cong : ((n : ℕ) → n < nodes_most → f n ≡ g n) → table f ≡ table g
  table_cong h = table_from_cong 0 nodes_most (λ j a b. h j (omega arith))

-- a table with x put at place n
pub table_set : {A : Type 0} (f : ℕ → A) (n : ℕ) (x : A) → n < nodes_most → set (table f) n x ≡ table (λ k. cond (eqb k n) x (f k))
table_set {A} f n x h =
    ext_get_or x (set (table f) n x) (table (λ k. cond (eqb k n) x (f k)))
    (length-set (table f) n x ∙ table_length f ∙ sym (table_length (λ k. cond (eqb k n) x (f k))))
    (λ k l.
    let m : k < nodes_most = omega (arith, length-set (table f) n x, table_length f) in
    go k m (eqb k n) refl ∙ sym (table_at (λ j. cond (eqb j n) x (f j)) k x m))
  where
    go : (k : ℕ) → k < nodes_most → (b : Bool) → eqb k n ≡ b → get_or (set (table f) n x) k x ≡ cond b x (f k)
    go k m true e = let i : k ≡ n = eqb-true k n e in rw i (get_or-set_same (table f) n x x (omega (arith, table_length f)))
    go k m false e = get_or-set_other (table f) n k x x (eqb-false k n e) ∙ table_at f k x m
