-- A loop over the members of a set, from the lowest on: what it has left.
-- Assumes nothing.
use Rattle.std.specs.Prelude.{◌≡◌, refl, true, false, not, ◌&&◌, ℕ, ◌+◌, ◌^◌, ◌≤◌, ◌<◌, eqb}
use Rattle.std.proofs.Common.{sym, ◌∙◌, lt_of_not-le, le_of_suc-le-suc, arith}
use Rattle.std.proofs.Math.Logic.{dite}
use Rattle.std.proofs.Math.Decide.{dec_lt}
use Rattle.rules.specs.Numbers.{nodes_most}
use Rattle.rules.specs.Words.{has, set_of}
use Rattle.rules.proofs.Laws.Bools.{true_not_false}
use Rattle.rules.proofs.Laws.Sets.{has_none, has_small, set_of_fits, set_of_past, remove_here, remove_others, remove_from, remove_less}
use Rattle.sets.specs.Lowest.{Lowest}

pub record LeftOf (all left : ℕ) : Type 0 where
  pub fits : left < 2 ^ nodes_most
  pub from : (n : ℕ) → has left n ≡ true → has all n ≡ true

pub all_left : (all : ℕ) → all < 2 ^ nodes_most → LeftOf all all
all_left all f = record { fits = f; from = λ n e. e }

-- the lowest is visited
module _ {all left n out : ℕ} (l : LeftOf all left) (low : Lowest left n) (o : out ≡ set_of (λ k. has left k && not (eqb k n))) where
  pub visited : LeftOf all out
  visited = record {
    fits = rw o (set_of_fits (λ k. has left k && not (eqb k n)));
    from = λ k e. l.from k (remove_from left n k (rw o at e));
  }

  pub fewer_left : out < left
  fewer_left = rw o (remove_less left n l.fits low.node low.here)

-- ---- by rising number: what is left has the members from n on, and those below are passed
pub record Passed (all left n : ℕ) : Type 0 where
  pub fits : left < 2 ^ nodes_most
  pub gone : (k : ℕ) → k < n → has left k ≡ false
  pub same : (k : ℕ) → n ≤ k → has left k ≡ has all k

-- a set without the root, of which nothing is passed but that
pub root_passed : (all : ℕ) → all < 2 ^ nodes_most → has all 0 ≡ false → Passed all all 1
root_passed all f root = record { fits = f; gone = λ k l. let e : k ≡ 0 = omega arith in rw e root; same = λ k l. refl }

pub nothing_left : {all left n : ℕ} → Passed all left n → left ≡ 0 → (k : ℕ) → n ≤ k → has all k ≡ false
nothing_left p z k l = sym (p.same k l) ∙ rw z (has_none k)

-- the lowest of what is left is next: none stands between
module _ {all left n m : ℕ} (p : Passed all left n) (low : Lowest left m) where
  pub not_before : n ≤ m
  not_before =
      dite (dec_lt m n) (λ (l : m < n). absurd (true_not_false low.here (p.gone m l))) (λ g. le_of_suc-le-suc (lt_of_not-le g))

  pub member : has all m ≡ true
  member = sym (p.same m not_before) ∙ low.here

  pub none_between : (k : ℕ) → n ≤ k → k < m → has all k ≡ false
  none_between k l b = sym (p.same k l) ∙ low.below k b

  module _ {out : ℕ} (o : out ≡ set_of (λ k. has left k && not (eqb k m))) where
    other : (k : ℕ) → (k ≡ m → ⊥) → has out k ≡ has left k
    other k apart =
        dite (dec_lt k nodes_most)
        (λ (l : k < nodes_most). rw o (remove_others left m k l apart))
        (λ g.
        let l : nodes_most ≤ k = le_of_suc-le-suc (lt_of_not-le g) in
        rw o (set_of_past (λ j. has left j && not (eqb j m)) k l) ∙ sym (has_small left nodes_most k p.fits l))

    pub passes : Passed all out (m + 1)
    passes = record {
      fits = rw o (set_of_fits (λ k. has left k && not (eqb k m)));
      gone =
          λ k l.
          dite (dec_lt k m)
          (λ (b : k < m). other k (λ e. omega arith) ∙ low.below k b)
          (λ g. let e : k ≡ m = omega (arith, lt_of_not-le g) in rw o (remove_here left m k (rw e low.node) e));
      same = λ k l. other k (λ e. omega arith) ∙ p.same k (omega (arith, not_before));
    }

    pub less_left : out < left
    less_left = rw o (remove_less left m p.fits low.node low.here)
