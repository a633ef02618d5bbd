-- `any` over the members of a set: at which numbers it may call its closure, and what its answer says of the members.
-- Assumes nothing.
use Rattle.std.proofs.Common.{◌≡◌, refl, sym, ◌∙◌, Bool, true, false, Option, None, Some, List, [], ◌∷◌, ℕ, ◌^◌, ◌<◌, eqb}
use Rattle.std.specs.Fn.{Called, Mut}
use Rattle.std.specs.List.{FoldsTo}
use Rattle.std.specs.Option.{MatchOption}
use Rattle.std.specs.Iterator.{Yields, CallableAtEachTurn, ChecksAny}
use borrow.Author.Tests.{eqb-true, eqb-false}
use Rattle.rules.specs.Numbers.{nodes_most}
use Rattle.rules.specs.Words.{has}
use Rattle.rules.proofs.Laws.Sets.{has_none, has_node, remove_others}
use Rattle.rules.proofs.Laws.Bools.{true_not_false}
use Rattle.sets.specs.declared.Members.{Members}
use Rattle.sets.specs.Members.{Steps}
use Rattle.sets.specs.Visit.{LeftOf, all_left, visited}

-- what is left after some members
left_after : (all : ℕ) (xs : List ℕ) {s t : Members} → LeftOf all s.0 → Yields Steps s xs t → LeftOf all t.0
left_after all [] l y = rw (← y) l
left_after all (x ∷ xs) l y = left_after all xs (visited l y.1.0 y.1.1) y.2

same_after : {P : Type 0} (R : P → ℕ → P → Type 0) (p : P) → ((x : ℕ) (q : P) → R p x q → q ≡ p) → (xs : List ℕ) (q : P) → FoldsTo R p xs q → q ≡ p
same_after R p keeps [] q f = sym f
same_after R p keeps (x ∷ xs) q f = same_after R p keeps xs q (rw (keeps x f.0 f.1) at f.2)

-- a closure that no call changes is called at members alone
pub asked_of_members : {P : Type 0} {R : P → ℕ → P → Type 0} {Q : P → ℕ → Type 0} {s : Members} {p : P} → s.0 < 2 ^ nodes_most
    → ((x : ℕ) (q : P) → R p x q → q ≡ p) → ((x : ℕ) → has s.0 x ≡ true → Q p x) → CallableAtEachTurn Steps R Q s p
asked_of_members {P} {R} {Q} {s} {p} fits keeps may = record {
  at =
      λ xs t q x u y f e.
      rw (same_after R p keeps xs q f) (may x ((left_after s.0 xs (all_left s.0 fits) y).from x e.0.here));
}

-- ---- the closure computes a test
module _ {F : Type 0} (g : Mut F (ℕ × Unit {0}) Bool) (f : F) (test : ℕ → Bool) (all : ℕ)
    (each : (x : ℕ) (b : Bool) (h : F) → has all x ≡ true → Called g f (x, tt) b h → (h ≡ f) × (b ≡ test x)) where
  record Passed (s t : Members) (h : F) : Type 0 where
    same : h ≡ f
    left : LeftOf all t.0
    low : (n : ℕ) → has s.0 n ≡ true → has t.0 n ≡ false → test n ≡ false

  passed : (xs : List ℕ) (s t : Members) (h : F) → LeftOf all s.0 → Yields Steps s xs t → FoldsTo (λ p x q. Called g p (x, tt) false q) f xs h
      → Passed s t h
  passed [] s t h l y o = record {
    same = sym o;
    left = rw (← y) l;
    low = λ n on off. absurd (true_not_false on (rw y off));
  }
  passed (x ∷ xs) s t h l y o =
      let j = y.0 in
      let low = y.1.0 in
      let gone = y.1.1 in
      let here = each x false o.0 (l.from x low.here) o.1 in
      let rest = passed xs j t h (visited l low gone) y.2 (rw here.0 at o.2) in
      record {
        same = rest.same;
        left = rest.left;
        low = λ n on off. go n on off (eqb n x) refl rest;
      }
    where
      go : (n : ℕ) → has s.0 n ≡ true → has t.0 n ≡ false → (b : Bool) → eqb n x ≡ b → Passed y.0 t h → test n ≡ false
      go n on off true e rest = let i : n ≡ x = eqb-true n x e in rw i (sym (each x false o.0 (l.from x y.1.0.here) o.1).1)
      go n on off false e rest =
          rest.low n (rw y.1.1 (remove_others s.0 x n (has_node s.0 n l.fits on) (eqb-false n x e) ∙ on)) off

  pub record Answers (r : Bool) : Type 0 where
    pub some : r ≡ true → (n : ℕ) × (has all n ≡ true) × (test n ≡ true)
    pub none : r ≡ false → (n : ℕ) → has all n ≡ true → test n ≡ false

  ended : {r : Bool} (o : Option ℕ) (t u : Members) (h : F) → Passed (record { 0 = all }) t h → Steps t o u
      → MatchOption o (r ≡ false) (λ x. (r ≡ true) × ((k : F) × Called g h (x, tt) true k)) → Answers r
  ended None t u h p z e = record { some = λ i. absurd (true_not_false i e); none = λ i n on. p.low n on (rw z (has_none n)) }
  ended (Some x) t u h p z e = record {
    some = λ i. let on = p.left.from x z.0.here in (x, on, sym (each x true e.1.0 on (rw p.same at e.1.1)).1);
    none = λ i. absurd (true_not_false e.0 i);
  }

  pub any_of_members : {u : Members} {r : Bool} → all < 2 ^ nodes_most → ChecksAny Steps g (record { 0 = all }) f r u → Answers r
  any_of_members fits w =
      ended w.1 w.3.0 _ w.2 (passed w.0 (record { 0 = all }) w.3.0 w.2 (all_left all fits) w.3.1 w.4) w.3.2 w.5
