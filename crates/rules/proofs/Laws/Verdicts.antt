-- The first check that holds is given: when a list of checks accepts, and when it gives one certain refusal.
-- Assumes nothing.
use Rattle.std.specs.Prelude.{◌≡◌, refl, ◌↔◌, Bool, true, false, cond, not, ◌&&◌, List, [], ◌∷◌, ◌++◌, ℕ, eqb, Err, Ok}
use Rattle.std.proofs.Common.{sym, ap, ◌∙◌, eq-eqb}
use Rattle.std.proofs.lemmas.Bool.{not-true}
use Rattle.rules.specs.Refusals.{Check, ◌⇒◌, number, first_of}
use Rattle.rules.proofs.Laws.Bools.{never, true_not_false, and_left, and_right}
use Rattle.rules.specs.declared.refusals.Refusal.{Refusal}
use Rattle.rules.specs.Results.{Verdict}

-- none of them holds
abbrev pub NoneHolds : List Check → Type 0
NoneHolds [] = Unit {0}
NoneHolds (k ∷ ks) = (k.holds ≡ false) × NoneHolds ks

-- none of them gives a refusal with this number
abbrev pub lacks : ℕ → List Check → Bool
lacks n [] = true
lacks n (k ∷ ks) = not (eqb (number k.refusal) n) && lacks n ks

pub accepted_is_not_refused : (x : Refusal) → ◌≡◌ {A = Verdict} (Ok tt) (Err x) → ⊥
accepted_is_not_refused x e = never (cc)

same_refusal : (x y : Refusal) → ◌≡◌ {A = Verdict} (Err x) (Err y) → x ≡ y
same_refusal x y e = cc

-- ---- accepted exactly when no check holds
pub accepted_exactly_when : (ks : List Check) → (first_of ks ≡ Ok tt) ↔ NoneHolds ks
accepted_exactly_when [] = (λ e. tt, λ w. refl)
accepted_exactly_when (k ∷ ks) = go k.holds (accepted_exactly_when ks)
  where
    go : (b : Bool) → ((first_of ks ≡ Ok tt) ↔ NoneHolds ks)
        → (cond b (Err k.refusal) (first_of ks) ≡ Ok tt) ↔ ((b ≡ false) × NoneHolds ks)
    go true i = (λ e. absurd (accepted_is_not_refused k.refusal (sym e)), λ w. absurd (true_not_false refl w.0))
    go false i = (λ e. (refl, i.0 e), λ w. i.1 w.1)

-- ---- checks that stand behind others
none_first : (ks ms : List Check) → NoneHolds ks → first_of (ks ++ ms) ≡ first_of ms
none_first [] ms w = refl
none_first (k ∷ ks) ms w = rw w.0 (none_first ks ms w.1)

pub first_passed : (ks ms : List Check) → first_of ks ≡ Ok tt → first_of (ks ++ ms) ≡ first_of ms
first_passed ks ms e = none_first ks ms ((accepted_exactly_when ks).0 e)

pub first_refused : (ks ms : List Check) (x : Refusal) → first_of ks ≡ Err x → first_of (ks ++ ms) ≡ Err x
first_refused [] ms x e = absurd (accepted_is_not_refused x e)
first_refused (k ∷ ks) ms x e = go k.holds e (first_refused ks ms x)
  where
    go : (b : Bool) → cond b (Err k.refusal) (first_of ks) ≡ Err x → (first_of ks ≡ Err x → first_of (ks ++ ms) ≡ Err x)
        → cond b (Err k.refusal) (first_of (ks ++ ms)) ≡ Err x
    go true f i = f
    go false f i = i f

-- ---- a refusal that no check gives is not given
other_number : (x y : Refusal) → not (eqb (number y) (number x)) ≡ true → y ≡ x → ⊥
other_number x y n e = true_not_false (eq-eqb (number y) (number x) (ap number e)) (not-true (eqb (number y) (number x)) n)

pub not_given : (x : Refusal) (ks : List Check) → lacks (number x) ks ≡ true → first_of ks ≡ Err x → ⊥
not_given x [] l e = accepted_is_not_refused x e
not_given x (k ∷ ks) l e =
    go k.holds e (not_given x ks (and_right (not (eqb (number k.refusal) (number x))) (lacks (number x) ks) l))
  where
    go : (b : Bool) → cond b (Err k.refusal) (first_of ks) ≡ Err x → (first_of ks ≡ Err x → ⊥) → ⊥
    go true f i =
        other_number x k.refusal (and_left (not (eqb (number k.refusal) (number x))) (lacks (number x) ks) l) (same_refusal k.refusal x f)
    go false f i = i f

-- ---- "Given exactly when": its check holds, and none before it in the list does
pub given_exactly_when : (before : List Check) (b : Bool) (x : Refusal) (behind : List Check)
    → lacks (number x) before ≡ true → lacks (number x) behind ≡ true
    → (first_of (before ++ (b ⇒ x) ∷ behind) ≡ Err x) ↔ (NoneHolds before × (b ≡ true))
given_exactly_when [] b x behind l m = go b
  where
    go : (t : Bool) → (cond t (Err x) (first_of behind) ≡ Err x) ↔ (Unit {0} × (t ≡ true))
    go true = (λ e. (tt, refl), λ w. refl)
    go false = (λ e. absurd (not_given x behind m e), λ w. absurd (true_not_false w.1 refl))
given_exactly_when (k ∷ ks) b x behind l m =
    go k.holds (given_exactly_when ks b x behind (and_right (not (eqb (number k.refusal) (number x))) (lacks (number x) ks) l) m)
  where
    rest : Verdict
    rest = first_of (ks ++ (b ⇒ x) ∷ behind)

    go : (t : Bool) → ((rest ≡ Err x) ↔ (NoneHolds ks × (b ≡ true)))
        → (cond t (Err k.refusal) rest ≡ Err x) ↔ (((t ≡ false) × NoneHolds ks) × (b ≡ true))
    go true i = (
      λ e.
          absurd (other_number x k.refusal (and_left (not (eqb (number k.refusal) (number x))) (lacks (number x) ks) l) (same_refusal k.refusal x e)),
      λ w. absurd (true_not_false refl w.0.0),
    )
    go false i = (λ e. let w = i.0 e in ((refl, w.0), w.1), λ w. i.1 (w.0.1, w.1))

-- ---- the same of any list: some check that gives it holds, and none before that one does
pub record First (ks : List Check) (x : Refusal) : Type 0 where
  pub before : List Check
  pub it : Check
  pub behind : List Check
  pub split : ks ≡ before ++ it ∷ behind
  pub none : NoneHolds before
  pub holds : it.holds ≡ true
  pub gives : it.refusal ≡ x

first_out : (ks : List Check) (x : Refusal) → first_of ks ≡ Err x → First ks x
first_out [] x e = absurd (accepted_is_not_refused x e)
first_out (k ∷ ks) x e = go k.holds refl e (first_out ks x)
  where
    go : (b : Bool) → k.holds ≡ b → cond b (Err k.refusal) (first_of ks) ≡ Err x → (first_of ks ≡ Err x → First ks x) → First (k ∷ ks) x
    go true h f i = record {
      before = [];
      it = k;
      behind = ks;
      split = refl;
      none = tt;
      holds = h;
      gives = same_refusal k.refusal x f;
    }
    go false h f i =
        let w = i f in
        record {
          before = k ∷ w.before;
          it = w.it;
          behind = w.behind;
          split = ap (λ (l : List Check). k ∷ l) w.split;
          none = (h, w.none);
          holds = w.holds;
          gives = w.gives;
        }

first_in : (before : List Check) (it : Check) (behind : List Check) → NoneHolds before → it.holds ≡ true → first_of (before ++ it ∷ behind) ≡ Err it.refusal
first_in [] it behind w h = rw h
first_in (k ∷ ks) it behind w h = rw w.0 (first_in ks it behind w.1 h)

pub first_is_refused : (ks : List Check) (x : Refusal) → (first_of ks ≡ Err x) ↔ First ks x
first_is_refused ks x = (first_out ks x, λ w. ap first_of w.split ∙ first_in w.before w.it w.behind w.none w.holds ∙ ap Err w.gives)
