-- What a question is handed is what the rule shows it: the place of a bio's books serves for its node, whether the tree has that
-- node or not.
-- Assumes nothing.
use mathlib.Core.Path.{◌≡◌, refl, sym, ap, ◌∙◌}
use mathlib.Core.Bool.{Bool, true, false}
use Prim.Native.Nat.{ℕ}
use Rattle.rules.specs.Words.{has}
use Rattle.rules.specs.Tree.{is_leaf}
use Rattle.rules.specs.Budget.{would_be}
use Rattle.rules.specs.Refusals.{answer_paper, letters_of, paper_of, submit_checks}
use Rattle.rules.specs.Question.{own_at, asked, question}
use Rattle.rules.specs.Invariant.{Sound}
use Rattle.rules.proofs.Laws.Trees.{leaves_are}
use Rattle.rules.proofs.Laws.Questions.{question_on_paper}
use Rattle.rules.specs.declared.cost.Bio.{Bio}
use Rattle.rules.specs.declared.budget.Own.{Own}
use Rattle.rules.specs.declared.budget.Controller.{Controller}
use Rattle.rules.specs.Results.{Answered}
use Rattle.rules.specs.declared.refusals.Ruling.{Ruling}
use Rattle.submit.specs.Decision.{place_of}
use Rattle.submit.proofs.Rulings.{no_leaf_ruled}
use Rattle.submit.proofs.Decisions.{is_leaf_lem, at_leaf}

-- ---- the bio's place
module _ {c : Controller} (s : Sound c) (b : Bio) where
  -- neither the place nor the node is a leaf, or they are the same
  pub place_serves : asked b (own_at (place_of b) c) ≡ question b c
  unfolding asked
  place_serves = go (is_leaf c.tree b.node) refl
    where
      refused : (o p : Own) → o.leaf ≡ false → p.leaf ≡ false → asked b o ≡ asked b p
      refused o p i j = ap (λ (r : Ruling). r.answer) (sym (no_leaf_ruled b o i) ∙ no_leaf_ruled b p j)

      go : (t : Bool) → is_leaf c.tree b.node ≡ t → asked b (own_at (place_of b) c) ≡ question b c
      go true l = ap (λ (n : ℕ). asked b (own_at n c)) (at_leaf b c.tree s.tree l)
      go false l = refused (own_at (place_of b) c) (own_at b.node c) (is_leaf_lem b s ∙ l) (ap (λ (k : ℕ). has k b.node) s.leaves ∙ leaves_are s.tree b.node ∙ l)

  -- so what is answered of the place is the question's answer, by the rule and on paper
  pub answers : {r : Answered} → r ≡ asked b (own_at (place_of b) c)
      → (r ≡ question b c) × (answer_paper r ≡ paper_of (submit_checks b c) (letters_of (would_be c b)))
  answers e =
      let told = e ∙ place_serves in
      (told, ap answer_paper told ∙ question_on_paper s b)
