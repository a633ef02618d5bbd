-- A leaf's turn as the code hands it out. First the row alone: with nothing due, that is the whole turn. Then the release: the
-- ids are in the lent buffer, their count is beside the row, and of the queue only its head and its length change.
-- Assumes nothing.
use Rattle.std.specs.Prelude.{◌≡◌, Bool, cond, not, ◌&&◌, List, ℕ, zero, suc, ◌≤◌, ltb, length}
use Rattle.std.proofs.Math.Path.{refl, ap}
use Rattle.std.proofs.Common.{sym, ◌∙◌, arith}
use Rattle.std.proofs.Math.Bool.{true, false}
use borrow.Author.Tests.{not-true, ltb-false}
use Rattle.rules.specs.Budget.{popped, oldest_id, oldest_cost, charged, owes, fits}
use Rattle.rules.specs.Tick.{Release, no_release, and_first, and_capped, and_repaid, gained, repayment, repaid, release_in, released, capped, turn, lent_after}
use Rattle.rules.proofs.Laws.Bools.{and_left, and_right}
use Rattle.rules.specs.declared.units.Virt.{Virt}
use Rattle.rules.specs.declared.budget.Row.{Row}
use Rattle.rules.specs.declared.budget.Queue.{Queue}
use Rattle.leaf.specs.Alone.{capped_with}
use Rattle.leaf.specs.Fit.{Fit, CanRelease, gain_most, gained_can_repay, repaid_can_release}
use Rattle.leaf.specs.declared.tick.Settled.{Settled}
use Rattle.leaf.specs.declared.tick.Left.{Left}

-- ---- the row alone
-- a leaf that owes nothing has bios due if any wait
abbrev pub is_due : Row → ℕ → Bool
is_due r waiting = not (owes r) && ltb 0 waiting

abbrev pub settled_of : Virt → ℕ → Row → ℕ → Settled
settled_of g share r waiting = record {
  row = capped_with (repaid share (gained g r)) waiting;
  repaid = repayment share (gained g r);
  due = is_due (repaid share (gained g r)) waiting;
}

-- ---- the release
-- a queue that begins at another place and has another length
abbrev pub cut : Queue → ℕ → ℕ → Queue
cut q head len = record { ids = q.ids; costs = q.costs; head = head; len = len }

abbrev pub handed : Release → Left
handed t = record { row = t.row; head = t.queue.head; len = t.queue.len; count = length t.ids }

-- it is handed out, and its ids stand at the front of the buffer that was lent
abbrev pub Releases : Release → List ℕ → Left → List ℕ → Type 0
Releases t lent r after = (r ≡ handed t) × (after ≡ lent_after t.ids lent)

pub release_cuts : (more share : ℕ) (r : Row) (q : Queue) →
    let t = release_in more share r q in
    cut q t.queue.head t.queue.len ≡ t.queue
unfolding release_in
release_cuts zero share r q = refl
release_cuts (suc more) share r q =
    go (fits (oldest_cost q) share r) (release_cuts more share (charged (oldest_cost q) share r) (popped q))
  where
    rest : Release
    rest = release_in more share (charged (oldest_cost q) share r) (popped q)

    go : (b : Bool) → cut q rest.queue.head rest.queue.len ≡ rest.queue →
        let t : Release = cond b (and_first (oldest_id q) rest) (no_release r q) in
        cut q t.queue.head t.queue.len ≡ t.queue
    go true w = w
    go false w = refl

-- ---- the row once it has repaid: nothing is released, or what is due
module _ (share : ℕ) (r : Row) (q : Queue) where
  owes_not : is_due r q.len ≡ true → owes r ≡ false
  owes_not e = not-true (owes r) (and_left (not (owes r)) (ltb 0 q.len) e)

  keeps : is_due r q.len ≡ false → released share r q ≡ no_release r q
  unfolding released release_in
  keeps e = go (owes r) refl
    where
      go : (b : Bool) → owes r ≡ b → released share r q ≡ no_release r q
      go true f = rw f
      go false f = let none : q.len ≡ 0 = omega (arith, ltb-false 0 q.len (rw f at e)) in rw (f, none)

  frees : is_due r q.len ≡ true → released share r q ≡ release_in q.len share r q
  unfolding released
  frees e = rw (owes_not e)

  -- what is due keeps its budget
  due_uncapped : is_due r q.len ≡ true → capped_with r q.len ≡ r
  unfolding capped
  due_uncapped e = rw (owes_not e, and_right (not (owes r)) (ltb 0 q.len) e)

  capped_by_count : capped r q ≡ capped_with r q.len
  unfolding capped
  capped_by_count = refl

-- ---- a turn is one or the other
module _ (g : Virt) (share : ℕ) (r : Row) (q : Queue) where
  abbrev paid : Row
  paid = repaid share (gained g r)

  pub none_due : is_due paid q.len ≡ false
      → turn g share r q ≡ and_repaid (repayment share (gained g r)) (no_release (capped_with paid q.len) q)
  unfolding turn
  none_due e =
      ap (λ (t : Release). and_repaid (repayment share (gained g r)) (and_capped t)) (keeps share paid q e)
      ∙ ap (λ (x : Row). and_repaid (repayment share (gained g r)) (no_release x q)) (capped_by_count share paid q)

  pub some_due : is_due paid q.len ≡ true
      → turn g share r q ≡ and_repaid (repayment share (gained g r)) (and_capped (release_in q.len share (capped_with paid q.len) q))
  unfolding turn
  some_due e =
      ap (λ (t : Release). and_repaid (repayment share (gained g r)) (and_capped t))
      (frees share paid q e ∙ ap (λ (x : Row). release_in q.len share x q) (sym (due_uncapped share paid q e)))

  pub due_can_release : Fit share r q → g.0 ≤ gain_most → is_due paid q.len ≡ true → CanRelease share (capped_with paid q.len) q
  due_can_release fit small e =
      rw (due_uncapped share paid q e) (repaid_can_release (gained_can_repay fit.books g small) fit.waiting)
