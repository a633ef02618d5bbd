-- `submit_to` meets its contract: what is decided is carried out, in the state in which the leaf is active where it was to become so.
-- Assumes nothing.
use Rattle.std.proofs.Common.{◌≡◌, ◌∙◌, sym}
use Rattle.std.proofs.lemmas.Result.{err_from_is_err_and}
use Rattle.std.specs.Prelude.{Ok, Some}
use Rattle.rules.specs.Budget.{queue_at, put_leaf, rebased}
use Rattle.rules.specs.Invariant.{Sound}
use Rattle.rules.proofs.Laws.Resharing.{active_with}
use Rattle.submit.specs.OnLeaf.{queued}
use Rattle.submit.specs.Decision.{view_at, decision}
use Rattle.submit.specs.declared.Shares.TheVariants.{Activate}
use Rattle.submit.proofs.Decisions.{Carries, both, shares_are, shares_are_not, joining, as_it_was, returning, staying, can_join, can_return, at_once, refuses, woken_active, woken_sound, woken_whole, once_woken}
use Rattle.submit.proofs.submit_to.Goals.{After-insert, After-rebase, Joined-eq, Joined-decided, then-eq+in_ok-decided-2, else-eq, in-Some, in_default}
use Rattle.submit.proofs.submit_to.Goals as goal

-- ---- refused as it stands
pub returns-in_err-decided : goal.returns-in_err-decided
returns-in_err-decided c =
    let p = err_from_is_err_and c.from_residual.result c.from_residual.ensures.1 in
    rw (p.1, p.2) (both (refuses c.requires c.args.bio c.place_of-node.ensures (sym c.in_err-decided.was ∙ c.decide_in.ensures)))

-- ---- the leaf is to become active
first : (c : After-insert) → (Ok c.in_ok-decided.decided ≡ decision c.args.bio c.place_of-node.result (view_at c.place_of-node.result c.args.c.now)) × (c.in_ok-decided.decided.shares ≡ Some Activate)
first c = (sym c.in_ok-decided.was ∙ c.decide_in.ensures, shares_are _ _ c.eq.ensures c.if-eq.true)

pub rebase-requires : goal.rebase-requires
rebase-requires c =
    let e = first c in
    let w = woken_active c.requires c.args.bio c.place_of-node.ensures e.0 e.1 in
    (w.0, rw c.insert.ensures w.1, w.2)

is_woken : (c : After-rebase) → c.rebase.new.c ≡ rebased (active_with c.place_of-node.result c.args.c.now) c.args.c.now
is_woken c = rw c.insert.ensures at c.rebase.ensures

pub decide_in-requires-then-eq : goal.decide_in-requires-then-eq
decide_in-requires-then-eq c =
    let e = first (goal.at.decide_in-requires-then-eq c).After-insert in
    (woken_sound c.requires c.args.bio c.place_of-node.ensures e.0 e.1 (is_woken c), c.place_of-node.ensures)

pub returns-in_err-decided-2 : goal.returns-in_err-decided-2
returns-in_err-decided-2 c =
    let e = first (goal.at.returns-in_err-decided-2 c).After-insert in
    let w = is_woken (goal.at.returns-in_err-decided-2 c).After-rebase in
    let p = err_from_is_err_and c.from_residual-in_err-decided-2.result c.from_residual-in_err-decided-2.ensures.1 in
    rw (p.1, p.2)
    (both (woken_whole c.requires c.args.bio c.place_of-node.ensures e.0 e.1 w (sym c.in_err-decided-2.was ∙ c.decide_in-then-eq.ensures)))

-- ---- what is carried out, and where
carries : (c : Joined-eq) → Carries c.args.bio c.args.c.now c.place_of-node.result c.if-eq.decided c.if-eq.c
carries c =
    let e : Ok c.in_ok-decided.decided ≡ decision c.args.bio c.place_of-node.result (view_at c.place_of-node.result c.args.c.now) = sym c.in_ok-decided.was ∙ c.decide_in.ensures in
    elim c.if-eq.branch [
      | then-eq+in_ok-decided-2 w ↦
          let i = shares_are _ _ c.eq.ensures w.if-eq.true in
          let n : w.rebase.new.c ≡ rebased (active_with c.place_of-node.result c.args.c.now) c.args.c.now = rw w.insert.ensures at w.rebase.ensures in
          rw (w.c-is, w.decided-is)
          (once_woken c.requires c.args.bio c.place_of-node.ensures e i n (sym w.in_ok-decided-2.was ∙ w.decide_in-then-eq.ensures))
      | else-eq w ↦ rw (w.c-is, w.decided-is) (at_once c.requires c.args.bio c.place_of-node.ensures e (shares_are_not _ _ c.eq.ensures w.if-eq.false))
    ]

pub joined-requires : goal.joined-requires
joined-requires c =
    let m = carries (goal.at.joined-requires c).Joined-eq in
    can_join m.sound c.args.bio c.place_of-node.ensures m.same c.in-Some.is

-- ---- the leaf's books are put back
put_at : (c : Joined-decided) → Sound c.if-eq.c
    → c.match-decided.c
    ≡ put_leaf c.place_of-node.result c.if-eq.decided.row (queued c.if-eq.decided.queue c.args.bio.id (queue_at c.if-eq.c c.place_of-node.result)) c.if-eq.c
put_at c s =
    elim c.match-decided.branch [
      | in-Some w ↦ w.c-is ∙ joining c.args.bio c.if-eq.decided _ _ s c.place_of-node.ensures w.in-Some.is w.joined.ensures
      | in_default w ↦ w.c-is ∙ as_it_was c.args.bio c.if-eq.decided c.place_of-node.result c.if-eq.c w.in_default.is
    ]

pub rebase-requires-then-eq-2 : goal.rebase-requires-then-eq-2
rebase-requires-then-eq-2 c =
    let m = carries (goal.at.rebase-requires-then-eq-2 c).Joined-eq in
    can_return m.sound c.args.bio c.place_of-node.ensures m.same (put_at (goal.at.rebase-requires-then-eq-2 c).Joined-decided m.sound)

pub returns-then-eq-2 : goal.returns-then-eq-2
returns-then-eq-2 c =
    let m = carries (goal.at.returns-then-eq-2 c).Joined-eq in
    let put = put_at (goal.at.returns-then-eq-2 c).Joined-decided m.sound in
    both (returning c.args.bio c.if-eq.decided _ _ put (shares_are _ _ c.eq-2.ensures c.if-eq-2.true) c.rebase-then-eq-2.ensures ∙ m.whole)

pub returns-else-eq-2 : goal.returns-else-eq-2
returns-else-eq-2 c =
    let m = carries (goal.at.returns-else-eq-2 c).Joined-eq in
    let put = put_at (goal.at.returns-else-eq-2 c).Joined-decided m.sound in
    both (staying c.args.bio c.if-eq.decided _ _ put (shares_are_not _ _ c.eq-2.ensures c.if-eq-2.false) ∙ m.whole)
