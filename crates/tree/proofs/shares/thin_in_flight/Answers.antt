-- `shares::thin_in_flight` meets its contract: each leaf's share is in its place.
-- Assumes nothing.
use Rattle.std.proofs.Common.{◌≡◌, true, List, ℕ, ◌∙◌, rules, tests, get_or, ltb}
use Rattle.rules.specs.Numbers.{share_floor}
use Rattle.rules.specs.Words.{has}
use Rattle.rules.specs.Tree.{leaves_of, share_of, base_shares}
use Rattle.rules.specs.Invariant.{SoundTree}
use Rattle.rules.specs.declared.tree.Tree.{Tree}
use Rattle.rules.proofs.Laws.Shares.{base_share_is}
use Rattle.rules.proofs.Laws.Resharing.{base_shares_each}
use Rattle.sets.proofs.Asked.{any_of_members}
use Rattle.tree.proofs.Leaves.{leaves_only, leaves_fit, thin_by}
use Rattle.tree.proofs.shares.thin_in_flight.Goals as goal

share : {t : Tree} → SoundTree t → {all : ℕ} → all ≡ leaves_of t → {shares : List ℕ} → shares ≡ base_shares t all → (n : ℕ) → has all n ≡ true
    → get_or shares n 0 ≡ share_of t all n
share {t} sound {all} e s n on = rw s (base_shares_each sound all (leaves_only t e) n ∙ base_share_is t all n on)

pub base_shares-shares-requires : goal.base_shares-shares-requires
base_shares-shares-requires c = (c.requires, leaves_only c.args.tree c.leaves-all.ensures)

pub returns : goal.returns
returns c =
    let t = c.args.tree in
    let all = c.leaves-all.result in
    let a =
    any_of_members _ _ (λ n. ltb (share_of t all n) share_floor) all
    (λ x b h on k. rw (← share c.requires c.leaves-all.ensures c.base_shares-shares.ensures x on) (search (rules, tests)))
    (leaves_fit t c.leaves-all.ensures) c.any.ensures.ran in
    thin_by t c.leaves-all.ensures c.requires c.any.result a.some a.none
