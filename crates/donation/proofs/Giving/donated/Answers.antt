-- `donation::donated` meets its contract: the sums are those of the rules, and the one place set is the lowest taker's.
-- Assumes nothing.
use Rattle.std.proofs.Common.{◌≡◌, refl, ℕ, ◌-◌, List, arith}
use Rattle.rules.specs.Words.{set_of, table}
use Rattle.rules.specs.Plan.{is_taker, share_given}
use Rattle.rules.proofs.Laws.Donation.{S, D, T}
use Rattle.donation.specs.Donation.{Donation}
use Rattle.donation.proofs.Rest.{sub_same, bases_within, targets_within, quota, parts, Handing, handing}
use Rattle.donation.proofs.Giving.donated.Goals as goal

-- what remains, of the three sums
hand : {active donors sum gone own : ℕ} {bases targets : List ℕ} → Donation active donors bases targets
    → sum ≡ S active bases → gone ≡ T donors targets → own ≡ D donors bases → (shares : List ℕ) (others : ℕ)
    → shares ≡ table (share_given active donors (sum - gone) (sum - own) 0 bases targets) → others ≡ set_of (is_taker active donors)
    → Handing active donors (sum - gone) bases targets shares others
hand d s t o = handing d (sub_same s t) (sub_same s o)

pub returns : goal.returns
returns c =
    let h = hand c.requires c.sum_over-sum.ensures c.sum_over.ensures c.sum_over-2.ensures _ _ c.floors-shares.ensures c.takers-others.ensures in
    h.out (sub_same refl c.sum_over-3.ensures) c.lowest-first.ensures

pub overflow_sub-left : goal.overflow_sub-left
overflow_sub-left c = omega (arith, c.sum_over.ensures, c.sum_over-sum.ensures, targets_within c.requires)

pub overflow_sub-kept : goal.overflow_sub-kept
overflow_sub-kept c = omega (arith, c.sum_over-2.ensures, c.sum_over-sum.ensures, bases_within c.requires)

pub invariant_of-floors : goal.invariant_of-floors
invariant_of-floors c =
    let s = c.sum_over-sum.ensures in
    let q = quota c.requires (sub_same s c.sum_over.ensures) (sub_same s c.sum_over-2.ensures) in
    record { left_most = q.0; some_kept = q.1 }

pub floors-shares-requires : goal.floors-shares-requires
floors-shares-requires c =
    let s = c.sum_over-sum.ensures in
    parts c.requires (sub_same s c.sum_over.ensures) (sub_same s c.sum_over-2.ensures)

pub overflow_sub-rest : goal.overflow_sub-rest
overflow_sub-rest c =
    let h = hand c.requires c.sum_over-sum.ensures c.sum_over.ensures c.sum_over-2.ensures _ _ c.floors-shares.ensures c.takers-others.ensures in
    omega (arith, h.within, c.sum_over-3.ensures)

pub lowest-first-requires : goal.lowest-first-requires
lowest-first-requires c =
    (hand c.requires c.sum_over-sum.ensures c.sum_over.ensures c.sum_over-2.ensures _ _ c.floors-shares.ensures c.takers-others.ensures).some

pub overflow_add-shares : goal.overflow_add-shares
overflow_add-shares c =
    let h = hand c.requires c.sum_over-sum.ensures c.sum_over.ensures c.sum_over-2.ensures _ _ c.floors-shares.ensures c.takers-others.ensures in
    let most = h.most (sub_same refl c.sum_over-3.ensures) c.lowest-first.ensures in
    omega (arith, most)
