-- A donation: it keeps the sum of the active shares, and leaves no non-donor below its base share.
-- Assumes nothing.
use Rattle.std.proofs.Math.Path.{◌≡◌, refl, sym, ap}
use Rattle.std.proofs.Common.{◌∙◌, le-div_iff_mul-le, div-mul-le_self, mul-le-mul_left, mul_comm}
use Rattle.std.specs.Prelude.{Bool, ◌&&◌, ◌||◌, List}
use Rattle.std.proofs.Math.Bool.{true, false, cond, not}
use Prim.Native.Nat.{ℕ, zero, suc, ◌+◌, ◌-◌, ◌*◌, ◌≤◌, ◌<◌}
use Rattle.std.proofs.Math.Nat.{le_of_mul-le-mul_right}
use native.Mathlib.Omega.{arith}
use Rattle.std.proofs.Math.ListN.{get_or}
use borrow.Author.Tests.{not-true}
use Rattle.rules.specs.Numbers.{leaf_most, nodes_most}
use Rattle.rules.specs.Words.{sum_to, any_to, has}
use Rattle.rules.specs.Units.{floor_of}
use Rattle.rules.specs.Plan.{is_taker, is_donation, sum_over, taken_of, is_lowest, remainder, share_given, donated}
use Rattle.rules.proofs.Laws.Bools.{and_left, and_right}
use Rattle.rules.proofs.Laws.Sums.{sum_cong, sum_le, sum_add, sum_floors, sum_in, any_in, any_out}
use Rattle.rules.proofs.Laws.Tables.{table_at}

-- ---- what goes to the lowest of whom p holds goes to one
abbrev lowest : (ℕ → Bool) → ℕ → Bool
lowest p n = p n && not (any_to p (n - 1))

-- x at the lowest, by whether there is one
lowest_gets : (p : ℕ → Bool) (x m : ℕ) → sum_to (λ n. cond (lowest p n) x 0) m ≡ cond (any_to p m) x 0
unfolding sum_to any_to
lowest_gets p x zero = refl
lowest_gets p x (suc m) = go (any_to p m) (p (suc m)) refl (lowest_gets p x m)
  where
    before : any_to p (suc m - 1) ≡ any_to p m
    before = let e : suc m - 1 ≡ m = omega arith in ap (any_to p) e

    go : (a b : Bool) → any_to p m ≡ a → sum_to (λ n. cond (lowest p n) x 0) m ≡ cond a x 0
        → sum_to (λ n. cond (lowest p n) x 0) m + cond (b && not (any_to p (suc m - 1))) x 0 ≡ cond (a || b) x 0
    go true true e h = rw (before, e) (omega (arith, h))
    go true false e h = omega (arith, h)
    go false true e h = rw (before, e) (omega (arith, h))
    go false false e h = omega (arith, h)

-- ---- a taker is active and no donor, and a donation has one of each
module _ (active donors : ℕ) where
  pub taker_active : (n : ℕ) → is_taker active donors n ≡ true → has active n ≡ true
  unfolding is_taker
  taker_active n e = and_left (has active n) (not (has donors n)) e

  pub taker_no_donor : (n : ℕ) → is_taker active donors n ≡ true → has donors n ≡ false
  unfolding is_taker
  taker_no_donor n e = not-true (has donors n) (and_right (has active n) (not (has donors n)) e)

  pub is_taker_lem : (n : ℕ) → has active n ≡ true → has donors n ≡ false → is_taker active donors n ≡ true
  unfolding is_taker
  is_taker_lem n e f = rw (e, f)

  module _ (donation : is_donation active donors ≡ true) where
    pub one_donor : (n : ℕ) × (0 < n) × (n ≤ leaf_most) × (has donors n ≡ true)
    unfolding is_donation
    one_donor = any_out (has donors) leaf_most (and_left (any_to (has donors) leaf_most) (any_to (is_taker active donors) leaf_most) donation)

    pub one_taker : (n : ℕ) × (0 < n) × (n ≤ leaf_most) × (is_taker active donors n ≡ true)
    unfolding is_donation
    one_taker = any_out (is_taker active donors) leaf_most (and_right (any_to (has donors) leaf_most) (any_to (is_taker active donors) leaf_most) donation)

-- ---- the sums of a donation, by their letters
abbrev pub S : ℕ → List ℕ → ℕ
S active bases = sum_over (has active) bases

abbrev pub D : ℕ → List ℕ → ℕ
D donors bases = sum_over (has donors) bases

abbrev pub T : ℕ → List ℕ → ℕ
T donors targets = sum_over (has donors) targets

-- what a donor gives, and what a taker takes, before what remains is handed out
abbrev given : ℕ → List ℕ → ℕ → ℕ
given donors targets n = cond (has donors n) (get_or targets n 0) 0

abbrev takes : ℕ → ℕ → ℕ → ℕ → List ℕ → ℕ → ℕ
takes active donors left kept bases n = cond (is_taker active donors n) (taken_of left kept (get_or bases n 0)) 0

-- what stands at a place of the donated shares
pub donated_at : (active donors : ℕ) (bases targets : List ℕ) (n : ℕ) → n < nodes_most
    → get_or (donated active donors bases targets) n 0
    ≡ share_given active donors (S active bases - T donors targets) (S active bases - D donors bases)
    (remainder active donors (S active bases - T donors targets) (S active bases - D donors bases) bases) bases targets n
unfolding donated
donated_at active donors bases targets n l = table_at {A = ℕ} _ n 0 l

pub donor_gets_its_target : (active donors : ℕ) (bases targets : List ℕ) (n : ℕ) → n < nodes_most → has donors n ≡ true
    → get_or (donated active donors bases targets) n 0 ≡ get_or targets n 0
unfolding share_given
donor_gets_its_target active donors bases targets n l e = donated_at active donors bases targets n l ∙ rw e

pub idle_gets_nothing : (active donors : ℕ) (bases targets : List ℕ) (n : ℕ) → n < nodes_most → has donors n ≡ false → has active n ≡ false
    → get_or (donated active donors bases targets) n 0 ≡ 0
unfolding share_given is_taker
idle_gets_nothing active donors bases targets n l e f = donated_at active donors bases targets n l ∙ rw (e, f)

module _ (active donors : ℕ) (bases targets : List ℕ) (within : (n : ℕ) → has donors n ≡ true → has active n ≡ true) where
  -- an active leaf is a donor or a taker
  pub bases_split : S active bases ≡ D donors bases + sum_over (is_taker active donors) bases
  unfolding sum_over is_taker
  bases_split =
      sum_cong _ _ leaf_most (λ n p q. go n (has active n) (has donors n) refl refl)
      ∙ sum_add (λ n. cond (has donors n) (get_or bases n 0) 0) (λ n. cond (has active n && not (has donors n)) (get_or bases n 0) 0) leaf_most
    where
      go : (n : ℕ) (a b : Bool) → has active n ≡ a → has donors n ≡ b
          → cond a (get_or bases n 0) 0 ≡ cond b (get_or bases n 0) 0 + cond (a && not b) (get_or bases n 0) 0
      go n true true i j = omega arith
      go n true false i j = omega arith
      go n false true i j = let z : ◌≡◌ {A = Bool} true false = sym (within n j) ∙ i in let y : ◌≡◌ {A = ℕ} 0 1 = cc in omega arith
      go n false false i j = omega arith

  -- a share is a target, or what is taken and perhaps the rest
  pub share_parts : (left kept rest n : ℕ)
      → share_given active donors left kept rest bases targets n
      ≡ given donors targets n + takes active donors left kept bases n + cond (is_lowest active donors n) rest 0
  unfolding share_given is_lowest is_taker
  share_parts left kept rest n = go (has donors n) (has active n) (not (any_to (is_taker active donors) (n - 1)))
    where
      go : (d a l : Bool)
          → cond d (get_or targets n 0) (cond (a && not d) (taken_of left kept (get_or bases n 0) + cond ((a && not d) && l) rest 0) 0)
          ≡ cond d (get_or targets n 0) 0 + cond (a && not d) (taken_of left kept (get_or bases n 0)) 0 + cond ((a && not d) && l) rest 0
      go true true l = omega arith
      go true false l = omega arith
      go false true l = omega arith
      go false false l = omega arith

  shares_parts : (left kept rest : ℕ)
      → sum_to (share_given active donors left kept rest bases targets) leaf_most
      ≡ T donors targets + sum_to (takes active donors left kept bases) leaf_most + cond (any_to (is_taker active donors) leaf_most) rest 0
  unfolding sum_over is_lowest
  shares_parts left kept rest =
      sum_cong _ _ leaf_most (λ n p q. share_parts left kept rest n)
      ∙ sum_add (λ n. given donors targets n + takes active donors left kept bases n) (λ n. cond (is_lowest active donors n) rest 0) leaf_most
      ∙ ap (λ (x : ℕ). x + sum_to (λ n. cond (is_lowest active donors n) rest 0) leaf_most)
      (sum_add (given donors targets) (takes active donors left kept bases) leaf_most)
      ∙ ap (λ (x : ℕ). T donors targets + sum_to (takes active donors left kept bases) leaf_most + x)
      (lowest_gets (is_taker active donors) rest leaf_most)

  -- the takers' floors are at most what is there to take
  pub takes_fit : (left : ℕ) → 0 < sum_over (is_taker active donors) bases
      → sum_to (takes active donors left (sum_over (is_taker active donors) bases) bases) leaf_most ≤ left
  unfolding sum_over taken_of
  takes_fit left pos =
      let kept : ℕ = sum_to (λ n. cond (is_taker active donors n) (get_or bases n 0) 0) leaf_most in
      le_of_mul-le-mul_right
      (sum_floors (takes active donors left kept bases) (λ n. cond (is_taker active donors n) (get_or bases n 0) 0) left kept leaf_most
      (λ n p q. go kept n (is_taker active donors n)))
      pos
    where
      go : (kept n : ℕ) (b : Bool) → cond b (floor_of (get_or bases n 0 * left) kept) 0 * kept ≤ left * cond b (get_or bases n 0) 0
      go kept n true = rw (mul_comm left (get_or bases n 0)) (div-mul-le_self (get_or bases n 0 * left) kept)
      go kept n false = omega arith

  module _ (lower : (n : ℕ) → has donors n ≡ true → get_or targets n 0 ≤ get_or bases n 0) where
    pub targets_lower : T donors targets ≤ D donors bases
    unfolding sum_over
    targets_lower = sum_le _ _ leaf_most (λ n p q. go n (has donors n) refl)
      where
        go : (n : ℕ) (b : Bool) → has donors n ≡ b → cond b (get_or targets n 0) 0 ≤ cond b (get_or bases n 0) 0
        go n true e = lower n e
        go n false e = omega arith

    -- what a donation hands out, where a taker has a base share
    module _ (n : ℕ) (first : 0 < n) (leaf : n ≤ leaf_most) (taker : is_taker active donors n ≡ true) (pos : 0 < get_or bases n 0) where
      pub kept_pos : 0 < sum_over (is_taker active donors) bases
      unfolding sum_over
      kept_pos =
          let h : cond (is_taker active donors n) (get_or bases n 0) 0 ≤ sum_to (λ k. cond (is_taker active donors k) (get_or bases k 0) 0) leaf_most =
          sum_in (λ k. cond (is_taker active donors k) (get_or bases k 0) 0) n leaf_most first leaf in
          omega (arith, rw taker at h)

      pub kept_is : S active bases - D donors bases ≡ sum_over (is_taker active donors) bases
      kept_is = omega (arith, bases_split)

      pub donation_keeps_the_sum : sum_to (λ k. get_or (donated active donors bases targets) k 0) leaf_most ≡ S active bases
      unfolding remainder
      donation_keeps_the_sum =
          let left : ℕ = S active bases - T donors targets in
          let kept : ℕ = S active bases - D donors bases in
          let floors : ℕ = sum_to (takes active donors left kept bases) leaf_most in
          let some : any_to (is_taker active donors) leaf_most ≡ true = any_in (is_taker active donors) n leaf_most first leaf taker in
          let fit : floors ≤ left = rw kept_is (takes_fit left kept_pos) in
          let parts : sum_to (share_given active donors left kept (left - floors) bases targets) leaf_most ≡ T donors targets + floors + (left - floors) =
          rw some at (shares_parts left kept (left - floors)) in
          sum_cong _ _ leaf_most (λ k p q. donated_at active donors bases targets k (omega arith))
          ∙ parts
          ∙ omega (arith, targets_lower, bases_split)

      pub no_taker_below_base : (k : ℕ) → k < nodes_most → is_taker active donors k ≡ true
          → get_or bases k 0 ≤ get_or (donated active donors bases targets) k 0
      unfolding taken_of
      no_taker_below_base k l e =
          let left : ℕ = S active bases - T donors targets in
          let kept : ℕ = S active bases - D donors bases in
          let rest : ℕ = remainder active donors left kept bases in
          let pos : 0 < kept = rw kept_is kept_pos in
          let more : get_or bases k 0 ≤ floor_of (get_or bases k 0 * left) kept =
          (le-div_iff_mul-le pos).1 (mul-le-mul_left (get_or bases k 0) (omega (arith, targets_lower))) in
          let taken : get_or bases k 0 ≤ takes active donors left kept bases k = rw e more in
          rw (donated_at active donors bases targets k l, share_parts left kept rest k) (omega arith)
