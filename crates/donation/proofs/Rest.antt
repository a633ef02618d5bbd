-- Takers as a set, what each of them can take, and that what remains goes to the lowest-numbered.
-- Assumes nothing.
use mathlib.Core.Path.{◌≡◌, refl, sym, ap, ◌∙◌}
use mathlib.Core.Bool.{Bool, true, false, cond, not, ◌&&◌}
use mathlib.Core.List.{List}
use mathlib.Core.Logic.{dite, ◌≢◌}
use Prim.Native.Nat.{ℕ, zero, suc, ◌+◌, ◌-◌, ◌*◌, ◌^◌, ◌≤◌, ◌<◌}
use native.Mathlib.Nat.{add-zero, lt_of_not-le, le_of_suc-le-suc, mul-le-mul_right, div-le_of_le-mul}
use native.Mathlib.Decide.{dec_lt}
use native.Mathlib.Omega.{arith}
use lib.Dec.{eqb}
use lib.ListN.{get_or, set}
use borrow.Author.Tests.{eqb-true, eqb-false}
use Rattle.rules.specs.Numbers.{whole, nodes_most, leaf_most}
use Rattle.rules.specs.Words.{sum_to, any_to, table, has, set_of}
use Rattle.rules.specs.Units.{floor_of}
use Rattle.rules.specs.Plan.{is_taker, is_donation, sum_over, taken_of, is_lowest, remainder, share_given, donated}
use Rattle.rules.proofs.Laws.Bools.{true_not_false, and_both, and_not_left, and_not_right}
use Rattle.rules.proofs.Laws.Sums.{sum_cong, sum_in, any_cong, any_in, none_any}
use Rattle.rules.proofs.Laws.Tables.{table_at, table_cong, table_set}
use Rattle.rules.proofs.Laws.Sets.{has_none, has_set_of, set_small, some_leaf}
use Rattle.rules.proofs.Laws.Donation.{taker_active, taker_no_donor, is_taker_lem, one_taker, S, D, T, bases_split, share_parts, takes_fit, targets_lower}
use Rattle.sets.specs.Lowest.{Lowest}
use Rattle.donation.specs.Donation.{Donation, Parts}

nothing_more : (b : Bool) → ◌≡◌ {A = ℕ} (cond b 0 0) 0
nothing_more true = refl
nothing_more false = refl

-- a difference of two results is that of what they are
pub sub_same : {a b x y : ℕ} → a ≡ x → b ≡ y → a - b ≡ x - y
sub_same p q = rw (p, q)

-- a set with a member is not 0
member_pos : (s n : ℕ) → has s n ≡ true → 0 < s
member_pos zero n e = absurd (true_not_false e (has_none n))
member_pos (suc s) n e = omega arith

module _ (active donors : ℕ) where
  root_takes_nothing : has active 0 ≡ false → is_taker active donors 0 ≡ false
  unfolding is_taker
  root_takes_nothing e = and_not_left (has active 0) (not (has donors 0)) e

  -- there is a taker if the set of them is not 0
  some_taker : has active 0 ≡ false → any_to (is_taker active donors) leaf_most ≡ not (eqb (set_of (is_taker active donors)) 0)
  some_taker e =
      any_cong (is_taker active donors) (has (set_of (is_taker active donors))) leaf_most
      (λ n p q. sym (has_set_of (is_taker active donors) n (omega arith)))
      ∙ some_leaf (set_of (is_taker active donors)) (set_small (is_taker active donors) nodes_most)
      (has_set_of (is_taker active donors) 0 (omega arith) ∙ root_takes_nothing e)

  -- two sets of leaves that are not 0 are donors and takers
  pub both_some : (others : ℕ) → donors < 2 ^ nodes_most → has active 0 ≡ false → has donors 0 ≡ false → others ≡ set_of (is_taker active donors)
      → (not (eqb donors 0) && not (eqb others 0)) ≡ is_donation active donors
  unfolding is_donation
  both_some others fits e d same = rw (same, ← some_leaf donors fits d, ← some_taker e)

  -- ---- one leaf's share before what remains is handed out
  module _ {left kept : ℕ} {bases : List ℕ} (small : left ≤ whole) (p : Parts active donors kept bases) (n : ℕ) (node : n < nodes_most) where
    pub quotient_fits : (d a : Bool) → d ≡ has donors n → a ≡ has active n → d ≡ false → a ≡ true → floor_of (get_or bases n 0 * left) kept < 2 ^ 32
    quotient_fits d a e f i j =
        let h : get_or bases n 0 * left ≤ kept * left = mul-le-mul_right left (p.base_kept n node (is_taker_lem active donors n (sym f ∙ j) (sym e ∙ i))) in
        omega (arith, div-le_of_le-mul kept h, small)

  pub share_floored : (left kept : ℕ) (bases targets : List ℕ) (n r : ℕ) (d a : Bool) → d ≡ has donors n → a ≡ has active n
      → r ≡ cond d (get_or targets n 0) (cond a (floor_of (get_or bases n 0 * left) kept) 0)
      → r ≡ share_given active donors left kept 0 bases targets n
  unfolding share_given is_taker taken_of
  share_floored left kept bases targets n r d a e f h =
      h ∙ rw (e, f) (go (has donors n) (has active n) (is_lowest active donors n) (get_or targets n 0) (floor_of (get_or bases n 0 * left) kept))
    where
      go : (d a l : Bool) (x y : ℕ) → cond d x (cond a y 0) ≡ cond d x (cond (a && not d) (y + cond l 0 0) 0)
      go true a l x y = refl
      go false true l x y = rw (nothing_more l) (sym (add-zero y))
      go false false l x y = refl

  -- ---- the lowest member of the takers' set is the lowest taker
  module _ (others first : ℕ) (same : others ≡ set_of (is_taker active donors)) (least : Lowest others first) where
    first_takes : is_taker active donors first ≡ true
    first_takes = sym (has_set_of (is_taker active donors) first least.node) ∙ rw same at least.here

    none_below : (n : ℕ) → n < first → is_taker active donors n ≡ false
    none_below n l =
        let m : n < nodes_most = omega (arith, least.node) in
        sym (has_set_of (is_taker active donors) n m) ∙ rw same at (least.below n l)

    first_lowest : is_lowest active donors first ≡ true
    unfolding is_lowest
    first_lowest =
        and_both (is_taker active donors first) (not (any_to (is_taker active donors) (first - 1))) first_takes
        (rw (none_any (is_taker active donors) (first - 1) (λ n p q. none_below n (omega arith))))

    no_other_lowest : 0 < first → (n : ℕ) → n ≢ first → is_lowest active donors n ≡ false
    unfolding is_lowest
    no_other_lowest pos n apart =
        dite (dec_lt n first)
        (λ (l : n < first). and_not_left (is_taker active donors n) (not (any_to (is_taker active donors) (n - 1))) (none_below n l))
        (λ g. let m : first ≤ n = le_of_suc-le-suc (lt_of_not-le g) in
        let some : any_to (is_taker active donors) (n - 1) ≡ true = any_in (is_taker active donors) first (n - 1) pos (below n m apart) first_takes in
        and_not_right (is_taker active donors n) (not (any_to (is_taker active donors) (n - 1))) (rw some))
      where
        below : (n : ℕ) → first ≤ n → n ≢ first → first ≤ n - 1
        below n m apart = omega arith

-- ---- what remains, of the shares before it is handed out and the set of takers
pub record Handing (active donors left : ℕ) (bases targets shares : List ℕ) (others : ℕ) : Type 0 where
  pub within : sum_over (has others) shares ≤ left
  pub some : 0 < others
  pub most : {rest first : ℕ} → rest ≡ left - sum_over (has others) shares → Lowest others first → get_or shares first 0 + rest ≤ whole
  pub out : {rest first : ℕ} → rest ≡ left - sum_over (has others) shares → Lowest others first
      → set shares first (get_or shares first 0 + rest) ≡ donated active donors bases targets

-- ---- a donation: left is S - T and kept is S - D
module _ {active donors : ℕ} {bases targets : List ℕ} (d : Donation active donors bases targets) where
  taker : (n : ℕ) × (0 < n) × (n ≤ leaf_most) × (is_taker active donors n ≡ true)
  taker = one_taker active donors d.donates

  one_based : 0 < get_or bases taker.0 0
  one_based = d.based taker.0 (taker_active active donors taker.0 taker.3)

  pub bases_within : D donors bases ≤ S active bases
  bases_within = omega (arith, bases_split active donors bases targets d.within)

  pub targets_within : T donors targets ≤ S active bases
  targets_within = omega (arith, bases_within, targets_lower active donors bases targets d.within d.lower)

  module _ {left kept : ℕ} (el : left ≡ S active bases - T donors targets) (ek : kept ≡ S active bases - D donors bases) where
    kept_takers : kept ≡ sum_over (is_taker active donors) bases
    kept_takers = omega (arith, ek, bases_split active donors bases targets d.within)

    left_most : left ≤ whole
    left_most = omega (arith, el, d.sum_most)

    taker_leaf : (n : ℕ) → is_taker active donors n ≡ true → 0 < n
    taker_leaf zero e = absurd (true_not_false e (root_takes_nothing active donors d.root))
    taker_leaf (suc n) e = omega arith

    base_kept : (n : ℕ) → n < nodes_most → is_taker active donors n ≡ true → get_or bases n 0 ≤ kept
    unfolding sum_over
    base_kept n l e =
        let h : cond (is_taker active donors n) (get_or bases n 0) 0 ≤ sum_to (λ k. cond (is_taker active donors k) (get_or bases k 0) 0) leaf_most =
        sum_in (λ k. cond (is_taker active donors k) (get_or bases k 0) 0) n leaf_most (taker_leaf n e) (omega arith) in
        rw kept_takers (rw e at h)

    some_kept : 0 < kept
    some_kept = omega (arith, one_based, base_kept taker.0 (omega (arith, taker.2)) taker.3)

    pub quota : (left ≤ whole) × (0 < kept)
    quota = (left_most, some_kept)

    pub parts : Parts active donors kept bases
    parts = record { base_kept = base_kept }

    -- the shares before what remains is handed out
    abbrev floor_at : ℕ → ℕ
    floor_at = share_given active donors left kept 0 bases targets

    abbrev taken_at : ℕ → ℕ
    taken_at n = cond (is_taker active donors n) (taken_of left kept (get_or bases n 0)) 0

    floor_taken : (n : ℕ) → is_taker active donors n ≡ true → floor_at n ≡ taken_at n
    unfolding share_given
    floor_taken n e = rw (taker_no_donor active donors n e, e, nothing_more (is_lowest active donors n)) (add-zero (taken_of left kept (get_or bases n 0)))

    module _ (shares : List ℕ) (others : ℕ) (es : shares ≡ table floor_at) (same : others ≡ set_of (is_taker active donors)) where
      floors_sum : sum_over (has others) shares ≡ sum_to taken_at leaf_most
      unfolding sum_over
      floors_sum =
          sum_cong (λ n. cond (has others n) (get_or shares n 0) 0) taken_at leaf_most (λ n p q. each n (omega arith) (is_taker active donors n) refl)
        where
          each : (n : ℕ) → n < nodes_most → (b : Bool) → is_taker active donors n ≡ b → cond (has others n) (get_or shares n 0) 0 ≡ taken_at n
          each n l true e = rw (same, has_set_of (is_taker active donors) n l, e, es) (table_at floor_at n 0 l ∙ floor_taken n e ∙ rw e)
          each n l false e = rw (same, has_set_of (is_taker active donors) n l, e)

      floors_within : sum_over (has others) shares ≤ left
      floors_within =
          rw (floors_sum, kept_takers)
          (takes_fit active donors bases targets d.within left (rw kept_takers at some_kept))

      others_some : 0 < others
      others_some =
          member_pos others taker.0 (rw same (has_set_of (is_taker active donors) taker.0 (omega (arith, taker.2)) ∙ taker.3))

      module _ {rest first : ℕ} (er : rest ≡ left - sum_over (has others) shares) (least : Lowest others first) where
        takes : is_taker active donors first ≡ true
        takes = first_takes active donors others first same least

        first_share : get_or shares first 0 ≡ taken_at first
        first_share = rw es (table_at floor_at first 0 least.node) ∙ floor_taken first takes

        first_most : get_or shares first 0 + rest ≤ whole
        first_most =
            let h : taken_at first ≤ sum_to taken_at leaf_most = sum_in taken_at first leaf_most (taker_leaf first takes) (omega (arith, least.node)) in
            omega (arith, er, floors_sum, floors_within, first_share, left_most)

        rest_remains : rest ≡ remainder active donors left kept bases
        unfolding remainder
        rest_remains = er ∙ ap (λ (x : ℕ). left - x) floors_sum

        abbrev share_at : ℕ → ℕ
        share_at = share_given active donors left kept rest bases targets

        rest_apart : (n : ℕ) → share_at n ≡ floor_at n + cond (is_lowest active donors n) rest 0
        rest_apart n =
            omega (
              arith,
              share_parts active donors bases targets d.within left kept rest n,
              share_parts active donors bases targets d.within left kept 0 n,
              nothing_more (is_lowest active donors n),
            )

        first_gets : get_or shares first 0 + rest ≡ share_at first
        first_gets =
            rw (es, table_at floor_at first 0 least.node)
            (sym (rw (first_lowest active donors others first same least) at (rest_apart first)))

        others_get : (n : ℕ) → n ≢ first → floor_at n ≡ share_at n
        others_get n apart =
            sym (rw (no_other_lowest active donors others first same least (taker_leaf first takes) n apart) at (rest_apart n) ∙ add-zero (floor_at n))

        each_gets : (n : ℕ) (b : Bool) → eqb n first ≡ b → cond b (get_or shares first 0 + rest) (floor_at n) ≡ share_at n
        each_gets n true e = let i : n ≡ first = eqb-true n first e in rw i first_gets
        each_gets n false e = others_get n (eqb-false n first e)

        handed_out : set shares first (get_or shares first 0 + rest) ≡ donated active donors bases targets
        unfolding donated
        handed_out =
            rw (← el, ← ek, ← rest_remains)
            (ap (λ (l : List ℕ). set l first (get_or shares first 0 + rest)) es
            ∙ table_set floor_at first (get_or shares first 0 + rest) least.node
            ∙ table_cong _ share_at (λ n l. each_gets n (eqb n first) refl))

      pub handing : Handing active donors left bases targets shares others
      handing = record { within = floors_within; some = others_some; most = λ er least. first_most er least; out = λ er least. handed_out er least }
