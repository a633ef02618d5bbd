-- What the turns of the loops rest on: a set that is built node by node, and how large a target is.
-- Assumes nothing.
use mathlib.Core.Path.{◌≡◌, sym, ap, ◌∙◌}
use mathlib.Core.Bool.{Bool, true, false, not, ◌&&◌, ◌||◌, and-true}
use mathlib.Core.Logic.{⊎_elim, dite, ◌≢◌}
use Prim.Native.Nat.{ℕ, ◌+◌, ◌^◌, ◌≤◌, ◌<◌}
use native.Mathlib.Nat.{add-zero, lt_of_not-le, le_of_suc-le-suc, lt_of_lt_of_le, eq-or-lt_of_le}
use native.Mathlib.Numerals.{add-one}
use native.Mathlib.Decide.{ℕ_discrete, dec_lt}
use native.Mathlib.Omega.{arith}
use lib.Dec.{eqb, leb}
use borrow.Author.Tests.{le-leb, lt-leb, eq-eqb, ne_eqb}
use Rattle.rules.proofs.Laws.Bools.{and_not_right, or_right, or_neither}
use lib.Pow.{pow_mono}
use Rattle.rules.specs.Numbers.{whole, nodes_most}
use Rattle.rules.specs.Words.{has, set_to, set_of}
use Rattle.rules.specs.Plan.{used_share, target_of}
use Rattle.rules.proofs.Laws.Sets.{set_small, set_cong, set_back, set_ext, has_set, has_past, has_set_of, set_of_fits, insert_here, insert_others}
use Rattle.rules.proofs.Laws.Units.{ceil_least}
use lib.ListN.{length, get_or}
use Rattle.rules.specs.Budget.{empty_row, empty_queue}
use Rattle.rules.specs.Plan.{forgiven, stays}
use Rattle.rules.proofs.Laws.Tables.{get_D_inside, table_at, table_length}
use Rattle.rules.specs.declared.budget.Row.{Row}
use Rattle.rules.specs.declared.budget.Queue.{Queue}
use Rattle.leaf.specs.Alone.{length_only, stays_with, is_donor_with, donor_by_count}
use Rattle.leaf.proofs.Sums.{sum_rest}
use Rattle.plan.specs.Steps.{usage, usage_of, gives_at, keeps_at, left_at, bare_queues}
use Rattle.std.specs.Prelude.{sum_by}
use lib.ListN.{take, drop}
use mathlib.Core.List.{List}
use Rattle.rules.specs.declared.units.Abs.{Abs}
use Rattle.rules.specs.declared.units.Virt.{Virt}

-- a node is before n, n itself, or behind it
by_place : {P : Type 0} (k n : ℕ) → (k < n → P) → (k ≡ n → P) → (n < k → P) → P
by_place k n before here behind =
    dite (dec_lt k n) before
    (λ g. let m : n ≤ k = le_of_suc-le-suc (lt_of_not-le g) in ⊎_elim (λ (i : n ≡ k). here (sym i)) behind (eq-or-lt_of_le m))

module _ (p : ℕ → Bool) (s n : ℕ) (e : s ≡ set_to p n) where
  -- a node that is left out
  pub left_out : p n ≡ false → s ≡ set_to p (n + 1)
  unfolding set_to
  left_out f = rw (add-one n, f) (e ∙ sym (add-zero (set_to p n)))

  -- a node that is put in
  module _ (node : n < nodes_most) (f : p n ≡ true) where
    each : (k : ℕ) → k < nodes_most → has (set_of (λ j. has s j || eqb j n)) k ≡ has (set_to p (n + 1)) k
    each k l =
        by_place k n
        (λ (b : k < n). insert_others s n k l (λ z. omega arith) ∙ rw e (has_set p n k b ∙ sym (has_set p (n + 1) k (omega arith))))
        (λ (i : k ≡ n). insert_here s n k l i ∙ sym (has_set p (n + 1) k (omega arith) ∙ ap p i ∙ f))
        (λ (a : n < k). insert_others s n k l (λ z. omega arith) ∙ rw e (has_past p n k (omega arith) ∙ sym (has_past p (n + 1) k (omega arith))))

    pub put_in : set_of (λ k. has s k || eqb k n) ≡ set_to p (n + 1)
    put_in =
        let last : n + 1 ≤ nodes_most = omega arith in
        set_ext (set_of (λ k. has s k || eqb k n)) (set_to p (n + 1)) nodes_most (set_of_fits (λ k. has s k || eqb k n))
        (lt_of_lt_of_le (set_small p (n + 1)) (pow_mono last)) each

-- ---- nodes cleared one by one
module _ (active : ℕ) (p : ℕ → Bool) where
  pub none_cleared : active < 2 ^ nodes_most → active ≡ set_of (left_at active p 0)
  none_cleared h =
      sym (set_back active nodes_most h)
      ∙ set_cong (has active) (left_at active p 0) nodes_most (λ k l. rw (le-leb 0 k (omega arith), and-true))

  pub all_cleared : set_of (left_at active p nodes_most) ≡ set_of (λ k. has active k && p k)
  all_cleared = set_cong (left_at active p nodes_most) (λ k. has active k && p k) nodes_most (λ k l. rw (lt-leb nodes_most k l))

  module _ (s n : ℕ) (e : s ≡ set_of (left_at active p n)) where
    -- of every other node it is the same
    others : (k : ℕ) → k ≢ n → left_at active p n k ≡ left_at active p (n + 1) k
    others k apart =
        by_place k n
        (λ (l : k < n). rw (lt-leb n k l, lt-leb (n + 1) k (omega arith)))
        (λ (i : k ≡ n). absurd (apart i))
        (λ (l : n < k). rw (le-leb n k (omega arith), le-leb (n + 1) k (omega arith)))

    -- a node that is left
    pub left_in : p n ≡ true → s ≡ set_of (left_at active p (n + 1))
    left_in f = e ∙ set_cong (left_at active p n) (left_at active p (n + 1)) nodes_most (λ k l. dite (ℕ_discrete k n) (here k) (others k))
      where
        here : (k : ℕ) → k ≡ n → left_at active p n k ≡ left_at active p (n + 1) k
        here k i = rw (i, or_right (leb n n) (p n) f, or_right (leb (n + 1) n) (p n) f)

    -- a node that is cleared
    pub taken_out : p n ≡ false → set_of (λ k. has s k && not (eqb k n)) ≡ set_of (left_at active p (n + 1))
    taken_out f = set_cong (λ k. has s k && not (eqb k n)) (left_at active p (n + 1)) nodes_most (λ k l. dite (ℕ_discrete k n) (here k) (other k l))
      where
        here : (k : ℕ) → k ≡ n → (has s k && not (eqb k n)) ≡ left_at active p (n + 1) k
        here k i =
            and_not_right (has s k) (not (eqb k n)) (rw (eq-eqb k n i))
            ∙ sym (and_not_right (has active k) (leb (n + 1) k || p k) (rw i (or_neither (leb (n + 1) n) (p n) (lt-leb (n + 1) n (omega arith)) f)))

        other : (k : ℕ) → k < nodes_most → k ≢ n → (has s k && not (eqb k n)) ≡ left_at active p (n + 1) k
        other k l apart = rw (ne_eqb k n apart, and-true, e) (has_set_of (left_at active p n) k l ∙ others k apart)

-- ---- whether a node is inside, by the tests that the loops make: an idle leaf neither stays nor gives
pub idle_goes : (active n : ℕ) (x : Bool) {b : Bool} → b ≡ has active n → b ≡ false → (has active n && x) ≡ false
idle_goes active n x e f = rw (sym e ∙ f)

-- whether a node stays, by what the loop makes of its row and its queue, which is read inside the list
pub keeps_told : (quiet : Bool) (rows : List Row) (queues : List Queue) {n : ℕ} → length queues ≡ nodes_most → n < nodes_most
    → {row : Row} {told : Bool} → row ≡ forgiven quiet (get_or rows n empty_row)
    → told ≡ stays_with row (get_or queues n (length_only 0)).len → keeps_at quiet rows queues n ≡ told
keeps_told quiet rows queues {n} full node {row} r t =
    sym (t ∙ ap (λ (q : Queue). stays row q) (get_D_inside queues n (length_only 0) empty_queue (rw full node)) ∙ ap (λ (r : Row). stays r (get_or queues n empty_queue)) r)

module _ (active : ℕ) (quiet : Bool) (rows : List Row) (queues : List Queue) {n : ℕ} (full : length queues ≡ nodes_most) (node : n < nodes_most)
    {b : Bool} (e : b ≡ has active n) (on : b ≡ true) where
  -- the queue that the code reads: inside the list, whatever stands past its end
  queue_here : get_or queues n (length_only 0) ≡ get_or queues n empty_queue
  queue_here = get_D_inside queues n (length_only 0) empty_queue (rw full node)

  pub gives_told : (bases targets : List ℕ) {target base : ℕ} {row : Row} {told : Bool} → target ≡ get_or targets n 0 → base ≡ get_or bases n 0
      → row ≡ forgiven quiet (get_or rows n empty_row)
      → told ≡ is_donor_with target base row (get_or queues n (length_only 0)).len → gives_at active quiet bases targets rows queues n ≡ told
  gives_told bases targets {target = target} {base = base} {row = row} a b r t =
      rw (sym e ∙ on)
      (sym (t ∙ sym (donor_by_count target base row (get_or queues n (length_only 0))) ∙ rw (queue_here, a, b, r)))

-- ---- the same by how many wait
module _ (waiting : List ℕ) where
  pub bare_len : (n : ℕ) (d : Queue) → n < nodes_most → get_or waiting n 0 ≡ (get_or (bare_queues waiting) n d).len
  bare_len n d node = sym (ap (λ (q : Queue). q.len) (table_at (λ (k : ℕ). length_only (get_or waiting k 0)) n d node))

  bare_full : length (bare_queues waiting) ≡ nodes_most
  bare_full = table_length (λ (k : ℕ). length_only (get_or waiting k 0))

  pub keeps_counted : (quiet : Bool) (rows : List Row) {n : ℕ} → n < nodes_most → {row : Row} {told : Bool} → row ≡ forgiven quiet (get_or rows n empty_row)
      → told ≡ stays_with row (get_or waiting n 0) → keeps_at quiet rows (bare_queues waiting) n ≡ told
  keeps_counted quiet rows {n} node {row} r t =
      keeps_told quiet rows (bare_queues waiting) bare_full node r (t ∙ ap (stays_with row) (bare_len n (length_only 0) node))

  pub gives_counted : (active : ℕ) (quiet : Bool) (rows : List Row) {n : ℕ} → n < nodes_most → {b : Bool} → b ≡ has active n → b ≡ true
      → (bases targets : List ℕ) {target base : ℕ} {row : Row} {told : Bool} → target ≡ get_or targets n 0 → base ≡ get_or bases n 0
      → row ≡ forgiven quiet (get_or rows n empty_row)
      → told ≡ is_donor_with target base row (get_or waiting n 0) → gives_at active quiet bases targets rows (bare_queues waiting) n ≡ told
  gives_counted active quiet rows {n} node e on bases targets {target} {base} {row} x y r t =
      gives_told active quiet rows (bare_queues waiting) bare_full node e on bases targets x y r
      (t ∙ ap (is_donor_with target base row) (bare_len n (length_only 0) node))

-- ---- the usage of all leaves is that of all rows but the first
pub usage_sums : (rows : List Row) → length rows ≡ nodes_most → sum_by usage (take 63 (drop 1 rows)) ≡ (usage_of rows).0
usage_sums rows full = sum_rest usage rows empty_row 63 (omega arith)

-- a leaf used the whole share at most, and its target is a quarter more
used_most : (since : Virt) (usage : Abs) → 0 < since.0 → used_share since usage ≤ whole
unfolding used_share
used_most since usage some = ceil_least _ since.0 whole some (omega arith)

pub target_fits : (since : Virt) (usage : Abs) → 0 < since.0 → target_of since usage < 2 ^ 32
unfolding target_of
target_fits since usage some = omega (arith, used_most since usage some)
