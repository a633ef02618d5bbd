-- The fields of each kind, at their places in a body: what a layout says of its bytes.
-- Assumes nothing.
use mathlib.Core.Path.{◌≡◌, refl, ◌∙◌}
use mathlib.Core.List.{List, [], ◌∷◌}
use Prim.Native.Nat.{ℕ, zero, suc, ◌+◌, ◌-◌, ◌*◌, ◌^◌, ◌≤◌, ◌<◌}
use native.Mathlib.Nat.{pow-succ', pow-zero}
use native.Mathlib.Omega.{arith}
use lib.ListN.{length, get_or, take, drop, length-take, length-drop}
use lib.Seq.{drop-drop}
use Rattle.std.proofs.lemmas.List.{take_all}
use Rattle.std.specs.Int.{Width, byte_len, byte_worth, sum_through, from_le_bytes}
use Rattle.rules.specs.Trace.{number_of, layout, fields_from, rates_of, bio_of}
use Rattle.rules.proofs.Laws.Trace.{number_more}
use Rattle.rules.specs.declared.cost.Rates.{Rates}
use Rattle.rules.specs.declared.cost.Bio.{Bio}

abbrev pub number_at : List ℕ → ℕ → ℕ → ℕ
number_at bytes at width = number_of (take width (drop at bytes))

-- a byte is a number of one byte
pub byte_number : (l : List ℕ) (at : ℕ) → at < length l → get_or l at 0 ≡ number_at l at 1
unfolding number_of
byte_number l at h = omega (arith, number_more l at 0 h)

-- one byte more behind a number's bytes, which counts most
number_snoc : (bs : List ℕ) (k : ℕ) → k < length bs → number_of (take (suc k) bs) ≡ number_of (take k bs) + get_or bs k 0 * 256 ^ k
unfolding number_of
number_snoc [] k h = absurd (omega arith)
number_snoc (b ∷ bs) zero h = rw pow-zero (omega arith)
number_snoc (b ∷ bs) (suc k) h =
    let before = number_snoc bs k (omega arith) in
    rw (before, pow-succ') (omega arith)

-- the sum that std makes of so many bytes
sum_is_number : (bs : List ℕ) (k : ℕ) → k < length bs → sum_through (λ i. byte_worth i (get_or bs i 0)) k ≡ number_of (take (suc k) bs)
unfolding number_of
sum_is_number bs zero h = rw (number_snoc bs 0 h, pow-zero) (omega arith)
sum_is_number bs (suc k) h = rw (number_snoc bs (suc k) h, sum_is_number bs k (omega arith)) refl

-- what `from_le_bytes` makes of the bytes at a place
pub le_at : (w : Width) (l : List ℕ) (at : ℕ) {bs : List ℕ} {n : ℕ} → 0 < byte_len w → at + byte_len w ≤ length l
    → bs ≡ take (byte_len w) (drop at l) → n ≡ from_le_bytes w bs → n ≡ number_at l at (byte_len w)
le_at w l at {bs} some room e is =
    let long : length bs ≡ byte_len w = rw e (simp (length-take, length-drop) (omega arith)) in
    let width : suc (byte_len w - 1) ≡ byte_len w = omega arith in
    let all : take (byte_len w) bs ≡ bs = take_all (byte_len w) bs (omega arith) in
    is ∙ sum_is_number bs (byte_len w - 1) (omega arith) ∙ rw (width, all, e) refl

module _ (l : List ℕ) where
  -- a node and a weight: kinds 1 and 8 have this one layout
  pub weighed_fields : {w : ℕ} → 0 < length l → w ≡ number_at l 1 2 → fields_from (1 ∷ 2 ∷ []) l ≡ get_or l 0 0 ∷ w ∷ []
  unfolding fields_from
  weighed_fields h e = rw (byte_number l 0 h, e)

  pub rates_fields : (r : Rates) → r.rbps ≡ number_at l 0 8 → r.rseqiops ≡ number_at l 8 8 → r.rrandiops ≡ number_at l 16 8
      → r.wbps ≡ number_at l 24 8 → r.wseqiops ≡ number_at l 32 8 → r.wrandiops ≡ number_at l 40 8
      → r ≡ rates_of (fields_from (layout 2) l)
  unfolding layout fields_from
  rates_fields r e₁ e₂ e₃ e₄ e₅ e₆ = simp (drop-drop, ← e₁, ← e₂, ← e₃, ← e₄, ← e₅, ← e₆)

  pub bio_fields : (b : Bio) → b.node ≡ number_at l 0 1 → b.flags ≡ number_at l 1 1 → b.id ≡ number_at l 2 4
      → b.sector ≡ number_at l 6 8 → b.bytes ≡ number_at l 14 4 → b ≡ bio_of (fields_from (layout 4) l)
  unfolding layout fields_from
  bio_fields b e₁ e₂ e₃ e₄ e₅ = simp (drop-drop, ← e₁, ← e₂, ← e₃, ← e₄, ← e₅)
