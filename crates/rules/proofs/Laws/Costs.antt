-- Laws of costs: what a priced model keeps, how small and how large a cost can be, and when a price or a cost is refused.
-- Assumes nothing.
use Rattle.std.specs.Prelude.{◌≡◌, ◌↔◌, ◌⊎◌, Bool, cond, not, ◌&&◌, ℕ, ◌+◌, ◌*◌, ◌%◌, ◌≤◌, ◌<◌, eqb, leb, ltb, Err, Ok}
use Rattle.std.proofs.Math.Path.{refl, ap}
use Rattle.std.proofs.Common.{sym, ⊎_elim, mul-le-mul_left, arith}
use Rattle.std.proofs.Math.Bool.{true, false}
use Rattle.std.proofs.Math.Nat.{mul-le-mul}
use borrow.Author.Tests.{ltb-true, ltb-false, lt-ltb, le-ltb, eqb-true, eq-eqb}
use Rattle.rules.specs.Numbers.{bps_least, bps_most, iops_least, iops_most, second, page_bytes, sector_bytes, bytes_most, sector_most, near_most, cost_most, end_most}
use Rattle.rules.specs.Units.{ceil_of}
use Rattle.rules.specs.Cost.{bps_in_range, iops_in_range, rates_in_range, page_cost, base_cost, price_of, priced, is_write, is_flush, bytes_in_range, bio_in_range, is_near, is_sequential, end_of, cost_at, data_cost, cost_of}
use Rattle.rules.specs.Refusals.{rate_checks, cost_checks}
use Rattle.rules.specs.Entries.{pricing_by, pricing, costing_by, costing}
use Rattle.rules.specs.Invariant.{SoundPrice, SoundModel}
use Rattle.rules.proofs.Laws.Bools.{never, true_not_false, and_not_left, and_swap, exactly, exactly_pair, exactly_both, exactly_either, exactly_not, at_most, between}
use Rattle.rules.proofs.Laws.Units.{ceil_enough, ceil_least}
use Rattle.rules.specs.declared.units.Abs.{Abs}
use Rattle.rules.specs.declared.cost.Rates.{Rates}
use Rattle.rules.specs.declared.cost.Price.{Price}
use Rattle.rules.specs.declared.cost.Model.{Model}
use Rattle.rules.specs.declared.cost.Bio.{Bio}
use Rattle.rules.specs.declared.budget.Row.{Row}
use Rattle.rules.specs.declared.refusals.Refusal.TheVariants.{BadRate, BadBio, TooDear}
use Rattle.rules.specs.Results.{Costing}

-- ---- the ranges, as facts on numbers
pub record RatesInRange (r : Rates) : Type 0 where
  pub read_bytes : (bps_least ≤ r.rbps) × (r.rbps ≤ bps_most)
  pub read_sequential : (iops_least ≤ r.rseqiops) × (r.rseqiops ≤ iops_most)
  pub read_random : (iops_least ≤ r.rrandiops) × (r.rrandiops ≤ iops_most)
  pub write_bytes : (bps_least ≤ r.wbps) × (r.wbps ≤ bps_most)
  pub write_sequential : (iops_least ≤ r.wseqiops) × (r.wseqiops ≤ iops_most)
  pub write_random : (iops_least ≤ r.wrandiops) × (r.wrandiops ≤ iops_most)

-- request Four: "A bio with the write flag and 0 bytes"
pub record Flush (b : Bio) : Type 0 where
  pub write : b.flags % 2 ≡ 1
  pub empty : b.bytes ≡ 0

pub record BytesInRange (bytes : ℕ) : Type 0 where
  pub fit : (sector_bytes ≤ bytes) × (bytes ≤ bytes_most)
  pub whole : bytes % sector_bytes ≡ 0

pub record BioInRange (b : Bio) : Type 0 where
  pub bytes_fit : Flush b ⊎ BytesInRange b.bytes
  pub sector_fits : b.sector ≤ sector_most
  pub flags_known : b.flags < 4

bps_range : (n : ℕ) → (bps_in_range n ≡ true) ↔ ((bps_least ≤ n) × (n ≤ bps_most))
bps_range n = between bps_least n bps_most

iops_range : (n : ℕ) → (iops_in_range n ≡ true) ↔ ((iops_least ≤ n) × (n ≤ iops_most))
iops_range n = between iops_least n iops_most

pub rates_in_range_lem : (r : Rates) → (rates_in_range r ≡ true) ↔ RatesInRange r
unfolding rates_in_range
rates_in_range_lem r =
    let a = exactly_both _ _ (bps_range r.rbps) (iops_range r.rseqiops) in
    let b = exactly_both _ _ a (iops_range r.rrandiops) in
    let c = exactly_both _ _ b (bps_range r.wbps) in
    let d = exactly_both _ _ c (iops_range r.wseqiops) in
    let e = exactly_both _ _ d (iops_range r.wrandiops) in (
      λ t. let w = e.0 t in record {
        read_bytes = w.0.0.0.0.0;
        read_sequential = w.0.0.0.0.1;
        read_random = w.0.0.0.1;
        write_bytes = w.0.0.1;
        write_sequential = w.0.1;
        write_random = w.1;
      },
      λ w. e.1 (((((w.read_bytes, w.read_sequential), w.read_random), w.write_bytes), w.write_sequential), w.write_random),
    )

pub flush_exactly_when : (b : Bio) → (is_flush b ≡ true) ↔ Flush b
unfolding is_flush
flush_exactly_when b =
    let both = exactly_both (is_write b) (eqb b.bytes 0) (eqb-true _ _, eq-eqb _ _) (eqb-true _ _, eq-eqb _ _) in
    exactly both (λ w. record { write = w.0; empty = w.1 }, λ w. (w.write, w.empty))

pub bytes_in_range_lem : (bytes : ℕ) → (bytes_in_range bytes ≡ true) ↔ BytesInRange bytes
bytes_in_range_lem bytes =
    let whole : (eqb (bytes % sector_bytes) 0 ≡ true) ↔ (bytes % sector_bytes ≡ 0) = (eqb-true _ _, eq-eqb _ _) in
    exactly (exactly_both _ _ (between sector_bytes bytes bytes_most) whole)
    (λ w. record { fit = w.0; whole = w.1 }, λ w. (w.fit, w.whole))

pub bio_in_range_lem : (b : Bio) → (bio_in_range b ≡ true) ↔ BioInRange b
bio_in_range_lem b =
    let known : (ltb b.flags 4 ≡ true) ↔ (b.flags < 4) = (ltb-true _ _, lt-ltb _ _) in
    let a = exactly_either (is_flush b) (bytes_in_range b.bytes) (flush_exactly_when b) (bytes_in_range_lem b.bytes) in
    let c = exactly_both _ _ (exactly_both _ _ a (at_most b.sector sector_most)) known in (
      λ t. let w = c.0 t in record { bytes_fit = w.0.0; sector_fits = w.0.1; flags_known = w.1 },
      λ w. c.1 ((w.bytes_fit, w.sector_fits), w.flags_known),
    )

pub bytes_most_lem : (b : Bio) → BioInRange b → b.bytes ≤ bytes_most
bytes_most_lem b w = ⊎_elim (λ f. omega (arith, f.empty)) (λ fit. fit.fit.1) w.bytes_fit

-- request Four: "A read of 0 bytes stays refused", and so does every other number of bytes that was
pub no_other_bio_has_new_bytes : (b : Bio) → (Flush b → ⊥) → BioInRange b → BytesInRange b.bytes
no_other_bio_has_new_bytes b other w = ⊎_elim (λ f. absurd (other f)) (λ fit. fit) w.bytes_fit

-- ---- what a priced model keeps
page_at_least : (bps : ℕ) → (bps_least ≤ bps) × (bps ≤ bps_most) → 4 ≤ (page_cost bps).0
unfolding page_cost
page_at_least bps h =
    omega (arith, ceil_enough (second * page_bytes) bps (omega arith), mul-le-mul_left (ceil_of (second * page_bytes) bps) h.1)

page_at_most : (bps : ℕ) → (bps_least ≤ bps) × (bps ≤ bps_most) → (page_cost bps).0 ≤ second
unfolding page_cost
page_at_most bps h = ceil_least (second * page_bytes) bps second (omega arith) (mul-le-mul_left second h.0)

base_most : (bps iops : ℕ) → iops_least ≤ iops → (base_cost bps iops).0 ≤ second
unfolding base_cost
base_most bps iops h = omega (arith, ceil_least second iops second (omega arith) (mul-le-mul_left second h))

price_sound : (bps seqiops randiops : ℕ) → (bps_least ≤ bps) × (bps ≤ bps_most) → iops_least ≤ seqiops → iops_least ≤ randiops
    → SoundPrice (price_of bps seqiops randiops)
unfolding price_of
price_sound bps seqiops randiops b s r = record {
  page_least = page_at_least bps b;
  page_most = page_at_most bps b;
  sequential_most = base_most bps seqiops s;
  random_most = base_most bps randiops r;
}

pub priced_sound : (r : Rates) → rates_in_range r ≡ true → SoundModel (priced r)
unfolding priced
priced_sound r e =
    let w = (rates_in_range_lem r).0 e in
    record {
      reads = price_sound _ _ _ w.read_bytes w.read_sequential.0 w.read_random.0;
      writes = price_sound _ _ _ w.write_bytes w.write_sequential.0 w.write_random.0;
    }

-- ---- how small and how large the cost of a bio in range is
abbrev pub pages_most : ℕ
pages_most = 256

pub pages_range : (bytes : ℕ) → BytesInRange bytes → (1 ≤ ceil_of bytes page_bytes) × (ceil_of bytes page_bytes ≤ pages_most)
pages_range bytes w = let fit = w.fit in (omega arith, omega arith)

pub base_cost_most : {p : Price} → SoundPrice p → (sequential : Bool) → cond sequential p.sequential.0 p.random.0 ≤ second
base_cost_most s true = s.sequential_most
base_cost_most s false = s.random_most

pub page_costs_most : {p : Price} → SoundPrice p → (pages : ℕ) → pages ≤ pages_most → p.page.0 * pages ≤ second * pages_most
page_costs_most s pages h = mul-le-mul s.page_most h

pub price_of_bio_sound : {m : Model} → SoundModel m → (write : Bool) → SoundPrice (cond write m.write m.read)
price_of_bio_sound s true = s.writes
price_of_bio_sound s false = s.reads

module _ {m : Model} (s : SoundModel m) (row : Row) (b : Bio) where
  data_cost_range : BytesInRange b.bytes → (4 ≤ (data_cost m row b).0) × ((data_cost m row b).0 ≤ second + second * pages_most)
  unfolding cost_at
  data_cost_range w =
      let p = price_of_bio_sound s (is_write b) in
      let pages = pages_range b.bytes w in (
        omega (arith, mul-le-mul p.page_least pages.0),
        omega (arith, base_cost_most p (is_sequential row b), page_costs_most p (ceil_of b.bytes page_bytes) pages.1),
      )

  cost_range : bio_in_range b ≡ true → (4 ≤ (cost_of m row b).0) × ((cost_of m row b).0 ≤ second + second * pages_most)
  unfolding cost_of
  cost_range t = go (is_flush b) refl
    where
      go : (f : Bool) → is_flush b ≡ f
          → (4 ≤ (cond f m.write.page (data_cost m row b)).0) × ((cond f m.write.page (data_cost m row b)).0 ≤ second + second * pages_most)
      go true e = (s.writes.page_least, omega (arith, s.writes.page_most))
      go false e = data_cost_range (no_other_bio_has_new_bytes b ((exactly_not (is_flush b) (flush_exactly_when b)).0 e) ((bio_in_range_lem b).0 t))

  pub cost_least : bio_in_range b ≡ true → 4 ≤ (cost_of m row b).0
  cost_least t = (cost_range t).0

  pub cost_at_most : bio_in_range b ≡ true → (cost_of m row b).0 ≤ second + second * pages_most
  cost_at_most t = (cost_range t).1

-- ---- where a bio lies
pub near_on_either_side : (a b : ℕ) → is_near a b ≡ is_near b a
unfolding is_near
near_on_either_side a b = and_swap (leb a (b + near_most)) (leb b (a + near_most))

pub first_bio_is_random : (row : Row) (b : Bio) → row.begun ≡ false → is_sequential row b ≡ false
unfolding is_sequential
first_bio_is_random row b e = and_not_left row.begun (is_near b.sector row.end) e

pub end_at_most : (b : Bio) → bio_in_range b ≡ true → end_of b ≤ end_most
end_at_most b e = let w = (bio_in_range_lem b).0 e in omega (arith, w.sector_fits, bytes_most_lem b w)

-- ---- refusal 3 exactly when a rate is out of range
pricing_by_lem : (t : Bool) (r : Rates) → (pricing_by (cond (not t) (Err BadRate) (Ok tt)) r ≡ Err BadRate) ↔ (t ≡ false)
unfolding pricing_by
pricing_by_lem true r = (λ e. never (cc), λ f. absurd (true_not_false refl f))
pricing_by_lem false r = (λ e. refl, λ f. refl)

pub pricing_refuses_exactly_when : (r : Rates) → (pricing r ≡ Err BadRate) ↔ (RatesInRange r → ⊥)
unfolding pricing rate_checks
pricing_refuses_exactly_when r =
    exactly (pricing_by_lem (rates_in_range r) r) (exactly_not (rates_in_range r) (rates_in_range_lem r))

pub pricing_prices_all_others : (r : Rates) → RatesInRange r → pricing r ≡ Ok (priced r)
unfolding pricing rate_checks pricing_by
pricing_prices_all_others r w = rw ((rates_in_range_lem r).1 w)

-- ---- refusal 5 exactly when a bio is out of range, 6 exactly when it is in range and too dear
module _ (m : Model) (row : Row) (b : Bio) where
  -- what is answered, by whether the bio is in range and whether it is too dear
  abbrev answered : Bool → Bool → Costing
  answered fit dear = costing_by (cond (not fit) (Err BadBio) (cond dear (Err TooDear) (Ok tt))) m row b

  out_of_range : (fit dear : Bool) → (answered fit dear ≡ Err BadBio) ↔ (fit ≡ false)
  unfolding costing_by
  out_of_range true true = (λ e. never (cc), λ f. absurd (true_not_false refl f))
  out_of_range true false = (λ e. never (cc), λ f. absurd (true_not_false refl f))
  out_of_range false dear = (λ e. refl, λ f. refl)

  too_dear_lem : (fit dear : Bool) → (answered fit dear ≡ Err TooDear) ↔ ((fit && dear) ≡ true)
  unfolding costing_by
  too_dear_lem true true = (λ e. refl, λ t. refl)
  too_dear_lem true false = (λ e. never (cc), λ t. absurd (true_not_false t refl))
  too_dear_lem false dear = (λ e. never (cc), λ t. absurd (true_not_false t refl))

  costs : (fit dear : Bool) (cost : Abs) → (answered fit dear ≡ Ok cost)
      ↔ (((fit ≡ true) × (dear ≡ false)) × (cost ≡ cost_of m row b))
  unfolding costing_by
  costs true true cost = (λ e. never (cc), λ w. absurd (true_not_false refl w.0.1))
  costs true false cost = (λ e. ((refl, refl), cc), λ w. ap Ok (sym w.1))
  costs false dear cost = (λ e. never (cc), λ w. absurd (true_not_false w.0.0 refl))

  pub costing_refuses_the_range_exactly_when : (costing m row b ≡ Err BadBio) ↔ (BioInRange b → ⊥)
  unfolding costing cost_checks
  costing_refuses_the_range_exactly_when =
      exactly (out_of_range (bio_in_range b) (ltb cost_most (cost_of m row b).0)) (exactly_not (bio_in_range b) (bio_in_range_lem b))

  pub costing_refuses_the_cost_exactly_when : (costing m row b ≡ Err TooDear) ↔ (BioInRange b × (cost_most < (cost_of m row b).0))
  unfolding costing cost_checks
  costing_refuses_the_cost_exactly_when =
      exactly (too_dear_lem (bio_in_range b) (ltb cost_most (cost_of m row b).0))
      (exactly_both _ _ (bio_in_range_lem b) (ltb-true _ _, lt-ltb _ _))

  pub costing_costs_exactly_when : (cost : Abs) → (costing m row b ≡ Ok cost)
      ↔ ((BioInRange b × ((cost_of m row b).0 ≤ cost_most)) × (cost ≡ cost_of m row b))
  unfolding costing cost_checks
  costing_costs_exactly_when cost =
      exactly (costs (bio_in_range b) (ltb cost_most (cost_of m row b).0) cost)
      (exactly_pair (exactly_pair (bio_in_range_lem b) (ltb-false _ _, le-ltb _ _)) (λ e. e, λ e. e))
