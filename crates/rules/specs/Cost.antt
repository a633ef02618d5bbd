-- Cost of a bio.
-- Assumes nothing.
use Rattle.std.specs.Prelude.{Bool, cond, ◌&&◌, ◌||◌, ℕ, ◌+◌, ◌-◌, ◌*◌, ◌/◌, ◌%◌, eqb, leb, ltb}
use Rattle.rules.specs.Numbers.{bps_least, bps_most, iops_least, iops_most, second, page_bytes, sector_bytes, bytes_most, sector_most, near_most}
use Rattle.rules.specs.Units.{abs, ceil_of, floor_of}
use Rattle.rules.specs.declared.units.Abs.{Abs}
use Rattle.rules.specs.declared.cost.Rates.{Rates}
use Rattle.rules.specs.declared.cost.Price.{Price}
use Rattle.rules.specs.declared.cost.Model.{Model}
use Rattle.rules.specs.declared.cost.Bio.{Bio}
use Rattle.rules.specs.declared.budget.Row.{Row}

-- "bps is .."
abbrev pub bps_in_range : ℕ → Bool
bps_in_range bps = leb bps_least bps && leb bps bps_most

abbrev pub iops_in_range : ℕ → Bool
iops_in_range iops = leb iops_least iops && leb iops iops_most

unfoldable pub rates_in_range : Rates → Bool
rates_in_range r =
    bps_in_range r.rbps && iops_in_range r.rseqiops && iops_in_range r.rrandiops
    && bps_in_range r.wbps && iops_in_range r.wseqiops && iops_in_range r.wrandiops

-- "Page cost = .."
unfoldable pub page_cost : ℕ → Abs
page_cost bps = abs (ceil_of (second * page_bytes) bps)

-- "Base = ..": a difference of numbers stops at 0
unfoldable pub base_cost : ℕ → ℕ → Abs
base_cost bps iops = abs (ceil_of second iops - (page_cost bps).0)

unfoldable pub price_of : ℕ → ℕ → ℕ → Price
price_of bps seqiops randiops =
    record { page = page_cost bps; sequential = base_cost bps seqiops; random = base_cost bps randiops }

unfoldable pub priced : Rates → Model
priced r = record {
  read = price_of r.rbps r.rseqiops r.rrandiops;
  write = price_of r.wbps r.wseqiops r.wrandiops;
}

-- the two flags
abbrev pub is_write : Bio → Bool
is_write b = eqb (b.flags % 2) 1

abbrev pub is_forced : Bio → Bool
is_forced b = eqb (b.flags / 2 % 2) 1

-- request Four: "A bio with the write flag and 0 bytes .." (DECISIONS 69)
unfoldable pub is_flush : Bio → Bool
is_flush b = is_write b && eqb b.bytes 0

-- "Bytes are .."; "first sector is .."; "flags have .."
abbrev pub bytes_in_range : ℕ → Bool
bytes_in_range bytes = leb sector_bytes bytes && leb bytes bytes_most && eqb (bytes % sector_bytes) 0

abbrev pub sector_in_range : ℕ → Bool
sector_in_range sector = leb sector sector_most

abbrev pub flags_in_range : ℕ → Bool
flags_in_range flags = ltb flags 4

-- request Four: ".. is no longer refused for its bytes"
abbrev pub bio_in_range : Bio → Bool
bio_in_range b = (is_flush b || bytes_in_range b.bytes) && sector_in_range b.sector && flags_in_range b.flags

-- "A bio is sequential if .."; "A leaf's first .."
unfoldable pub is_near : ℕ → ℕ → Bool
is_near sector end = leb sector (end + near_most) && leb end (sector + near_most)

unfoldable pub is_sequential : Row → Bio → Bool
is_sequential row b = row.begun && is_near b.sector row.end

-- "The end is .."
abbrev pub end_of : Bio → ℕ
end_of b = b.sector + floor_of b.bytes sector_bytes

-- "Cost = .."
unfoldable pub cost_at : Price → Bool → ℕ → Abs
cost_at price sequential bytes =
    abs (cond sequential price.sequential.0 price.random.0 + price.page.0 * ceil_of bytes page_bytes)

-- .. of a bio with bytes
abbrev pub data_cost : Model → Row → Bio → Abs
data_cost model row b = cost_at (cond (is_write b) model.write model.read) (is_sequential row b) b.bytes

-- request Four: ".. it costs one write page, with no base"; "the cost rule for all else is as before"
unfoldable pub cost_of : Model → Row → Bio → Abs
cost_of model row b = cond (is_flush b) model.write.page (data_cost model row b)
