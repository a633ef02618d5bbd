-- `cost::pricing::price` meets its contract: the rates are in range where they are priced.
-- Assumes nothing.
use borrow.Author.Rules.{rules}
use mathlib.Core.Path.{sym, ◌∙◌}
use Rattle.rules.specs.Cost.{priced}
use Rattle.rules.specs.Refusals.{rate_checks}
use Rattle.rules.specs.Entries.{pricing, pricing_by}
use Rattle.rules.proofs.Laws.Costs.{rates_in_range_lem}
use Rattle.rules.proofs.Laws.Refusals.{price_on_paper}
use Rattle.rules.specs.declared.refusals.Refusal.TheVariants.{BadRate}
use mathlib.Core.Path.{◌≡◌}
use Rattle.cost.proofs.pricing.price.Goals as goal
use Rattle.std.specs.Prelude.{Err, Ok}

pub price_of-read-requires : goal.price_of-read-requires
price_of-read-requires c =
    let w = (rates_in_range_lem _).0 (sym c.rates_in_range.ensures ∙ c.if-not-rates_in_range.false) in
    search rules

pub price_of-write-requires : goal.price_of-write-requires
price_of-write-requires c =
    let w = (rates_in_range_lem _).0 (sym c.rates_in_range.ensures ∙ c.if-not-rates_in_range.false) in
    search rules

pub returns : goal.returns
unfolding pricing rate_checks pricing_by priced
returns c =
    let e = sym c.rates_in_range.ensures ∙ c.if-not-rates_in_range.false in
    let v : Ok (record { read = c.price_of-read.result; write = c.price_of-write.result }) ≡ pricing c.args.rates = rw (e, c.price_of-read.ensures, c.price_of-write.ensures) in
    record { value = v; number = price_on_paper _ v }

pub returns-then-not-rates_in_range : goal.returns-then-not-rates_in_range
unfolding pricing rate_checks pricing_by
returns-then-not-rates_in_range c =
    let v : Err BadRate ≡ pricing c.args.rates = rw (sym c.rates_in_range.ensures ∙ c.if-not-rates_in_range.true) in
    record { value = v; number = price_on_paper _ v }
