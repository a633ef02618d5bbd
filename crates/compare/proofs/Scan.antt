-- What the proofs of the first walk share, stated of plain values: what its rounds find, with the tries that are left.
-- Assumes nothing.
use Rattle.std.proofs.Common.{◌≡◌, ℕ, suc, ◌+◌, ◌-◌, ◌^◌, ◌≤◌, ◌<◌, List, Option, Some, None, Result, Ok, Err, ◌∙◌, ap, subst, arith}
use Rattle.std.specs.declared.io.Error.{Error as IoError}
use Rattle.comparison.specs.Compare.{Extent}
use Rattle.compare.specs.Parts.{OneScan, Finds}
use Rattle.compare.specs.Parts.Finds.{on, ends, unread, unfinished}
use Rattle.compare.specs.declared.side.Held.{Held}

module _ {s m : Held} {buf : List ℕ} {r : Result (Option Extent) IoError} (n : ℕ) (k : OneScan s r m buf) (left : n < 2 ^ 64 - 1) where
  one_less : suc (2 ^ 64 - 1 - (n + 1)) ≡ 2 ^ 64 - 1 - n
  one_less = omega (arith, left)

  here : {q : Result (Option Extent) IoError} → r ≡ q → OneScan s q m buf
  here e = subst (λ (q : Result (Option Extent) IoError). OneScan s q m buf) e k

  pub tries_on : {q : Result Extent IoError} {t : Held} {told : Option Extent} → r ≡ Ok told → told ≡ None → Finds (2 ^ 64 - 1 - (n + 1)) m q t
      → Finds (2 ^ 64 - 1 - n) s q t
  tries_on {q} {t} is e rest = subst (λ (j : ℕ). Finds j s q t) one_less (on (here (is ∙ ap Ok e)) rest)

  pub tries_found : {told : Option Extent} {end : Extent} → r ≡ Ok told → told ≡ Some end → Finds (2 ^ 64 - 1 - n) s (Ok end) m
  tries_found {end = end} is e = subst (λ (j : ℕ). Finds j s (Ok end) m) one_less (ends (here (is ∙ ap Ok e)))

  pub tries_failed : {why : IoError} → r ≡ Err why → Finds (2 ^ 64 - 1 - n) s (Err why) m
  tries_failed {why} is = subst (λ (j : ℕ). Finds j s (Err why) m) one_less (unread (here is))

pub tries_end : (s : Held) (n : ℕ) {why : IoError} → 2 ^ 64 - 1 ≤ n → Finds (2 ^ 64 - 1 - n) s (Err why) s
tries_end s n {why} h =
    let none : 0 ≡ 2 ^ 64 - 1 - n = omega (arith, h) in
    subst (λ (j : ℕ). Finds j s (Err why) s) none unfinished
