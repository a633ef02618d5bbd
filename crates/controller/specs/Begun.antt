-- What a refused start hands out: the same whatever tree, rates and time were handed in.
-- Assumes nothing.
use Rattle.std.specs.Prelude.{◌≡◌, ℕ, Err}
use Rattle.rules.specs.Entries.{started_by}
use Rattle.rules.specs.declared.cost.Rates.{Rates}
use Rattle.rules.specs.declared.tree.Tree.{Tree}
use Rattle.rules.specs.declared.refusals.Refusal.{Refusal}
use Rattle.rules.specs.Results.{Judged}

abbrev pub Unstarted : Refusal → Judged → Type 0
Unstarted x r = (t : Tree) (rates : Rates) (time : ℕ) → r ≡ started_by (Err x) t rates time
