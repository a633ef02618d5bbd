-- A tick of a state where it stands: what is answered, and what the state and the lent buffer are then, are those of the rules.
-- Assumes nothing.
use Rattle.std.specs.Prelude.{◌≡◌, List, ℕ, length}
use Rattle.rules.specs.Tick.{growth, releases, lent_after, tick}
use Rattle.rules.specs.Entries.{ticked, lent_of}
use Rattle.rules.specs.Results.{Count}
use Rattle.rules.specs.declared.budget.Queue.{Queue}
use Rattle.rules.specs.declared.budget.Controller.{Controller}

abbrev pub waiting : Queue → ℕ
waiting queue = queue.len

abbrev pub Passes : Count → Controller → List ℕ → ℕ → List ℕ → Controller → Type 0
Passes answer after out time lent before =
    (answer ≡ (ticked time lent before).answer) × (after ≡ (ticked time lent before).state) × (out ≡ lent_of time lent before)

-- the same of a time that is not refused
abbrev pub Released : ℕ → Controller → List ℕ → ℕ → List ℕ → Controller → Type 0
Released count after out time lent before =
    (count ≡ length (releases (growth before.clock time) before))
    × (after ≡ tick time before)
    × (out ≡ lent_after (releases (growth before.clock time) before) lent)
