-- Each head of the ledger is what the answers and the states say, of one call upon any sound state: whose bios are released,
-- which ids are written where, what counts as issued, what is repaid, forgiven and generated, and that a refusal counts nothing.
-- Assumes nothing.
use Rattle.std.specs.Prelude.{◌≡◌, length, Err}
use Prim.Native.Nat.{ℕ}
use Rattle.rules.specs.Tick.{turn_of}
use Rattle.rules.specs.Question.{question}
use Rattle.rules.specs.Entries.{submitted, ticked, planned, set_by}
use Rattle.rules.specs.Ledger.{Call, after, accepted, issued, released, repaid, forgiven, generated, exact}
use Rattle.rules.specs.declared.units.Virt.{Virt}
use Rattle.rules.specs.declared.budget.Controller.{Controller}
use Rattle.rules.specs.declared.refusals.Refusal.{Refusal}

-- ---- released: how many bios leaf n releases, and which
abbrev pub how_many : Virt → Controller → ℕ → ℕ
how_many g c n = length (turn_of g c n).ids

-- ---- generated: the growth of virtual time
-- the clock and the tree stay where a call has to do with leaves alone
pub record SameClockAndTree (c d : Controller) : Type 0 where
  pub clock : d.clock ≡ c.clock
  pub tree : d.tree ≡ c.tree

-- ---- a refused call: nothing in any head, and the state stays; the buffer too, by `a_refused_tick_changes_nothing`
-- the answer of the call is this refusal
abbrev pub Refuses : Call → Controller → Refusal → Type 0
Refuses (Call.submit b) c x = (submitted b c).answer ≡ Err x
Refuses (Call.ask b) c x = question b c ≡ Err x
Refuses (Call.tick time lent) c x = (ticked time lent c).answer ≡ Err x
Refuses Call.plan c x = (planned c).answer ≡ Err x
Refuses (Call.set s) c x = (set_by s c).answer ≡ Err x

pub record CountsNothing (k : Call) (c : Controller) : Type 0 where
  pub state_stays : after k c ≡ c
  pub none_accepted : (n : ℕ) → accepted k c n ≡ 0
  pub none_issued : (n : ℕ) → issued k c n ≡ 0
  pub none_released : (n : ℕ) → released k c n ≡ 0
  pub none_repaid : (n : ℕ) → repaid k c n ≡ 0
  pub none_forgiven : (n : ℕ) → forgiven k c n ≡ 0
  pub none_generated : generated k c ≡ 0
  pub none_exact : exact k c ≡ 0
