-- What calls answer, by the names that the rules have for it: what is given where a call is accepted, or why it is refused.
-- Assumes nothing.
use Rattle.std.specs.Prelude.{ℕ, Result, Ok, Option, Some, ⊤}
use Rattle.rules.specs.declared.units.Abs.{Abs}
use Rattle.rules.specs.declared.cost.Model.{Model}
use Rattle.rules.specs.declared.tree.Fault.{Fault}
use Rattle.rules.specs.declared.trace.Record.{Record}
use Rattle.rules.specs.declared.trace.Found.{Found}
use Rattle.rules.specs.declared.budget.Outcome.{Outcome}
use Rattle.rules.specs.declared.refusals.Refusal.{Refusal}
use Rattle.rules.specs.declared.refusals.Answer.{Answer}

-- what is wrong with a tree, if anything is
abbrev pub Finding : Type 0
Finding = Result ⊤ Fault

-- what a tree's check, start, plan, vrate and weight answer
abbrev pub Verdict : Type 0
Verdict = Result ⊤ Refusal

-- what six rates are priced at
abbrev pub Pricing : Type 0
Pricing = Result Model Refusal

-- what a bio is found to cost
abbrev pub Costing : Type 0
Costing = Result Abs Refusal

-- what a submission answers
abbrev pub Answered : Type 0
Answered = Result Answer Refusal

-- what a tick answers: how many bios it released
abbrev pub Count : Type 0
Count = Result ℕ Refusal

-- a record with the place behind it, nothing at the end of the trace, or why there is no record here
abbrev pub Read : Type 0
Read = Result (Option Found) Refusal

-- how many bytes a record took
abbrev pub Write : Type 0
Write = Result ℕ Refusal

-- how many bytes of lines were written, if there was room
abbrev pub Printed : Type 0
Printed = Option ℕ

-- the new state beside the answer: of start, plan, vrate and weight, of a submission, and of a tick
abbrev pub Judged : Type 0
Judged = Outcome ⊤

abbrev pub Submitted : Type 0
Submitted = Outcome Answer

abbrev pub Ticked : Type 0
Ticked = Outcome ℕ

-- what reading answers where it finds a record
abbrev pub found : Record → ℕ → Read
found r next = Ok (Some (record { item = r; next = next }))
