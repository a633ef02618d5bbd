-- The kinds as a type, and the number of each.
-- Assumes nothing.
use Rattle.std.specs.Prelude.{◌≡◌, true, false, ℕ, Result, MatchResult}
use Rattle.rules.specs.Trace.{is_kind}
use Rattle.rules.specs.declared.refusals.Refusal.{Refusal}
use Rattle.rules.specs.declared.refusals.Refusal.TheVariants.{UnknownKind}
use Rattle.rules.specs.declared.trace.Record.{Record}
use Rattle.rules.specs.declared.trace.Record.TheVariants.{Node, Model, Start, Bio, Tick, Plan, Vrate, Weight}
use Rattle.trace.specs.declared.kind.Kind.{Kind}
use Rattle.trace.specs.declared.kind.Kind.TheVariants.{Node as NodeKind, Model as ModelKind, Start as StartKind, Bio as BioKind, Tick as TickKind, Plan as PlanKind, Vrate as VrateKind, Weight as WeightKind}

-- "Setup: 1 node .."; "After start: 4 bio .."; request One's "trace record 8"
abbrev pub code : Kind → ℕ
code NodeKind = 1
code ModelKind = 2
code StartKind = 3
code BioKind = 4
code TickKind = 5
code PlanKind = 6
code VrateKind = 7
code WeightKind = 8

abbrev pub kind_in : Record → Kind
kind_in (Node p w) = NodeKind
kind_in (Model r) = ModelKind
kind_in (Start t) = StartKind
kind_in (Bio b) = BioKind
kind_in (Tick t) = TickKind
kind_in Plan = PlanKind
kind_in (Vrate v) = VrateKind
kind_in (Weight n w) = WeightKind

-- a byte that is the number of a kind gives that kind, and any other is refused
abbrev pub Decodes : ℕ → Result Kind Refusal → Type 0
Decodes byte r = MatchResult r (λ kind. (is_kind byte ≡ true) × (code kind ≡ byte)) (λ x. (is_kind byte ≡ false) × (x ≡ UnknownKind))
