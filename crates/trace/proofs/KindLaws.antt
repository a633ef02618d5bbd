-- The kinds as a type and as numbers.
-- Assumes nothing.
use mathlib.Core.Path.{◌≡◌, refl}
use mathlib.Core.Bool.{true}
use mathlib.Core.List.{List}
use Prim.Native.Nat.{ℕ}
use Rattle.rules.specs.Trace.{is_kind, kind_of, record_of}
use Rattle.rules.specs.declared.trace.Record.{Record}
use Rattle.rules.specs.declared.trace.Record.TheVariants.{Node as NodeOf, Model as ModelOf, Start as StartOf, Bio as BioOf, Tick as TickOf, Plan as PlanOf, Vrate as VrateOf, Weight as WeightOf}
use Rattle.trace.specs.declared.kind.Kind.{Kind}
use Rattle.trace.specs.declared.kind.Kind.TheVariants.{Node, Model, Start, Bio, Tick, Plan, Vrate, Weight}
use Rattle.trace.specs.Kinds.{code, kind_in}

pub code_in : (r : Record) → code (kind_in r) ≡ kind_of r
code_in (NodeOf p w) = refl
code_in (ModelOf r) = refl
code_in (StartOf t) = refl
code_in (BioOf b) = refl
code_in (TickOf t) = refl
code_in PlanOf = refl
code_in (VrateOf v) = refl
code_in (WeightOf n w) = refl

pub code_known : (k : Kind) → is_kind (code k) ≡ true
unfolding is_kind
code_known Node = refl
code_known Model = refl
code_known Start = refl
code_known Bio = refl
code_known Tick = refl
code_known Plan = refl
code_known Vrate = refl
code_known Weight = refl

pub kind_in_record : (k : Kind) (fs : List ℕ) → kind_in (record_of (code k) fs) ≡ k
unfolding record_of
kind_in_record Node fs = refl
kind_in_record Model fs = refl
kind_in_record Start fs = refl
kind_in_record Bio fs = refl
kind_in_record Tick fs = refl
kind_in_record Plan fs = refl
kind_in_record Vrate fs = refl
kind_in_record Weight fs = refl
