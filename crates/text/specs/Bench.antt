-- The text of records of each kind and each line in each of its cases, as a reader sees them: a name, a number or a side in
-- another's place is refused here.
-- Assumes nothing.
use Rattle.std.specs.Prelude.{◌≡◌, refl, true, List, [], ◌∷◌, ℕ, ◌-◌, ◌^◌, Some, None}
use Prim.Native.String.{String}
use Rattle.rules.specs.Bench.Edges.{Seen, see, all_same}
use Rattle.rules.specs.Trace.{fields_of}
use Rattle.rules.specs.Replay.{digits, digits_in}
use Rattle.rules.specs.declared.cost.Rates.{Rates}
use Rattle.rules.specs.declared.refusals.Refusal.TheVariants.{BadTree, UnknownKind, CutShort}
use Rattle.rules.specs.declared.tree.Fault.TheVariants.{Level}
use Rattle.rules.specs.declared.trace.Record.{Record}
use Rattle.rules.specs.declared.trace.Record.TheVariants.{Node, Model, Start, Bio as BioOf, Tick, Plan, Vrate, Weight}
use Rattle.comparison.specs.declared.Side.TheVariants.{First, Second}
use Rattle.comparison.specs.declared.Likeness.TheVariants.{Equal, Prefix, Different}
use Rattle.text.specs.Words.{bytes}
use Rattle.text.specs.Text.{name_of, record_text}
use Rattle.text.specs.Lines.{differs_line, ends_line, rest_line, likeness_line, error_line, difference_line, rest_length_line}

abbrev pub reads : List ℕ → String → Seen
reads got want = see got (bytes want)

-- ---- records with another number in each field
abbrev pub rates : Rates
rates = record { rbps = 409600000; rseqiops = 50000; rrandiops = 10000; wbps = 204800000; wseqiops = 25000; wrandiops = 5000 }

abbrev pub bio : ℕ → Record
bio id = BioOf (record { node = 1; flags = 2; id = id; sector = 34; bytes = 4096 })

pub cases : List Seen
cases =
    reads (record_text (Node 0 100)) "node 0 100"
    ∷ reads (record_text (Model rates)) "model 409600000 50000 10000 204800000 25000 5000"
    ∷ reads (record_text (Start 12)) "start 12"
    ∷ reads (record_text (bio 7)) "bio 1 2 7 34 4096"
    ∷ reads (record_text (Tick (2 ^ 64 - 1))) "tick 18446744073709551615"
    ∷ reads (record_text Plan) "plan"
    ∷ reads (record_text (Vrate 100)) "vrate 100"
    ∷ reads (record_text (Weight 3 500)) "weight 3 500"
    ∷ reads (differs_line 4 66 67 (bio 7) (bio 8)) "differs 4 66 67 bio 1 2 7 34 4096 | bio 1 2 8 34 4096\n"
    ∷ reads (differs_line 9 88 89 Plan (Tick 5)) "differs 9 88 89 plan | tick 5\n"
    ∷ reads (ends_line (Some (record { side = Some First; records = 7 }))) "ends first 7\n"
    ∷ reads (ends_line (Some (record { side = Some Second; records = 7 }))) "ends second 7\n"
    ∷ reads (ends_line (Some (record { side = None; records = 8 }))) "ends neither 8\n"
    ∷ reads (ends_line None) ""
    ∷ reads (rest_line First 0) "rest first 0\n"
    ∷ reads (rest_line Second 19) "rest second 19\n"
    ∷ reads (likeness_line (Some Equal)) "equal\n"
    ∷ reads (likeness_line (Some Prefix)) "prefix\n"
    ∷ reads (likeness_line (Some Different)) "different\n"
    ∷ reads (likeness_line None) ""
    ∷ reads (error_line First CutShort 57) "error first 17 57\n"
    ∷ reads (error_line Second UnknownKind 8) "error second 16 8\n"
    ∷ reads (error_line Second (BadTree (Level 63)) 0) "error second 23 0\n"
    ∷ reads (difference_line (Some (record { number = 6; first = 4; second = 5 }))) "difference 6 4 5\n"
    ∷ reads (difference_line None) "difference none\n"
    ∷ reads (rest_length_line 57) "rest 57\n"
    ∷ []

pub bench : all_same cases ≡ true
unfolding cases name_of fields_of digits digits_in differs_line ends_line rest_line likeness_line error_line difference_line
bench = refl
