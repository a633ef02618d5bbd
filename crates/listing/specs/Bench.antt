-- What a program prints of two traces, as a reader sees it. A slip that these do not refuse is refused by a theorem, or means the same.
-- Assumes nothing.
use Rattle.std.specs.Prelude.{◌≡◌, refl, true, false, cond, List, [], ◌∷◌, ℕ, Some, None, Ok}
use Rattle.rules.specs.Bench.Edges.{Seen, see, all_same}
use Rattle.rules.specs.Trace.{bytes_of, number_of, is_kind, layout, fields_of, record_of, body_of, record_bytes, fields_from, behind, read_kind, read_at}
use Rattle.rules.proofs.Laws.Trace.{trace_of}
use Rattle.rules.specs.Replay.{digits, digits_in}
use Rattle.trace.specs.Extents.{extent_at}
use Rattle.comparison.specs.Compare.{records_end_from, records_end, error_in, error_of, step_by, step_at, advanced, passed, reach_at_start, walk_from, walked, concluded, compared_from, compared, rest_of}
use Rattle.comparison.specs.Bench.{whole_case, id_eight}
use Rattle.text.specs.Words.{bytes}
use Rattle.text.specs.Text.{name_of}
use Rattle.text.specs.Lines.{differs_line, ends_line, rest_line, likeness_line, error_line}
use Rattle.listing.specs.Listing.{differs_at, line_by, list_from, listed, rest_line_by, closing_lines, closing_by, differs_from, differs_lines, report}
use Rattle.comparison.specs.declared.Side.TheVariants.{First, Second}
use Rattle.comparison.specs.declared.Step.TheVariants.{Over}
use Rattle.comparison.specs.declared.Reach.{Reach}
use Rattle.comparison.specs.declared.Sides.{Sides}

-- how far lines have come, as numbers
abbrev pub reach_numbers : Reach → List ℕ
reach_numbers r = r.number ∷ r.first ∷ r.second ∷ cond r.alike 1 0 ∷ []

-- parts that begin behind 100 bytes of the first trace and 200 of the second
abbrev pub behind_some : Sides ℕ
behind_some = record { first = 100; second = 200 }

pub cases : List Seen
cases =
    see (report whole_case id_eight) (bytes "differs 4 66 66 bio 1 0 7 0 4096 | bio 1 0 8 0 4096\nends second 7\nrest first 0\ndifferent\n")
    ∷ see (report id_eight whole_case) (bytes "differs 4 66 66 bio 1 0 8 0 4096 | bio 1 0 7 0 4096\nends first 7\nrest first 0\ndifferent\n")
    ∷ see (report whole_case whole_case) (bytes "ends neither 8\nrest first 0\nequal\n")
    ∷ see (report [] []) (bytes "ends neither 0\nrest first 0\nequal\n")
    -- a prefix, either way: the side and the length of the rest
    ∷ see (report (6 ∷ []) (6 ∷ 7 ∷ 1 ∷ 2 ∷ 6 ∷ [])) (bytes "ends first 1\nrest second 4\nprefix\n")
    ∷ see (report (6 ∷ 7 ∷ 1 ∷ 2 ∷ 6 ∷ []) (6 ∷ [])) (bytes "ends second 1\nrest first 4\nprefix\n")
    -- two records that differ, at places that lie apart
    ∷ see (report (6 ∷ 7 ∷ 1 ∷ 2 ∷ 6 ∷ []) (7 ∷ 1 ∷ 2 ∷ 6 ∷ 6 ∷ []))
    (bytes "differs 0 0 0 plan | vrate 513\ndiffers 1 1 3 vrate 513 | plan\nends neither 3\nrest first 0\ndifferent\n")
    -- errors alone
    ∷ see (report (7 ∷ 1 ∷ 2 ∷ 9 ∷ []) (6 ∷ [])) (bytes "error first 16 3\n")
    ∷ see (report (6 ∷ []) (6 ∷ 6 ∷ 7 ∷ 1 ∷ [])) (bytes "error second 17 2\n")
    -- parts: the places are those of the traces, and a line more needs its room
    ∷ see (listed behind_some (6 ∷ 7 ∷ 1 ∷ 2 ∷ []) (6 ∷ 6 ∷ 6 ∷ []) 400 reach_at_start).bytes (bytes "differs 1 101 201 vrate 513 | plan\n")
    ∷ see (reach_numbers (listed behind_some (6 ∷ 7 ∷ 1 ∷ 2 ∷ []) (6 ∷ 6 ∷ 6 ∷ []) 400 reach_at_start).reach) (2 ∷ 4 ∷ 2 ∷ 0 ∷ [])
    ∷ see (reach_numbers (listed behind_some (6 ∷ 7 ∷ 1 ∷ 2 ∷ []) (6 ∷ 6 ∷ 6 ∷ []) 336 reach_at_start).reach) (0 ∷ 0 ∷ 0 ∷ 1 ∷ [])
    ∷ see (reach_numbers (listed behind_some (6 ∷ 7 ∷ 1 ∷ []) (6 ∷ 7 ∷ 1 ∷ 2 ∷ []) 337 reach_at_start).reach) (1 ∷ 1 ∷ 1 ∷ 1 ∷ [])
    -- two lines in their order, and the second not where the first leaves too little room
    ∷ see (listed behind_some (6 ∷ 7 ∷ 1 ∷ 2 ∷ []) (7 ∷ 1 ∷ 2 ∷ 6 ∷ []) 400 reach_at_start).bytes (bytes "differs 0 100 200 plan | vrate 513\ndiffers 1 101 203 vrate 513 | plan\n")
    ∷ see (reach_numbers (listed behind_some (6 ∷ 7 ∷ 1 ∷ 2 ∷ []) (7 ∷ 1 ∷ 2 ∷ 6 ∷ []) 371 reach_at_start).reach) (1 ∷ 1 ∷ 3 ∷ 0 ∷ [])
    -- a pair that is the same, at places that lie apart, behind one that was not
    ∷ see (reach_numbers (listed behind_some (6 ∷ 6 ∷ 7 ∷ 1 ∷ 2 ∷ []) (7 ∷ 1 ∷ 2 ∷ 6 ∷ []) 337 (record { number = 5; first = 2; second = 0; alike = false })).reach) (6 ∷ 5 ∷ 3 ∷ 0 ∷ [])
    -- what closes a report, with other bytes left on each side
    ∷ see (closing_by (Ok (Over (Some First))) 3 true 5 7) (bytes "ends first 3\nrest second 7\nprefix\n")
    ∷ see (closing_by (Ok (Over (Some Second))) 3 true 5 7) (bytes "ends second 3\nrest first 5\nprefix\n")
    ∷ see (closing_by (Ok (Over (Some First))) 3 false 5 7) (bytes "ends first 3\nrest first 0\ndifferent\n")
    ∷ see (closing_by (Ok (Over None)) 3 true 5 7) (bytes "ends neither 3\nrest first 0\nequal\n")
    ∷ []

pub reports_hold : all_same cases ≡ true
unfolding cases whole_case id_eight trace_of record_bytes body_of bytes_of layout fields_of extent_at read_at read_kind is_kind behind record_of fields_from number_of records_end_from records_end error_in error_of step_by step_at advanced passed walk_from walked concluded compared_from compared rest_of digits digits_in name_of differs_line ends_line rest_line likeness_line error_line differs_at line_by list_from listed rest_line_by closing_lines differs_from differs_lines report
reports_hold = refl
