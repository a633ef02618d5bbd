-- The numbers of the comparison hold.
-- Assumes nothing.
use Rattle.std.specs.Prelude.{◌≡◌, refl, true}
use Rattle.rules.specs.Bench.Edges.{all_same}
use Rattle.rules.specs.Trace.{bytes_of, number_of, is_kind, layout, fields_of, record_of, body_of, record_bytes, fields_from, behind, read_kind, read_at}
use Rattle.rules.proofs.Laws.Trace.{trace_of}
use Rattle.trace.specs.Extents.{extent_at}
use Rattle.comparison.specs.Compare.{records_end_from, records_end, error_in, error_of, step_by, step_at, advanced, passed, walk_from, walked, concluded, compared_from, compared, rest_of}
use Rattle.comparison.specs.Bench.{whole_case, id_eight, cases}

pub comparisons_hold : all_same cases ≡ true
unfolding cases whole_case id_eight trace_of record_bytes body_of bytes_of layout fields_of extent_at read_at read_kind is_kind behind record_of fields_from number_of records_end_from records_end error_in error_of step_by step_at advanced passed walk_from walked concluded compared_from compared rest_of
comparisons_hold = refl
