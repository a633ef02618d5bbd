-- `lines::put_id` meets its contract: an id has at most ten digits.
-- Assumes nothing.
use Rattle.std.proofs.Common.{[], ◌∷◌, arith}
use Rattle.rules.proofs.Laws.Lines.{id_line_most}
use Rattle.lines.proofs.Room.{line_written, line_room}
use Rattle.lines.proofs.put_id.Goals as goal

pub put_line-requires : goal.put_line-requires
put_line-requires c =
    rw c.from.ensures (omega (arith, line_room c.args.letter (c.args.id ∷ []), id_line_most c.args.letter c.args.id c.ranges.id.fits))

pub returns : goal.returns
returns c =
    let id = c.args.id ∷ [] in
    let put = line_written c.args.letter (c.from.result ∷ []) id c.put_line.result c.args.out.now c.put_line.new.out (rw c.from.ensures) c.put_line.ensures in
    (put, omega (arith, put.0, id_line_most c.args.letter c.args.id c.ranges.id.fits))
