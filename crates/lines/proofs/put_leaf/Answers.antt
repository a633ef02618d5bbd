-- `lines::put_leaf` meets its contract: the line of an active leaf, and of another none.
-- Assumes nothing.
use Rattle.std.proofs.Common.{◌≡◌, [], ◌∷◌, sym, ◌∙◌, arith, true, false}
use Rattle.rules.specs.Words.{has}
use Rattle.rules.proofs.Laws.Buffers.{stands_none}
use Rattle.rules.proofs.Laws.Lines.{share_line_most}
use Rattle.lines.proofs.Room.{line_written, line_room}
use Rattle.lines.proofs.put_leaf.Goals as goal

pub put_line-requires : goal.put_line-requires
put_line-requires c =
    rw c.from.ensures (omega (arith, line_room 80 (c.args.n ∷ c.args.share ∷ []), share_line_most c.args.n c.args.share (omega arith) c.ranges.share.fits))

pub returns-then-has : goal.returns-then-has
returns-then-has c =
    let here : has c.args.active c.args.n ≡ true = sym c.has.ensures ∙ c.if-has.true in
    let told = c.args.n ∷ c.from.result ∷ [] in
    let put = line_written 80 told (c.args.n ∷ c.args.share ∷ []) c.put_line.result c.args.out.now c.put_line.new.out (rw c.from.ensures) c.put_line.ensures in
    rw here (put, omega (arith, put.0, share_line_most c.args.n c.args.share (omega arith) c.ranges.share.fits))

pub returns : goal.returns
returns c =
    let gone : has c.args.active c.args.n ≡ false = sym c.has.ensures ∙ c.if-has.false in
    rw gone ((stands_none c.args.out.now).front, omega arith)
