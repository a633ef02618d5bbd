-- `text::put_worded` meets its contract: the numbers take at most 21 bytes each.
-- Assumes nothing.
use Rattle.std.proofs.Common.{◌≡◌, arith, length-append}
use Rattle.text.proofs.Room.{numbers_room}
use Rattle.text.proofs.put_worded.Goals as goal

pub returns : goal.returns
returns c =
    let put = c.put_worded.ensures in
    (put, omega (arith, simp length-append at put.0, numbers_room c.args.numbers.now))
