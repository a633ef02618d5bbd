-- `trace::encoder::write_to` meets its contract: the kind in front, the body laid behind it, or the buffer as it was.
-- Assumes nothing.
use mathlib.Core.Path.{◌≡◌, ap, ◌∙◌}
use Prim.Native.Nat.{ℕ}
use native.Mathlib.Omega.{arith}
use Rattle.rules.specs.Trace.{layout, total, kind_of}
use Rattle.rules.specs.declared.trace.Record.{Record}
use Rattle.rules.proofs.Laws.Refusals.{write_on_paper}
use Rattle.trace.specs.declared.kind.Kind.{Kind}
use Rattle.trace.specs.Kinds.{code, kind_in}
use Rattle.trace.proofs.KindLaws.{code_in}
use Rattle.trace.proofs.Written.{numbers_fit, body_most, too_short, body_room, written}
use Rattle.trace.proofs.encoder.write_to.Goals as goal

number : (r : Record) {k : Kind} → k ≡ kind_in r → code k ≡ kind_of r
number r e = ap code e ∙ code_in r

length_is : (r : Record) {k : Kind} {len : ℕ} → k ≡ kind_in r → len ≡ total (layout (code k)) → len ≡ total (layout (kind_of r))
length_is r e l = rw (number r e) at l

pub overflow_add-len : goal.overflow_add-len
overflow_add-len c = omega (arith, c.body_len-len.ensures, body_most c.of-kind.result)

pub returns-then-lent-len : goal.returns-then-lent-len
returns-then-lent-len c =
    let short = too_short c.args.r c.args.lent.now _ (length_is c.args.r c.of-kind.ensures c.body_len-len.ensures) c.if-lent-len.true in
    record { writes = (short.0, short.1, numbers_fit _ _ c.well_formed.0); number = write_on_paper _ _ short.0 }

pub put_body-requires : goal.put_body-requires
put_body-requires c =
    body_room c.args.r c.args.lent.now _ (length_is c.args.r c.of-kind.ensures c.body_len-len.ensures) c.if-lent-len.false _ (c.from.ensures ∙ number c.args.r c.of-kind.ensures)

pub returns : goal.returns
returns c =
    let all = written c.args.r c.args.lent.now _ (length_is c.args.r c.of-kind.ensures c.body_len-len.ensures) c.if-lent-len.false _ (c.from.ensures ∙ number c.args.r c.of-kind.ensures) _ c.put_body.ensures in
    record { writes = (all.0, all.1, numbers_fit _ _ c.well_formed.0); number = write_on_paper _ _ all.0 }
