-- `text::put_differs` meets its contract: each record goes behind what is written, and the line feed behind both.
-- Assumes nothing.
use Rattle.std.proofs.Common.{List, [], ◌∷◌, ◌++◌, ℕ, ◌+◌, ◌≤◌, length, set, arith}
use Rattle.rules.specs.Buffers.{Written, Stands, rest_of, put_back}
use Rattle.rules.proofs.Laws.Buffers.{stands_more, stands_byte}
use Rattle.rules.specs.declared.trace.Record.{Record}
use Rattle.text.specs.Words.{bytes}
use Rattle.text.specs.Text.{worded, worded_room, record_text, text_room}
use Rattle.text.specs.Lines.{differs_line, differs_room}
use Rattle.text.proofs.put_differs.Goals as goal

-- what each callee wrote, one behind the other, and the line feed behind the last
record Parts (number first second : ℕ) (r s : Record) (o₀ head left right : List ℕ) (h l m : ℕ) : Type 0 where
  numbers : Written (worded (bytes "differs") (number ∷ first ∷ second ∷ [])) h o₀ head
  numbers_few : h ≤ worded_room (bytes "differs") (number ∷ first ∷ second ∷ [])
  one : Written (bytes " " ++ record_text r) l (rest_of head h) left
  one_few : l ≤ 1 + text_room
  two : Written (bytes " | " ++ record_text s) m (rest_of (put_back head h left) (h + l)) right
  two_few : m ≤ 3 + text_room

done : {number first second : ℕ} {r s : Record} {o₀ head left right : List ℕ} {h l m : ℕ} → differs_room ≤ length o₀
    → Parts number first second r s o₀ head left right h l m
    → Stands (differs_line number first second r s) o₀
    (set (put_back (put_back head h left) (h + l) right) (h + l + m) 10) (h + l + m + 1) × (h + l + m + 1 ≤ differs_room)
unfolding differs_line
done {number = n} {first = first} {second = second} {r = r} {s = s} {o₀ = o₀} {head = head} {left = left} {right = right} {h = h} {l = l} {m = m} room p =
    let begun : Stands (worded (bytes "differs") (n ∷ first ∷ second ∷ [])) o₀ head h = record { front = p.numbers; within = omega (arith, room, p.numbers_few) } in
    let one = stands_more begun (bytes " " ++ record_text r) left l p.one (omega (arith, room, p.numbers_few, p.one_few)) in
    let two =
    stands_more one (bytes " | " ++ record_text s) right m p.two (omega (arith, room, p.numbers_few, p.one_few, p.two_few)) in (
      stands_byte two (omega (arith, room, p.numbers_few, p.one_few, p.two_few)) 10,
      omega (arith, p.numbers_few, p.one_few, p.two_few),
    )

pub returns : goal.returns
returns c =
    let p : Parts c.args.number c.args.first c.args.second c.args.r c.args.s c.args.out.now c.put_worded-at.new.out
    c.put_before-at.new.out c.put_before-at-2.new.out c.put_worded-at.result c.put_before-at.result
    c.put_before-at-2.result =
    record {
      numbers = c.put_worded-at.ensures.0;
      numbers_few = c.put_worded-at.ensures.1;
      one = c.put_before-at.ensures.0;
      one_few = c.put_before-at.ensures.1;
      two = c.put_before-at-2.ensures.0;
      two_few = c.put_before-at-2.ensures.1;
    } in
    let all = done c.requires p in
    (all.0.front, all.1)
