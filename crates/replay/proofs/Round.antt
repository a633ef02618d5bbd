-- What the proofs of a round share, stated of plain values: a run that ends, a read behind the bytes that wait, what is left
-- at the front, and a round of these.
-- Assumes nothing.
use Rattle.std.proofs.Common.{◌≡◌, ℕ, suc, ◌+◌, ◌-◌, ◌^◌, ◌≤◌, ◌<◌, Bool, true, false, List, [], ◌++◌, length, take, drop, sym, refl, ap, ◌∙◌, subst, append-nil, arith, length-append, length-drop, length-take, length-take-le, take_at, take-add, drop_at, Result, Ok, Err, OnOk}
use Rattle.rules.specs.Chunks.{fed}
use Rattle.rules.specs.Replay.{beginning}
use Rattle.rules.specs.Invariant.{Playing}
use Rattle.rules.specs.declared.replay.Fed.{Fed}
use Rattle.rules.specs.declared.replay.Pause.TheVariants.{Over}
use Rattle.replay.specs.Rounds.{Stands, waiting, part_of, Replayed, LeftOver, Onward, could_write, OneRound, Ends, EndsBy, FromTheBeginning}
use Rattle.replay.specs.Rounds.Ends.{on, end}
use Rattle.replay.specs.Rounds.EndsBy.{on as on_by, well, failed, unfinished}
use Rattle.replay.specs.declared.rounds.Standing.{Standing}
use Rattle.replay.specs.declared.rounds.Failure.{Failure}
use Rattle.replay.specs.declared.rounds.Failure.TheVariants.{Unread}
use Rattle.std.specs.declared.io.Error.{Error as IoError}

-- a run whose bytes that wait are untouched
pub stays_so : {s : Standing} (chunk after : List ℕ) → Stands s (length chunk) → take s.filled after ≡ take s.filled chunk → Onward s chunk s after
stays_so {s} chunk after h front =
    let size : length (take s.filled after) ≡ s.filled = ap length front ∙ length-take-le s.filled chunk h.1 in
    record {
      stands = (h.0, omega (arith, size, length-take s.filled after));
      put = refl;
      same = refl;
      next = [];
      behind = front ∙ sym (append-nil (take s.filled chunk));
    }

-- n of the bytes that a read left behind those that wait
pub reads_so : {s t : Standing} (chunk ys rest : List ℕ) (n : ℕ) → Stands s (length chunk) → n ≤ length ys
    → t.replay ≡ s.replay → t.filled ≡ s.filled + n → t.put ≡ s.put
    → Onward s chunk t (take s.filled chunk ++ (ys ++ rest))
reads_so {s} {t} chunk ys rest n h l same filled put =
    let front : List ℕ = take s.filled chunk in
    let size : length front ≡ s.filled = length-take-le s.filled chunk h.1 in
    let after : List ℕ = front ++ (ys ++ rest) in
    let next : List ℕ = take n (drop s.filled after) in
    let fits : s.filled + n ≤ length after = rw (length-append front (ys ++ rest), length-append ys rest, size) (omega arith) in
    let before : take s.filled after ≡ front = take_at front (ys ++ rest) s.filled size in
    record {
      stands = (subst Playing (sym same) h.0, rw filled fits);
      put = put;
      same = same;
      next = next;
      behind = rw filled (take-add s.filled n after ∙ ap (λ (l : List ℕ). l ++ next) before);
    }

-- what is left of the bytes that waited, at the front
pub left_in_front : (chunk after : List ℕ) (from to : ℕ) → from ≤ to → to ≤ length chunk
    → after ≡ take (to - from) (drop from chunk) ++ drop (to - from) chunk → take (to - from) after ≡ drop from (take to chunk)
left_in_front chunk after from to h l e =
    let n : ℕ = to - from in
    let sum : from + n ≡ to = omega arith in
    let part : List ℕ = take n (drop from chunk) in
    let cut : take to chunk ≡ take from chunk ++ part = sym (ap (λ (k : ℕ). take k chunk) sum) ∙ take-add from n chunk in
    ap (take n) e ∙ take_at part (drop n chunk) n (length-take-le n (drop from chunk) (rw length-drop (omega arith)))
    ∙ sym (ap (drop from) cut ∙ drop_at (take from chunk) part from (length-take-le from chunk (omega arith)))

-- a round of its steps
pub rounds : {s a b t : Standing} {chunk mid after out₀ out : List ℕ} {f : Fed} {r : Result Bool Failure} → Replayed s chunk out₀ out f
    → LeftOver f s chunk a mid → b.replay ≡ a.replay → b.filled ≡ a.filled → Onward b mid t after → (could_write r ≡ true → b.put ≡ f.count)
    → (r ≡ Ok true → f.pause ≡ Over) → OneRound s chunk (length out₀) r t after
unfolding fed
rounds {s} {a} {b} {t} {chunk} {mid} {after} {out₀} p k e g o all-taken ends =
    let all : t.replay ≡ (part_of s chunk (length out₀)).replay = o.same ∙ e ∙ k.same ∙ ap (λ (f : Fed). f.replay) p.feeds.answers in
    let left = ap (λ (n : ℕ). take n mid) g ∙ k.left ∙ ap (λ (f : Fed). drop f.place (waiting s chunk)) p.feeds.answers in
    record {
      stands = o.stands;
      puts = λ h. o.put ∙ all-taken h ∙ p.feeds.lines.0;
      replayed = all;
      next = o.next;
      behind = o.behind ∙ ap (λ (l : List ℕ). l ++ o.next) left;
      ends = λ h. rw all (sym (ap (λ (f : Fed). f.pause) p.feeds.answers) ∙ ends h);
    }

-- ---- a run of rounds, by what the last one answered
pub goes_on : {s m t : Standing} {chunk mid after : List ℕ} {room : ℕ} {r : Result Bool Failure} {done : Bool} → OneRound s chunk room r m mid → r ≡ Ok done
    → done ≡ false → Ends m mid t after → Ends s chunk t after
goes_on {s} {m} {chunk = chunk} {mid} {room = room} k is e rest = on (subst (λ (q : Result Bool Failure). OneRound s chunk room q m mid) (is ∙ ap Ok e) k) rest

pub is_over : {s t : Standing} {chunk after : List ℕ} {room : ℕ} {r : Result Bool Failure} {done : Bool} → OneRound s chunk room r t after → r ≡ Ok done
    → done ≡ true → Ends s chunk t after
is_over {s} {t} {chunk} {after} {room} k is e = end (subst (λ (q : Result Bool Failure). OneRound s chunk room q t after) (is ∙ ap Ok e) k)

-- the same with the tries that are left
module _ {s m : Standing} {chunk mid : List ℕ} {room : ℕ} {r : Result Bool Failure} (n : ℕ) (k : OneRound s chunk room r m mid) (left : n < 2 ^ 64 - 1) where
  one_less : suc (2 ^ 64 - 1 - (n + 1)) ≡ 2 ^ 64 - 1 - n
  one_less = omega (arith, left)

  here : {q : Result Bool Failure} → r ≡ q → OneRound s chunk room q m mid
  here e = subst (λ (q : Result Bool Failure). OneRound s chunk room q m mid) e k

  pub tries_on : {q : Result (Unit {0}) Failure} {done : Bool} → r ≡ Ok done → done ≡ false → EndsBy (2 ^ 64 - 1 - (n + 1)) m mid q → EndsBy (2 ^ 64 - 1 - n) s chunk q
  tries_on {q} is e rest = subst (λ (j : ℕ). EndsBy j s chunk q) one_less (on_by (here (is ∙ ap Ok e)) rest)

  pub tries_well : {done : Bool} → r ≡ Ok done → done ≡ true → EndsBy (2 ^ 64 - 1 - n) s chunk (Ok tt)
  tries_well is e = subst (λ (j : ℕ). EndsBy j s chunk (Ok tt)) one_less (well (here (is ∙ ap Ok e)))

  pub tries_failed : {why : Failure} → r ≡ Err why → EndsBy (2 ^ 64 - 1 - n) s chunk (Err why)
  tries_failed {why} is = subst (λ (j : ℕ). EndsBy j s chunk (Err why)) one_less (failed (here is))

pub tries_end : (s : Standing) (chunk : List ℕ) (n : ℕ) {why : IoError} → 2 ^ 64 - 1 ≤ n → EndsBy (2 ^ 64 - 1 - n) s chunk (Err (Unread why))
tries_end s chunk n {why} h =
    let none : 0 ≡ 2 ^ 64 - 1 - n = omega (arith, h) in
    subst (λ (j : ℕ). EndsBy j s chunk (Err (Unread why))) none unfinished

pub from_the_beginning : (r : Result (Unit {0}) Failure) (s t : Standing) (chunk after : List ℕ) → s.replay ≡ beginning → s.filled ≡ 0
    → OnOk r (Ends s chunk t after) → OnOk r FromTheBeginning
from_the_beginning (Ok done) s t chunk after b e h =
    record { start = s; stop = t; chunk = chunk; after = after; begun = b; empty = e; ends = h }
from_the_beginning (Err why) s t chunk after b e h = tt
