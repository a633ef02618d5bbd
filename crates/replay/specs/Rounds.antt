-- What one round of a run does with the bytes that wait in the chunk buffer and with its lines, and that a run of such rounds
-- prints what the whole trace prints. That the bytes which the writes took are those of the lines, and the bytes which the reads
-- brought those of the trace, is what `Ran` takes for granted; that they are as many is in `OneRound`.
-- Assumes nothing.
use Rattle.std.specs.Prelude.{◌≡◌, ℕ, suc, ◌≤◌, Bool, true, false, List, [], ◌++◌, length, take, drop, Result, Ok, Err}
use Rattle.std.specs.declared.io.Error.{Error as IoError}
use Rattle.std.proofs.Common.{subst, refl}
use Rattle.rules.specs.Trace.{read_at}
use Rattle.rules.specs.Replay.{beginning, replay}
use Rattle.rules.specs.Chunks.{Part, part, pause_of}
use Rattle.rules.specs.Invariant.{Playing}
use Rattle.rules.proofs.Laws.Cuts.{Played, however_cut}
use Rattle.rules.proofs.Laws.Cuts.Played.{feed, more, over}
use Rattle.rules.specs.declared.replay.Replay.{Replay}
use Rattle.rules.specs.declared.replay.Fed.{Fed}
use Rattle.rules.specs.declared.replay.Pause.TheVariants.{Over}
use Rattle.steps.specs.Fed.{Feeds}
use Rattle.replay.specs.declared.rounds.Standing.{Standing}
use Rattle.replay.specs.declared.rounds.Failure.{Failure}
use Rattle.replay.specs.declared.rounds.Failure.TheVariants.{Unread, Unwritten}

-- ---- where a run stands: the bytes that wait are within the chunk buffer, of so much room
abbrev pub Stands : Standing → ℕ → Type 0
Stands s room = Playing s.replay × (s.filled ≤ room)

abbrev pub waiting : Standing → List ℕ → List ℕ
waiting s chunk = take s.filled chunk

-- ---- the steps of a round
-- what it replays, with so much room for lines
abbrev pub part_of : Standing → List ℕ → ℕ → Part
part_of s chunk room = part s.last (waiting s chunk) room 0 s.replay

-- the bytes that wait are fed, and their lines stand in a line buffer that held out₀
pub record Replayed (s : Standing) (chunk out₀ out : List ℕ) (f : Fed) : Type 0 where
  pub feeds : Feeds s.last (waiting s chunk) 0 s.replay f out₀ out
  pub fits : f.count ≤ length out
  pub inside : f.place ≤ s.filled

-- what they leave waits at the front
pub record LeftOver (f : Fed) (s : Standing) (chunk : List ℕ) (t : Standing) (after : List ℕ) : Type 0 where
  pub same : t.replay ≡ f.replay
  pub stands : Stands t (length after)
  pub put : t.put ≡ s.put
  pub left : waiting t after ≡ drop f.place (waiting s chunk)

-- the replay stays, and more bytes may come behind those that wait
pub record Onward (s : Standing) (chunk : List ℕ) (t : Standing) (after : List ℕ) : Type 0 where
  pub stands : Stands t (length after)
  pub put : t.put ≡ s.put
  pub same : t.replay ≡ s.replay
  pub next : List ℕ
  pub behind : waiting t after ≡ waiting s chunk ++ next

-- ---- a round, which says whether the replay is over. Its writes took as many bytes as its lines have, or it fails as one that could not write
abbrev pub could_write : Result Bool Failure → Bool
could_write (Ok done) = true
could_write (Err (Unread why)) = true
could_write (Err (Unwritten why)) = false

pub record OneRound (s : Standing) (chunk : List ℕ) (room : ℕ) (r : Result Bool Failure) (t : Standing) (after : List ℕ) : Type 0 where
  pub stands : Stands t (length after)
  pub puts : could_write r ≡ true → t.put ≡ length (part_of s chunk room).bytes
  pub replayed : t.replay ≡ (part_of s chunk room).replay
  pub next : List ℕ
  pub behind : waiting t after ≡ drop (part_of s chunk room).place (waiting s chunk) ++ next
  pub ends : r ≡ Ok true → pause_of s.last (read_at (waiting s chunk) (part_of s chunk room).place) t.replay ≡ Over

-- ---- rounds that go on, up to one by which the replay is over
pub data Ends : Standing → List ℕ → Standing → List ℕ → Type 0 where
  on : {s m t : Standing} {chunk mid after : List ℕ} {room : ℕ} → OneRound s chunk room (Ok false) m mid → Ends m mid t after → Ends s chunk t after
  end : {s t : Standing} {chunk after : List ℕ} {room : ℕ} → OneRound s chunk room (Ok true) t after → Ends s chunk t after

-- how a run ends that may try so many rounds: as its last round did, and one that may still go on has not come to the end of its trace
pub data EndsBy : ℕ → Standing → List ℕ → Result (Unit {0}) Failure → Type 0 where
  on : {s m : Standing} {chunk mid : List ℕ} {room more : ℕ} {r : Result (Unit {0}) Failure}
      → OneRound s chunk room (Ok false) m mid → EndsBy more m mid r → EndsBy (suc more) s chunk r
  well : {s t : Standing} {chunk after : List ℕ} {room more : ℕ} → OneRound s chunk room (Ok true) t after → EndsBy (suc more) s chunk (Ok tt)
  failed : {s t : Standing} {chunk after : List ℕ} {room more : ℕ} {why : Failure} → OneRound s chunk room (Err why) t after → EndsBy (suc more) s chunk (Err why)
  unfinished : {s : Standing} {chunk : List ℕ} {why : IoError} → EndsBy 0 s chunk (Err (Unread why))

-- from the beginning of a trace, of which nothing is read yet
pub record FromTheBeginning : Type 0 where
  pub start : Standing
  pub stop : Standing
  pub chunk : List ℕ
  pub after : List ℕ
  pub begun : start.replay ≡ beginning
  pub empty : start.filled ≡ 0
  pub ends : Ends start chunk stop after

-- ---- a run: rounds with any room, each of which goes on, up to one that ends well. The bytes that are read make up the rest of the trace, of which
-- none is left once a read said that it is at the end; the lines that are written make up what is printed
pub data Ran : Standing → List ℕ → List ℕ → List ℕ → Type 0 where
  on : {s t : Standing} {chunk after later out : List ℕ} {room : ℕ} (k : OneRound s chunk room (Ok false) t after)
      → (s.last ≡ true → k.next ++ later ≡ []) → Ran t after later out
      → Ran s chunk (k.next ++ later) ((part_of s chunk room).bytes ++ out)
  end : {s t : Standing} {chunk after later : List ℕ} {room : ℕ} → OneRound s chunk room (Ok true) t after → (s.last ≡ true → later ≡ [])
      → Ran s chunk later ((part_of s chunk room).bytes ++ [])

-- a round is a feed and more bytes, and the last one a feed and the end
ran_plays : {s : Standing} {chunk later out : List ℕ} → Ran s chunk later out → Played s.replay (waiting s chunk) 0 later out
ran_plays (on {s} {t} {chunk} {after} {later} {out} {room} k none rest) =
    let here : List ℕ = drop (part_of s chunk room).place (waiting s chunk) ++ k.next in
    let moved : Played t.replay here 0 later out = subst (λ (l : List ℕ). Played t.replay l 0 later out) k.behind (ran_plays rest) in
    feed s.last room none (more k.next (subst (λ (p : Replay). Played p here 0 later out) k.replayed moved))
ran_plays (end {s} {room = room} k none) =
    feed s.last room none (over s.last none (rw k.replayed at (k.ends refl)))

-- so a run from the beginning, with nothing read yet, prints what the whole trace prints
pub a_run_prints_the_replay : {s : Standing} {chunk trace out : List ℕ} → s.replay ≡ beginning → s.filled ≡ 0 → Ran s chunk trace out
    → out ≡ replay trace
a_run_prints_the_replay {s} {chunk} {trace} {out} begun empty ran =
    however_cut
    (subst (λ (p : Replay). Played p [] 0 trace out) begun
    (subst (λ (n : ℕ). Played s.replay (take n chunk) 0 trace out) empty (ran_plays ran)))
