-- What one round of the second walk does with the parts that are held, with its lines and with what is read next.
-- Assumes nothing.
use Rattle.std.specs.Prelude.{◌≡◌, ℕ, ◌+◌, ◌-◌, ◌≤◌, Bool, true, false, not, ◌&&◌, List, [], ◌∷◌, length, ◌==◌, nat_lt, Option, Some, None, Result, Ok, Err}
use Rattle.comparison.specs.Compare.{Stepped, step_at, is_pair, likeness_by}
use Rattle.comparison.specs.declared.Side.{Side}
use Rattle.comparison.specs.declared.Side.TheVariants.{First, Second}
use Rattle.comparison.specs.declared.Sides.{Sides}
use Rattle.comparison.specs.declared.Step.TheVariants.{Pair, Over}
use Rattle.comparison.specs.declared.Reach.{Reach}
use Rattle.comparison.specs.declared.Likeness.{Likeness}
use Rattle.comparison.specs.declared.Likeness.TheVariants.{Equal, Prefix, Different}
use Rattle.listing.specs.Listing.{Lines, listed, Lists, closing_by}
use Rattle.listing.specs.declared.Listed.{Listed}
use Rattle.compare.specs.Parts.{Inside, part, wants_more, passed_to}
use Rattle.compare.specs.declared.Failure.{Failure}
use Rattle.compare.specs.declared.Failure.TheVariants.{Unread, Unwritten, Changed, Erred}
use Rattle.compare.specs.declared.side.Held.{Held}
use Rattle.compare.specs.declared.differences.Standing.{Standing}

-- ---- where a walk stands: inside both buffers, of so much room, and no more records are counted than bytes passed
pub record Stands (s : Standing) (m n : ℕ) : Type 0 where
  pub first_inside : Inside s.first m
  pub second_inside : Inside s.second n
  pub few : s.number ≤ s.first.base + s.first.place

abbrev pub begins_of : Standing → Sides ℕ
begins_of s = record { first = s.first.base; second = s.second.base }

abbrev pub reach_of : Standing → Reach
reach_of s = record { number = s.number; first = s.first.place; second = s.second.place; alike = s.alike }

-- ---- the lines of what is held, with so much room for them
abbrev pub lines_of : Standing → List ℕ → List ℕ → ℕ → Lines
lines_of s a b room = listed (begins_of s) (part s.first a) (part s.second b) room (reach_of s)

abbrev pub Told : Standing → List ℕ → List ℕ → Listed → List ℕ → List ℕ → Type 0
Told s a b l o₀ o = Lists (begins_of s) (part s.first a) (part s.second b) (reach_of s) l o₀ o

-- ---- the pairs that were passed, and how many bytes of their lines the writes took
abbrev pub passed_by : Reach → Standing → Standing
passed_by r s =
    record { first = passed_to r.first s.first; second = passed_to r.second s.second; number = r.number; alike = r.alike; put = s.put }

abbrev pub reached_by : Reach → ℕ → Standing → Standing
reached_by r put s =
    record { first = passed_to r.first s.first; second = passed_to r.second s.second; number = r.number; alike = r.alike; put = put }

abbrev pub step_held : Standing → List ℕ → List ℕ → Stepped
step_held s a b = step_at (part s.first a) s.first.place (part s.second b) s.second.place

-- ---- what failed: a side that could not be read, or lines that could not be written
abbrev pub unread_side : {T : Type 0} → Result T Failure → Option Side
unread_side (Ok done) = None
unread_side (Err (Unread side why)) = Some side
unread_side (Err (Unwritten why)) = None
unread_side (Err Changed) = None
unread_side (Err (Erred e)) = None

abbrev pub could_write : {T : Type 0} → Result T Failure → Bool
could_write (Ok done) = true
could_write (Err (Unread side why)) = true
could_write (Err (Unwritten why)) = false
could_write (Err Changed) = true
could_write (Err (Erred e)) = true

-- ---- what is read next
-- a side as it is after it was read anew from the first byte that was not passed
pub record ReadOn (h r : Held) (room : ℕ) : Type 0 where
  pub inside : Inside r room
  pub begins : r.base ≡ h.base + h.place
  pub anew : r.place ≡ 0

-- all but the sides stays
pub record Counts (s r : Standing) : Type 0 where
  pub number : r.number ≡ s.number
  pub alike : r.alike ≡ s.alike
  pub put : r.put ≡ s.put

-- more of a side whose next record is not whole, nothing where there was no room for a line, or the end
pub data Next (s : Standing) (a b : List ℕ) (r : Result Bool Failure) (t : Standing) (a₁ b₁ : List ℕ) : Type 0 where
  first_more : r ≡ Ok false → ReadOn s.first t.first (length a₁) → t.second ≡ s.second → Counts s t → b₁ ≡ b → Next s a b r t a₁ b₁
  second_more : r ≡ Ok false → ReadOn s.second t.second (length b₁) → t.first ≡ s.first → Counts s t → a₁ ≡ a → Next s a b r t a₁ b₁
  first_unread : unread_side r ≡ Some First → t ≡ s → b₁ ≡ b → Next s a b r t a₁ b₁
  second_unread : unread_side r ≡ Some Second → t ≡ s → a₁ ≡ a → Next s a b r t a₁ b₁
  stays : r ≡ Ok false → t ≡ s → a₁ ≡ a → b₁ ≡ b → Next s a b r t a₁ b₁
  over : r ≡ Ok true → t ≡ s → a₁ ≡ a → b₁ ≡ b → is_pair (step_held s a b) ≡ false → wants_more s.first a ≡ false → wants_more s.second b ≡ false
      → Next s a b r t a₁ b₁

pub record Onward (s : Standing) (a b : List ℕ) (r : Result Bool Failure) (t : Standing) (a₁ b₁ : List ℕ) : Type 0 where
  pub stands : Stands t (length a₁) (length b₁)
  pub next : Next s a b r t a₁ b₁

-- ---- a round, which says whether the walk is over. Its writes took as many bytes as its lines have, or it fails as one that could not write
pub data OneRound (s : Standing) (a b : List ℕ) (room : ℕ) (r : Result Bool Failure) (t : Standing) (a₁ b₁ : List ℕ) : Type 0 where
  wrote : Onward (reached_by (lines_of s a b room).reach (length (lines_of s a b room).bytes) s) a b r t a₁ b₁ → OneRound s a b room r t a₁ b₁
  unwritten : Stands t (length a₁) (length b₁) → could_write r ≡ false → OneRound s a b room r t a₁ b₁

-- ---- a walk that begins
pub record Fresh (s : Standing) : Type 0 where
  pub first_base : s.first.base ≡ 0
  pub first_filled : s.first.filled ≡ 0
  pub first_place : s.first.place ≡ 0
  pub second_base : s.second.base ≡ 0
  pub second_filled : s.second.filled ≡ 0
  pub second_place : s.second.place ≡ 0
  pub number : s.number ≡ 0
  pub alike : s.alike ≡ true

-- ---- the end of a walk
-- does it end where the first walk did? A trace that was written to meanwhile may end elsewhere, or have an error
abbrev pub ends_there : Stepped → Sides ℕ → Sides ℕ → Bool
ends_there (Ok (Pair p)) at l = false
ends_there (Ok (Over (Some First))) at l = at.first == l.first
ends_there (Ok (Over (Some Second))) at l = at.second == l.second
ends_there (Ok (Over None)) at l = at.first == l.first && at.second == l.second
ends_there (Err e) at l = false

abbrev pub is_unchanged : Stepped → Sides ℕ → Sides ℕ → Bool
is_unchanged s at l = not (nat_lt l.first at.first) && (not (nat_lt l.second at.second) && ends_there s at l)

-- where each side is in its trace
abbrev pub places_of : Standing → Sides ℕ
places_of s = record { first = s.first.base + s.first.place; second = s.second.base + s.second.place }

-- the lines that close it
abbrev pub closing_held : Stepped → Standing → Sides ℕ → List ℕ
closing_held at s l = closing_by at s.number s.alike (l.first - (places_of s).first) (l.second - (places_of s).second)

-- what came of the comparison: how alike the traces are, and of a trace that changed nothing is told
abbrev pub unless_changed : Option Likeness → Result Likeness Failure
unless_changed (Some likeness) = Ok likeness
unless_changed None = Err Changed

-- the word by which a mark tells it, with a line feed: "equal" exactly where the traces are, and else "other"
abbrev pub word_of : Likeness → List ℕ
word_of Equal = 101 ∷ 113 ∷ 117 ∷ 97 ∷ 108 ∷ 10 ∷ []
word_of Prefix = 111 ∷ 116 ∷ 104 ∷ 101 ∷ 114 ∷ 10 ∷ []
word_of Different = 111 ∷ 116 ∷ 104 ∷ 101 ∷ 114 ∷ 10 ∷ []

pub data Closes (s : Standing) (l : Sides ℕ) (a b : List ℕ) (r : Result Likeness Failure) : Type 0 where
  closed : is_unchanged (step_held s a b) (places_of s) l ≡ true → r ≡ unless_changed (likeness_by (step_held s a b) s.alike) → Closes s l a b r
  changed : is_unchanged (step_held s a b) (places_of s) l ≡ false → r ≡ Err Changed → Closes s l a b r
  not_taken : could_write r ≡ false → Closes s l a b r
