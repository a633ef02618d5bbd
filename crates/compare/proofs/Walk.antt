-- What the proofs of a round of the second walk share, stated of plain values: a side that cannot be read, the pairs that are
-- passed, and a round whose lines are written.
-- Assumes nothing.
use Rattle.std.proofs.Common.{◌≡◌, ℕ, ◌≤◌, Bool, Some, Result, List, length, refl, subst, arith, length-take-le}
use Rattle.comparison.specs.declared.Side.TheVariants.{First, Second}
use Rattle.listing.specs.declared.Listed.{Listed}
use Rattle.compare.specs.Parts.{Inside}
use Rattle.compare.specs.Rounds.{Stands, passed_by, reached_by, lines_of, Told, unread_side, Onward, OneRound}
use Rattle.compare.specs.Rounds.Next.{first_unread, second_unread}
use Rattle.compare.specs.Rounds.OneRound.{wrote}
use Rattle.compare.specs.declared.Failure.{Failure}
use Rattle.compare.specs.declared.side.Held.{Held}
use Rattle.compare.specs.declared.differences.Standing.{Standing}

-- what cannot be read anew stays
pub first_stays : {s : Standing} {h : Held} {r : Result Bool Failure} {a b a₁ : List ℕ} → Stands s (length a) (length b) → Inside h (length a₁) → h ≡ s.first
    → unread_side r ≡ Some First
    → Onward s a b r (record { first = h; second = s.second; number = s.number; alike = s.alike; put = s.put }) a₁ b
first_stays st i e u =
    record {
      stands = record { first_inside = i; second_inside = st.second_inside; few = rw e st.few };
      next = first_unread u (rw e) refl;
    }

pub second_stays : {s : Standing} {h : Held} {r : Result Bool Failure} {a b b₁ : List ℕ} → Stands s (length a) (length b) → Inside h (length b₁) → h ≡ s.second
    → unread_side r ≡ Some Second
    → Onward s a b r (record { first = s.first; second = h; number = s.number; alike = s.alike; put = s.put }) a b₁
second_stays st i e u =
    record {
      stands = record { first_inside = st.first_inside; second_inside = i; few = st.few };
      next = second_unread u (rw e) refl;
    }

-- the pairs that are passed lie inside
pub passed_inside : {s p : Standing} {l : Listed} (a b : List ℕ) {o₀ o : List ℕ} → Stands s (length a) (length b) → Told s a b l o₀ o → p ≡ passed_by l.reach s
    → Stands p (length a) (length b)
passed_inside {s} {p} {l} a b st told e =
    let here : l.reach.first ≤ s.first.filled = omega (arith, told.holds.first_in, length-take-le s.first.filled a st.first_inside.filled) in
    let there : l.reach.second ≤ s.second.filled = omega (arith, told.holds.second_in, length-take-le s.second.filled b st.second_inside.filled) in
    rw e
    (record {
      first_inside = record { passed = here; filled = st.first_inside.filled; near = st.first_inside.near; small = st.first_inside.small };
      second_inside = record { passed = there; filled = st.second_inside.filled; near = st.second_inside.near; small = st.second_inside.small };
      few = told.holds.number_fits;
    })

-- all lines of what is held were taken
pub goes_on : {s p t : Standing} {l : Listed} {r : Result Bool Failure} {a b a₁ b₁ o₀ o : List ℕ} (put : ℕ) → Told s a b l o₀ o → p ≡ passed_by l.reach s → put ≡ l.count
    → Onward (record { first = p.first; second = p.second; number = p.number; alike = p.alike; put = put }) a b r t a₁ b₁ → OneRound s a b (length o₀) r t a₁ b₁
goes_on {s} {p} {t} {l} {r} {a} {b} {a₁} {b₁} {o₀} put told e f o = wrote (subst (λ (q : Standing). Onward q a b r t a₁ b₁) same o)
  where
    lines : ℕ
    lines = length (lines_of s a b (length o₀)).bytes

    same : ◌≡◌ {A = Standing} (record { first = p.first; second = p.second; number = p.number; alike = p.alike; put = put })
        (reached_by (lines_of s a b (length o₀)).reach lines s)
    same = rw (e, f, told.lines.0, told.reached)
