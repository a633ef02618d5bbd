-- Numbers behind blanks, one after the other, and a line made of its letter and them: what stands there, and how long it is.
-- Assumes nothing.
use Rattle.std.proofs.Common.{◌≡◌, refl, List, [], ◌∷◌, ◌++◌, append_assoc, append-nil, ℕ, ◌+◌, ◌≤◌, ◌<◌, add-one, arith, length, take, drop, get_or, take-suc, ap, sym, ◌∙◌, subst, length-append, take-append-drop}
use Rattle.rules.specs.Replay.{digits, numbers, line}
use Rattle.rules.specs.Buffers.{Written}

numbers_append : (a b : List ℕ) → numbers (a ++ b) ≡ numbers a ++ numbers b
numbers_append [] b = refl
numbers_append (n ∷ a) b = rw (numbers_append a b, append_assoc)

pub numbers_next : (ns : List ℕ) (i : ℕ) → i < length ns → numbers (take (i + 1) ns) ≡ numbers (take i ns) ++ (32 ∷ digits (get_or ns i 0))
numbers_next ns i h = rw (add-one i, take-suc ns i 0 h, numbers_append, append-nil)

-- one number more is within what all of them take
pub numbers_within : (ns : List ℕ) (i : ℕ) → i < length ns → length (numbers (take i ns)) + (1 + length (digits (get_or ns i 0))) ≤ length (numbers ns)
numbers_within ns i h =
    let all : numbers (take (i + 1) ns) ++ numbers (drop (i + 1) ns) ≡ numbers ns =
    sym (numbers_append (take (i + 1) ns) (drop (i + 1) ns)) ∙ ap numbers (take-append-drop (i + 1) ns) in
    let long = simp length-append at (ap length (rw numbers_next at all)) in
    omega arith

-- what `put_line` leaves of a word of one letter
pub line_written : (letter : ℕ) (ns ms : List ℕ) (r : ℕ) (o₀ o : List ℕ) → ns ≡ ms → Written ((letter ∷ []) ++ numbers ns ++ (10 ∷ [])) r o₀ o → Written (line letter ms) r o₀ o
unfolding line
line_written letter ns ms r o₀ o e w = subst (λ (l : List ℕ). Written (line letter l) r o₀ o) e w

pub line_room : (letter : ℕ) (ns : List ℕ) → length (line letter ns) ≡ 1 + length (numbers ns) + 1
unfolding line
line_room letter ns = simp length-append (omega arith)
