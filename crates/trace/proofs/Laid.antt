-- Laws of bytes laid into a buffer: its length stays, one store lays one byte, std's bytes of a number are those of the rules, and what is laid next to it goes on from there.
-- Assumes nothing.
use mathlib.Core.Path.{◌≡◌, refl, sym, ◌∙◌}
use mathlib.Core.List.{List, [], ◌∷◌, ◌++◌, append-nil, append_assoc}
use Prim.Native.Nat.{ℕ, zero, suc, ◌+◌, ◌-◌, ◌/◌, ◌%◌, ◌^◌, ◌≤◌, ◌<◌}
use native.Mathlib.Nat.{add-zero, zero-add, add_assoc, pow-zero, pow-suc, div-one, div-div-eq-div-mul}
use native.Mathlib.Numerals.{add-one}
use native.Mathlib.Omega.{arith}
use lib.ListN.{length, take, drop, set, take-append-drop, length-append, length-take, length-drop}
use lib.Seq.{drop-length, drop-append-add, drop-drop, set_split, take_at}
use Rattle.rules.specs.Trace.{bytes_of, total, body_of}
use Rattle.std.specs.Int.{Width, byte_len, byte_at, bytes_low_first, to_le_bytes}
use Rattle.std.proofs.lemmas.List.{take_all}
use Rattle.rules.specs.Buffers.{rest_of, put_back}
use Rattle.rules.proofs.Laws.Trace.{length_bytes}
use Rattle.trace.specs.Laid.{laid}

pub laid_none : (at : ℕ) (l : List ℕ) → laid [] at l ≡ l
unfolding laid
laid_none at l = rw add-zero (take-append-drop at l)

pub laid_length : (bs : List ℕ) (at : ℕ) (l : List ℕ) → at + length bs ≤ length l → length (laid bs at l) ≡ length l
unfolding laid
laid_length bs at l h = simp (length-append, length-take, length-drop) (omega arith)

pub laid_one : (b at : ℕ) (l : List ℕ) → at < length l → set l at b ≡ laid (b ∷ []) at l
unfolding laid
laid_one b at l h = rw add-one (set_split l at b h)

pub laid_on : (xs ys : List ℕ) (at : ℕ) (l : List ℕ) → at + length xs + length ys ≤ length l
    → laid ys (at + length xs) (laid xs at l) ≡ laid (xs ++ ys) at l
unfolding laid
laid_on xs ys at l h =
    let before : List ℕ = take at l ++ xs in
    let after : List ℕ = drop (at + length xs) l in
    let so_far : length before ≡ at + length xs = simp (length-append, length-take) (omega arith) in
    let kept : take (at + length xs) (before ++ after) ≡ before = take_at before after (at + length xs) so_far in
    let past : drop (at + length xs + length ys) (before ++ after) ≡ drop (at + length xs + length ys) l =
    (rw so_far at (drop-append-add before after (length ys))) ∙ drop-drop (length ys) (at + length xs) l in
    rw (← append_assoc (take at l) xs after, kept, past, length-append, ← add_assoc) (simp append_assoc)

-- what is laid at the beginning of a part, once the part is back in its place
pub laid_behind : (at : ℕ) (bs s : List ℕ) {ys : List ℕ} → at + length bs ≤ length s → ys ≡ laid bs 0 (rest_of s at) → put_back s at ys ≡ laid bs at s
unfolding laid
laid_behind at bs s h d =
    let whole : rest_of s at ≡ drop at s = take_all (length s - at) (drop at s) (simp length-drop (omega arith)) in
    let end : at + (length s - at) ≡ length s = omega arith in
    let none : drop (length s - at) (drop at s) ≡ [] = drop-drop (length s - at) at s ∙ rw end (drop-length s) in
    let behind : drop (length bs) (drop at s) ≡ drop (at + length bs) s = drop-drop (length bs) at s in
    rw (none, append-nil, d, whole, zero-add, behind)

-- ---- the bytes that std makes of a number
byte_at_is : (i n : ℕ) → byte_at i n ≡ (n / 256 ^ i) % 256
byte_at_is zero n = rw (pow-zero, div-one)
byte_at_is (suc i) n = refl

low_bytes : (i k n : ℕ) → bytes_low_first i k n ≡ bytes_of k (n / 256 ^ i)
unfolding bytes_of
low_bytes i zero n = refl
low_bytes i (suc k) n = rw (byte_at_is i n, low_bytes (suc i) k n, pow-suc, div-div-eq-div-mul)

le_bytes : (w : Width) (n : ℕ) → to_le_bytes w n ≡ bytes_of (byte_len w) n
le_bytes w n = low_bytes 0 (byte_len w) n ∙ rw (pow-zero, div-one)

-- one call of `put`
pub put_le : (w : Width) (n at : ℕ) (l : List ℕ) {bs l₁ : List ℕ} → bs ≡ to_le_bytes w n → l₁ ≡ laid bs at l → l₁ ≡ laid (bytes_of (byte_len w) n) at l
put_le w n at l e d = rw (e, le_bytes w n) at d

-- ---- the numbers of a body, put one behind the other
abbrev put_all : List ℕ → List ℕ → ℕ → List ℕ → List ℕ
put_all [] fs at l = l
put_all (w ∷ ws) [] at l = l
put_all (w ∷ ws) (f ∷ fs) at l = put_all ws fs (at + w) (laid (bytes_of w f) at l)

pub length_body_le : (ws fs : List ℕ) → length (body_of ws fs) ≤ total ws
unfolding body_of
length_body_le [] fs = omega arith
length_body_le (w ∷ ws) [] = omega arith
length_body_le (w ∷ ws) (f ∷ fs) = simp (length-append, length_bytes) (omega (arith, length_body_le ws fs))

pub body_laid_lem : (ws fs : List ℕ) (at : ℕ) (l : List ℕ) → at + total ws ≤ length l → put_all ws fs at l ≡ laid (body_of ws fs) at l
unfolding body_of
body_laid_lem [] fs at l h = sym (laid_none at l)
body_laid_lem (w ∷ ws) [] at l h = sym (laid_none at l)
body_laid_lem (w ∷ ws) (f ∷ fs) at l h =
    let first : length (bytes_of w f) ≡ w = length_bytes w f in
    let long : length (laid (bytes_of w f) at l) ≡ length l = laid_length (bytes_of w f) at l (omega arith) in
    let others : length (body_of ws fs) ≤ total ws = length_body_le ws fs in
    body_laid_lem ws fs (at + w) (laid (bytes_of w f) at l) (omega arith) ∙ (rw first at (laid_on (bytes_of w f) (body_of ws fs) at l (omega arith)))
