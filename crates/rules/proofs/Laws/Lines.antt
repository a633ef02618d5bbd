-- Laws of the replay's lines: their digits, one by one, and how long they are at most.
-- Assumes nothing.
use Rattle.std.specs.Prelude.{◌≡◌, Bool, true, false, cond, ◌⊎◌, List, [], ◌∷◌, ◌++◌, ℕ, zero, suc, ◌+◌, ◌-◌, ◌*◌, ◌/◌, ◌%◌, ◌^◌, ◌≤◌, ◌<◌, ltb, length, take, drop, get_or}
use Rattle.std.proofs.Math.Path.{refl}
use Rattle.std.proofs.Common.{sym, ap, ◌∙◌, inl, inr, ⊎_elim, append_assoc, append-nil, div-lt_iff_lt-mul, pow-suc, arith, add-one, length-append, take-suc, ltb-true, ltb-false, lt-ltb, le-ltb}
use Rattle.std.proofs.Math.Seq.{drop-append_seam}
use Rattle.rules.specs.Words.{join_to, has}
use Rattle.rules.specs.Numbers.{refusal_room}
use Rattle.rules.specs.Refusals.{fault_number, fault_node, number, named}
use Rattle.rules.specs.Replay.{digits_in, digits, numbers, line, refusal_line, release_lines, share_lines, leaf_line, share_lines_to, share_lines_of}
use Rattle.rules.specs.declared.budget.Controller.{Controller}
use Rattle.rules.specs.declared.tree.Fault.{Fault}
use Rattle.rules.specs.declared.tree.Fault.TheVariants.{Count, Parent, Weight, Level}
use Rattle.rules.specs.declared.refusals.Refusal.{Refusal}
use Rattle.rules.specs.declared.refusals.Refusal.TheVariants.{BadTree, ThinTree, BadRate, NoLeaf, BadBio, TooDear, QueueFull, DebtFull, TimeBack, TimeFar, ClockFull, PlanDue, FewPlaces, NothingPassed, BadVrate, UnknownKind, CutShort, WrongPhase, NotBelowRoot, ShortBuffer}

-- ---- digits
digits_in_none : (n : ℕ) → digits_in 0 n ≡ []
unfolding digits_in
digits_in_none n = refl

digits_in_short : (more n : ℕ) → n < 10 → digits_in (suc more) n ≡ (48 + n) ∷ []
unfolding digits_in
digits_in_short more n h = rw (lt-ltb n 10 h)

digits_in_long : (more n : ℕ) → 10 ≤ n → digits_in (suc more) n ≡ digits_in more (n / 10) ++ ((48 + n % 10) ∷ [])
unfolding digits_in
digits_in_long more n h = rw (le-ltb n 10 h)

tenth_below : (k n : ℕ) → n < 10 ^ suc k → n / 10 < 10 ^ k
tenth_below k n h = let ten : 0 < 10 = omega arith in (div-lt_iff_lt-mul ten).1 (rw pow-suc at h)

-- a place more changes nothing of a number that has room
digits_in_room : (k n : ℕ) → n < 10 ^ suc k → digits_in (suc (suc k)) n ≡ digits_in (suc k) n
digits_in_room zero n h = digits_in_short 1 n (omega arith) ∙ sym (digits_in_short 0 n (omega arith))
digits_in_room (suc k) n h = go (ltb n 10) refl (digits_in_room k (n / 10) (tenth_below (suc k) n h))
  where
    go : (b : Bool) → ltb n 10 ≡ b → digits_in (suc (suc k)) (n / 10) ≡ digits_in (suc k) (n / 10)
        → digits_in (suc (suc (suc k))) n ≡ digits_in (suc (suc k)) n
    go true e same = digits_in_short (suc (suc k)) n (ltb-true n 10 e) ∙ sym (digits_in_short (suc k) n (ltb-true n 10 e))
    go false e same =
        rw (digits_in_long (suc (suc k)) n (ltb-false n 10 e), digits_in_long (suc k) n (ltb-false n 10 e), same)

-- a number of k digits has no more
digits_in_most : (more k n : ℕ) → n < 10 ^ suc k → length (digits_in more n) ≤ suc k
digits_in_most zero k n h = rw digits_in_none (omega arith)
digits_in_most (suc more) zero n h = rw (digits_in_short more n (omega arith)) (omega arith)
digits_in_most (suc more) (suc k) n h = go (ltb n 10) refl (digits_in_most more k (n / 10) (tenth_below (suc k) n h))
  where
    go : (b : Bool) → ltb n 10 ≡ b → length (digits_in more (n / 10)) ≤ suc k → length (digits_in (suc more) n) ≤ suc (suc k)
    go true e less = rw (digits_in_short more n (ltb-true n 10 e)) (omega arith)
    go false e less = rw (digits_in_long more n (ltb-false n 10 e), length-append) (omega arith)

pub digits_short : (n : ℕ) → n < 10 → digits n ≡ (48 + n) ∷ []
unfolding digits
digits_short n h = digits_in_short 19 n h

pub digits_long : (n : ℕ) → 10 ≤ n → n < 2 ^ 64 → digits n ≡ digits (n / 10) ++ ((48 + n % 10) ∷ [])
unfolding digits
digits_long n h f = rw (digits_in_long 19 n h, digits_in_room 18 (n / 10) (omega arith))

pub digits_most : (k n : ℕ) → n < 10 ^ suc k → length (digits n) ≤ suc k
unfolding digits
digits_most k n h = digits_in_most 20 k n h

-- no number is written with more digits than one of 64 bits has
digits_in_room_of : (more n : ℕ) → length (digits_in more n) ≤ more
digits_in_room_of zero n = rw digits_in_none (omega arith)
digits_in_room_of (suc more) n = go (ltb n 10) refl (digits_in_room_of more (n / 10))
  where
    go : (b : Bool) → ltb n 10 ≡ b → length (digits_in more (n / 10)) ≤ more → length (digits_in (suc more) n) ≤ suc more
    go true e less = rw (digits_in_short more n (ltb-true n 10 e)) (omega arith)
    go false e less = rw (digits_in_long more n (ltb-false n 10 e), length-append) (omega arith)

pub digits_room : (n : ℕ) → length (digits n) ≤ 20
unfolding digits
digits_room n = digits_in_room_of 20 n

-- ---- a line, written from its letter on
pub line_one : (letter a : ℕ) → line letter (a ∷ []) ≡ ((letter ∷ []) ++ (32 ∷ digits a)) ++ (10 ∷ [])
unfolding line
line_one letter a = ap (λ (l : List ℕ). letter ∷ 32 ∷ (l ++ (10 ∷ []))) (append-nil (digits a))

pub line_two : (letter a b : ℕ) → line letter (a ∷ b ∷ []) ≡ (((letter ∷ []) ++ (32 ∷ digits a)) ++ (32 ∷ digits b)) ++ (10 ∷ [])
unfolding line
line_two letter a b = ap (λ (l : List ℕ). letter ∷ 32 ∷ (digits a ++ (32 ∷ l) ++ (10 ∷ []))) (append-nil (digits b))

pub line_one_length : (letter a : ℕ) → length (line letter (a ∷ [])) ≡ length (digits a) + 3
line_one_length letter a = rw line_one (simp length-append (omega arith))

pub line_two_length : (letter a b : ℕ) → length (line letter (a ∷ b ∷ [])) ≡ length (digits a) + length (digits b) + 4
line_two_length letter a b = rw line_two (simp length-append (omega arith))

-- the lines I, W, D and r of an id
pub id_line_most : (letter id : ℕ) → id < 2 ^ 32 → length (line letter (id ∷ [])) ≤ 13
id_line_most letter id h = omega (arith, line_one_length letter id, digits_most 9 id (omega arith))

-- the line P of a node and its share
pub share_line_most : (n share : ℕ) → n < 100 → share < 2 ^ 32 → length (line 80 (n ∷ share ∷ [])) ≤ 16
share_line_most n share h f =
    omega (arith, line_two_length 80 n share, digits_most 1 n (omega arith), digits_most 9 share (omega arith))

-- ---- a refusal: a fault of the tree, which names a node, or another, which names nothing
pub record OfTree (x : Refusal) : Type 0 where
  pub fault : Fault
  pub is : x ≡ BadTree fault
  pub node : named x ≡ fault_node fault ∷ []

pub names_a_node_or_nothing : (x : Refusal) → OfTree x ⊎ (named x ≡ [])
names_a_node_or_nothing (BadTree f) = inl (record { fault = f; is = refl; node = refl })
names_a_node_or_nothing ThinTree = inr refl
names_a_node_or_nothing BadRate = inr refl
names_a_node_or_nothing NoLeaf = inr refl
names_a_node_or_nothing BadBio = inr refl
names_a_node_or_nothing TooDear = inr refl
names_a_node_or_nothing QueueFull = inr refl
names_a_node_or_nothing DebtFull = inr refl
names_a_node_or_nothing TimeBack = inr refl
names_a_node_or_nothing TimeFar = inr refl
names_a_node_or_nothing ClockFull = inr refl
names_a_node_or_nothing PlanDue = inr refl
names_a_node_or_nothing FewPlaces = inr refl
names_a_node_or_nothing NothingPassed = inr refl
names_a_node_or_nothing BadVrate = inr refl
names_a_node_or_nothing UnknownKind = inr refl
names_a_node_or_nothing CutShort = inr refl
names_a_node_or_nothing WrongPhase = inr refl
names_a_node_or_nothing NotBelowRoot = inr refl
names_a_node_or_nothing ShortBuffer = inr refl

fault_number_range : (f : Fault) → (fault_number f < 100) × (fault_number f ≡ 1 → ⊥)
fault_number_range Count = (omega arith, λ e. omega arith)
fault_number_range (Parent n) = (omega arith, λ e. omega arith)
fault_number_range (Weight n) = (omega arith, λ e. omega arith)
fault_number_range (Level n) = (omega arith, λ e. omega arith)

-- every number has two digits at most, and none is 1 any more
pub number_range : (x : Refusal) → (number x < 100) × (number x ≡ 1 → ⊥)
number_range (BadTree f) = fault_number_range f
number_range ThinTree = (omega arith, λ e. omega arith)
number_range BadRate = (omega arith, λ e. omega arith)
number_range NoLeaf = (omega arith, λ e. omega arith)
number_range BadBio = (omega arith, λ e. omega arith)
number_range TooDear = (omega arith, λ e. omega arith)
number_range QueueFull = (omega arith, λ e. omega arith)
number_range DebtFull = (omega arith, λ e. omega arith)
number_range TimeBack = (omega arith, λ e. omega arith)
number_range TimeFar = (omega arith, λ e. omega arith)
number_range ClockFull = (omega arith, λ e. omega arith)
number_range PlanDue = (omega arith, λ e. omega arith)
number_range FewPlaces = (omega arith, λ e. omega arith)
number_range NothingPassed = (omega arith, λ e. omega arith)
number_range BadVrate = (omega arith, λ e. omega arith)
number_range UnknownKind = (omega arith, λ e. omega arith)
number_range CutShort = (omega arith, λ e. omega arith)
number_range WrongPhase = (omega arith, λ e. omega arith)
number_range NotBelowRoot = (omega arith, λ e. omega arith)
number_range ShortBuffer = (omega arith, λ e. omega arith)

pub refusal_line_most : (x : Refusal) → length (refusal_line x) ≤ refusal_room
unfolding refusal_line
refusal_line_most x =
    ⊎_elim
    (λ (w : OfTree x).
    rw w.is
    (omega (arith, line_two_length 82 (fault_number w.fault) (fault_node w.fault), digits_most 1 (fault_number w.fault) (fault_number_range w.fault).0, digits_room (fault_node w.fault))))
    (λ (e : named x ≡ []). rw e (omega (arith, line_one_length 82 (number x), digits_most 1 (number x) (number_range x).0)))
    (names_a_node_or_nothing x)

pub refusal_line_some : (x : Refusal) → refusal_line x ≡ [] → ⊥
unfolding refusal_line line
refusal_line_some x e = omega (arith, ap length e)

-- a line R tells its number
two_digits : (n : ℕ) → 10 ≤ n → n < 100 → digits n ≡ (48 + n / 10) ∷ (48 + n % 10) ∷ []
two_digits n l h =
    rw (digits_long n l (omega arith), digits_short (n / 10) (tenth_below 1 n h))

-- what stands behind the first number of a line is no digit
behind_first : (ns : List ℕ) → get_or (numbers ns ++ (10 ∷ [])) 0 0 ≤ 32
behind_first [] = omega arith
behind_first (n ∷ ns) = omega arith

line_begins : (letter a : ℕ) (ns : List ℕ) → line letter (a ∷ ns) ≡ letter ∷ 32 ∷ (digits a ++ (numbers ns ++ (10 ∷ [])))
unfolding line
line_begins letter a ns = ap (λ (l : List ℕ). letter ∷ 32 ∷ l) (append_assoc (digits a) (numbers ns) (10 ∷ []))

line_tells : (letter a b : ℕ) (ms ns : List ℕ) → a < 100 → b < 100 → line letter (a ∷ ms) ≡ line letter (b ∷ ns) → a ≡ b
line_tells letter a b ms ns h k e =
    go (ltb a 10) (ltb b 10) refl refl (behind_first ms) (behind_first ns) (sym (line_begins letter a ms) ∙ e ∙ line_begins letter b ns)
  where
    more : List ℕ → List ℕ
    more l = numbers l ++ (10 ∷ [])

    go : (c d : Bool) → ltb a 10 ≡ c → ltb b 10 ≡ d → get_or (more ms) 0 0 ≤ 32 → get_or (more ns) 0 0 ≤ 32
        → letter ∷ 32 ∷ (digits a ++ more ms) ≡ letter ∷ 32 ∷ (digits b ++ more ns) → a ≡ b
    go true true p q i j f =
        let x = rw (digits_short a (ltb-true a 10 p), digits_short b (ltb-true b 10 q)) at f in
        omega (arith, ap (λ (l : List ℕ). get_or l 2 0) x)
    go true false p q i j f =
        let x = rw (digits_short a (ltb-true a 10 p), two_digits b (ltb-false b 10 q) k) at f in
        absurd (omega (arith, ap (λ (l : List ℕ). get_or l 3 0) x))
    go false true p q i j f =
        let x = rw (two_digits a (ltb-false a 10 p) h, digits_short b (ltb-true b 10 q)) at f in
        absurd (omega (arith, ap (λ (l : List ℕ). get_or l 3 0) x))
    go false false p q i j f =
        let x = rw (two_digits a (ltb-false a 10 p) h, two_digits b (ltb-false b 10 q) k) at f in
        omega (arith, ap (λ (l : List ℕ). get_or l 2 0) x, ap (λ (l : List ℕ). get_or l 3 0) x)

pub refusal_line_tells_number : (x y : Refusal) → refusal_line x ≡ refusal_line y → number x ≡ number y
unfolding refusal_line
refusal_line_tells_number x y e = line_tells 82 (number x) (number y) (named x) (named y) (number_range x).0 (number_range y).0 e

-- ---- and what it names: decimal digits spell their number, behind one that was read already
spelled : ℕ → List ℕ → ℕ
spelled n [] = n
spelled n (d ∷ ds) = spelled (10 * n + (d - 48)) ds

spelled_last : (n : ℕ) (ds : List ℕ) (d : ℕ) → spelled n (ds ++ (d ∷ [])) ≡ 10 * spelled n ds + (d - 48)
unfolding spelled
spelled_last n [] d = refl
spelled_last n (e ∷ ds) d = spelled_last (10 * n + (e - 48)) ds d

digits_in_spell : (more n : ℕ) → n < 10 ^ more → spelled 0 (digits_in more n) ≡ n
unfolding spelled
digits_in_spell zero n h = rw digits_in_none (omega arith)
digits_in_spell (suc more) n h = go (ltb n 10) refl (digits_in_spell more (n / 10) (tenth_below more n h))
  where
    go : (b : Bool) → ltb n 10 ≡ b → spelled 0 (digits_in more (n / 10)) ≡ n / 10 → spelled 0 (digits_in (suc more) n) ≡ n
    go true e i = rw (digits_in_short more n (ltb-true n 10 e)) (omega arith)
    go false e i = rw (digits_in_long more n (ltb-false n 10 e), spelled_last, i) (omega arith)

digits_spell : (n : ℕ) → n < 2 ^ 64 → spelled 0 (digits n) ≡ n
unfolding digits
digits_spell n h = digits_in_spell 20 n (omega arith)

-- a node, with the line feed behind it
node_told : (a b : ℕ) → a < 2 ^ 64 → b < 2 ^ 64 → digits a ++ (10 ∷ []) ≡ digits b ++ (10 ∷ []) → a ≡ b
node_told a b h k e =
    let f = sym (spelled_last 0 (digits a) 10) ∙ ap (spelled 0) e ∙ spelled_last 0 (digits b) 10 in
    omega (arith, rw (digits_spell a h, digits_spell b k) at f)

node_written : {x : Refusal} (w : OfTree x) → numbers (named x) ++ (10 ∷ []) ≡ 32 ∷ (digits (fault_node w.fault) ++ (10 ∷ []))
node_written w =
    ap (λ (l : List ℕ). numbers l ++ (10 ∷ [])) w.node ∙ ap (λ (l : List ℕ). 32 ∷ (l ++ (10 ∷ []))) (append-nil (digits (fault_node w.fault)))

-- what stands behind the number of a line R
behind_told : (x : Refusal) → drop (suc (suc (length (digits (number x))))) (refusal_line x) ≡ numbers (named x) ++ (10 ∷ [])
unfolding refusal_line
behind_told x = rw (line_begins 82 (number x) (named x)) (drop-append_seam (digits (number x)) (numbers (named x) ++ (10 ∷ [])))

-- every node fits the bits of its type
abbrev NodesFit : Refusal → Type 0
NodesFit x = (n : ℕ) → named x ≡ n ∷ [] → n < 2 ^ 64

-- a line R tells its number and its node
pub refusal_line_tells : (x y : Refusal) → NodesFit x → NodesFit y → refusal_line x ≡ refusal_line y → (number x ≡ number y) × (named x ≡ named y)
refusal_line_tells x y h k e = (same, ⊎_elim node nothing (names_a_node_or_nothing x))
  where
    same : number x ≡ number y
    same = refusal_line_tells_number x y e

    rest : numbers (named x) ++ (10 ∷ []) ≡ numbers (named y) ++ (10 ∷ [])
    rest =
        sym (behind_told x) ∙ ap (λ (l : List ℕ). drop (suc (suc (length (digits (number x))))) l) e
        ∙ ap (λ (n : ℕ). drop (suc (suc (length (digits n)))) (refusal_line y)) same ∙ behind_told y

    node : OfTree x → named x ≡ named y
    node v =
        ⊎_elim
        (λ (w : OfTree y).
        let f = sym (node_written v) ∙ rest ∙ node_written w in
        let i = node_told (fault_node v.fault) (fault_node w.fault) (h _ v.node) (k _ w.node) (ap (λ (l : List ℕ). drop 1 l) f) in
        v.node ∙ ap (λ (n : ℕ). n ∷ []) i ∙ sym w.node)
        (λ (q : named y ≡ []). let f = rw (v.node, q) at rest in absurd (omega (arith, ap (λ (l : List ℕ). get_or l 0 0) f)))
        (names_a_node_or_nothing y)

    nothing : named x ≡ [] → named x ≡ named y
    nothing p =
        ⊎_elim
        (λ (w : OfTree y). let f = rw (p, w.node) at rest in absurd (omega (arith, ap (λ (l : List ℕ). get_or l 0 0) f)))
        (λ (q : named y ≡ []). p ∙ sym q)
        (names_a_node_or_nothing y)

-- ---- releases, one after the other
pub releases_append : (a b : List ℕ) → release_lines (a ++ b) ≡ release_lines a ++ release_lines b
releases_append [] b = refl
releases_append (id ∷ a) b = rw (releases_append a b, append_assoc)

pub releases_next : (ids : List ℕ) (i : ℕ) → i < length ids
    → release_lines (take (i + 1) ids) ≡ release_lines (take i ids) ++ line 114 (get_or ids i 0 ∷ [])
releases_next ids i h = rw (add-one i, take-suc ids i 0 h, releases_append, append-nil)

pub releases_most : (ids : List ℕ) → ((i : ℕ) → get_or ids i 0 < 2 ^ 32) → length (release_lines ids) ≤ 13 * length ids
releases_most [] h = omega arith
releases_most (id ∷ ids) h = rw length-append (omega (arith, id_line_most 114 id (h 0), releases_most ids (λ i. h (suc i))))

-- a state's lines are those of its active set and its shares
pub share_lines_lem : (c : Controller) → share_lines c ≡ share_lines_of c.active c.shares
unfolding share_lines share_lines_to
share_lines_lem c = refl

pub leaf_line_most : (active n share : ℕ) → n < 100 → share < 2 ^ 32 → length (leaf_line active n share) ≤ 16
leaf_line_most active n share h f = go (has active n)
  where
    go : (b : Bool) → length (cond b (line 80 (n ∷ share ∷ [])) []) ≤ 16
    go true = share_line_most n share h f
    go false = omega arith

module _ (active : ℕ) (shares : List ℕ) where
  pub shares_none : share_lines_to active shares 0 ≡ []
  unfolding share_lines_to join_to
  shares_none = refl

  shares_up : (m : ℕ) → share_lines_to active shares (suc m) ≡ share_lines_to active shares m ++ leaf_line active (suc m) (get_or shares (suc m) 0)
  unfolding share_lines_to join_to
  shares_up m = refl

  pub shares_next : (n : ℕ) → 0 < n → share_lines_to active shares (n + 1 - 1) ≡ share_lines_to active shares (n - 1) ++ leaf_line active n (get_or shares n 0)
  shares_next n h =
      let e : suc (n - 1) ≡ n = omega arith in
      let f : n + 1 - 1 ≡ n = omega arith in
      ap (share_lines_to active shares) f ∙ rw e at (shares_up (n - 1))

  pub shares_most : ((i : ℕ) → get_or shares i 0 < 2 ^ 32) → (m : ℕ) → m < 100 → length (share_lines_to active shares m) ≤ 16 * m
  shares_most f zero h = rw shares_none (omega arith)
  shares_most f (suc m) h =
      rw (shares_up m, length-append)
      (omega (arith, shares_most f m (omega arith), leaf_line_most active (suc m) (get_or shares (suc m) 0) h (f (suc m))))
