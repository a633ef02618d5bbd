-- What is wrong with a tree (request Two): which node the first fault names and what it says of it, and that nothing else is
-- refused than what refusal 1 refused.
-- Assumes nothing.
use Rattle.std.specs.Prelude.{◌≡◌, Bool, not, ◌&&◌, ◌||◌, ◌↔◌, List, [], ◌∷◌, eqb, Err, Ok}
use Rattle.std.proofs.Math.Path.{refl, ap}
use Rattle.std.proofs.Common.{sym, ◌∙◌, eq-or-lt_of_le, arith}
use Rattle.std.proofs.Math.Bool.{true, false, cond}
use Rattle.std.proofs.Math.Logic.{⊎_elim}
use Prim.Native.Nat.{ℕ, zero, suc, ◌≤◌, ◌<◌}
use Rattle.std.proofs.Math.Dec.{leb, ltb}
use borrow.Author.Tests.{ltb-true, ltb-false, leb-true, leb-false, lt-ltb, le-leb, lt-leb, ne_eqb}
use Rattle.rules.specs.Numbers.{nodes_least, nodes_most, weight_least, weight_most, level_most}
use Rattle.rules.specs.Words.{any_to}
use Rattle.rules.specs.Cost.{rates_in_range}
use Rattle.rules.specs.Tree.{parent, weight, last, level, count_in_range, weight_in_range, node_fault, earlier_fault, fault_to, tree_fault, newest_fault, is_thin, is_below_root, with_weight}
use Rattle.rules.specs.Refusals.{Check, ◌⇒◌, number, fault_number, fault_node, first_of, due, is_fault, tree_checks, node_checks, rate_checks, start_checks, weight_checks, fault_in}
use Rattle.rules.specs.Entries.{tree_verdict}
use Rattle.rules.proofs.Laws.Bools.{never, true_not_false, exactly, exactly_not, between}
use Rattle.rules.proofs.Laws.Trees.{SoundNode, sound_node, nodes_sound, sound_nodes}
use Rattle.rules.proofs.Laws.TreeVerdicts.{sound_when, refused_exactly_when_broken}
use Rattle.rules.proofs.Laws.Verdicts.{lacks, not_given}
use Rattle.rules.specs.declared.cost.Rates.{Rates}
use Rattle.rules.specs.declared.tree.Tree.{Tree}
use Rattle.rules.specs.declared.tree.Fault.{Fault}
use Rattle.rules.specs.declared.tree.Fault.TheVariants.{Count, Parent, Weight, Level}
use Rattle.rules.specs.declared.refusals.Refusal.{Refusal}
use Rattle.rules.specs.declared.refusals.Refusal.TheVariants.{BadTree, ThinTree, BadRate, NotBelowRoot}
use Rattle.rules.specs.Results.{Finding}

-- ---- one node: what each fault says of it, in the order parent, weight, level
abbrev pub WeightInRange : Tree → ℕ → Type 0
WeightInRange t n = (weight_least ≤ weight t n) × (weight t n ≤ weight_most)

abbrev pub Says : Tree → ℕ → Fault → Type 0
Says t n Count = ⊥
Says t n (Parent k) = (k ≡ n) × (n ≤ parent t n)
Says t n (Weight k) = (k ≡ n) × (parent t n < n) × (WeightInRange t n → ⊥)
Says t n (Level k) = (k ≡ n) × (parent t n < n) × WeightInRange t n × (level_most < level t n)

-- and what finding one, or none, says
abbrev pub Finds : Tree → ℕ → Finding → Type 0
Finds t n (Ok tt) = SoundNode t n
Finds t n (Err f) = Says t n f

module _ (t : Tree) (n : ℕ) where
  weight_test : (weight_in_range (weight t n) ≡ true) ↔ WeightInRange t n
  unfolding weight_in_range
  weight_test = between weight_least (weight t n) weight_most

  says_own : Finds t n (node_fault t n)
  unfolding node_fault
  says_own = go (leb n (parent t n)) (weight_in_range (weight t n)) (ltb level_most (level t n)) refl refl refl
    where
      go : (a b c : Bool) → leb n (parent t n) ≡ a → weight_in_range (weight t n) ≡ b → ltb level_most (level t n) ≡ c
          → Finds t n (cond a (Err (Parent n)) (cond (not b) (Err (Weight n)) (cond c (Err (Level n)) (Ok tt))))
      go true b c d e f = (refl, leb-true n (parent t n) d)
      go false false c d e f = (refl, leb-false n (parent t n) d, (exactly_not (weight_in_range (weight t n)) weight_test).0 e)
      go false true true d e f = (refl, leb-false n (parent t n) d, weight_test.0 e, ltb-true level_most (level t n) f)
      go false true false d e f =
          let w = weight_test.0 e in
          record { up = leb-false n (parent t n) d; light = w.0; heavy = w.1; shallow = ltb-false level_most (level t n) f }

  says_this : (f : Finding) → Finds t n f → node_fault t n ≡ f
  unfolding node_fault
  says_this (Ok tt) s = sound_node t n s
  says_this (Err Count) s = absurd s
  says_this (Err (Parent k)) s = rw (s.0, le-leb n (parent t n) s.1)
  says_this (Err (Weight k)) s =
      rw (s.0, lt-leb n (parent t n) s.1, (exactly_not (weight_in_range (weight t n)) weight_test).1 s.2)
  says_this (Err (Level k)) s =
      rw (s.0, lt-leb n (parent t n) s.1, weight_test.1 s.2, lt-ltb level_most (level t n) s.3)

  -- "checked node by node in that order": the fault of a node is the first of its own
  pub a_node's_first_fault : (f : Finding) → (node_fault t n ≡ f) ↔ Finds t n f
  a_node's_first_fault f = (λ e. rw e at says_own, says_this f)

names_itself : (t : Tree) (n : ℕ) (f : Fault) → Says t n f → fault_node f ≡ n
names_itself t n Count s = absurd s
names_itself t n (Parent k) s = s.0
names_itself t n (Weight k) s = s.0
names_itself t n (Level k) s = s.0

-- ---- the nodes up to m: a fault that was found stays the first
pub earlier_kept : (f g : Finding) → is_fault f ≡ true → earlier_fault f g ≡ f
earlier_kept (Ok tt) g e = absurd (true_not_false e refl)
earlier_kept (Err f) g e = refl

-- the named node is there, and every node before it is without fault
pub record FirstBad (t : Tree) (m n : ℕ) : Type 0 where
  pub below : 0 < n
  pub there : n ≤ m
  pub before : (k : ℕ) → 0 < k → k < n → SoundNode t k

module _ (t : Tree) where
  first_out : (m : ℕ) (f : Fault) → fault_to t m ≡ Err f → FirstBad t m (fault_node f) × Says t (fault_node f) f
  unfolding fault_to
  first_out zero f e = never (cc)
  first_out (suc m) f e = go (is_fault (fault_to t m)) refl (first_out m f)
    where
      go : (b : Bool) → is_fault (fault_to t m) ≡ b → (fault_to t m ≡ Err f → FirstBad t m (fault_node f) × Says t (fault_node f) f)
          → FirstBad t (suc m) (fault_node f) × Says t (fault_node f) f
      go true j on =
          let w = on (sym (earlier_kept (fault_to t m) (node_fault t (suc m)) j) ∙ e) in
          (record { below = w.0.below; there = omega (arith, w.0.there); before = w.0.before }, w.1)
      go false j on =
          let s : fault_to t m ≡ Ok tt = sound_when (fault_to t m) j in
          let own : Says t (suc m) f = (a_node's_first_fault t (suc m) (Err f)).0 (rw s at e) in
          let is : fault_node f ≡ suc m = names_itself t (suc m) f own in
          rw is (record { below = omega arith; there = omega arith; before = λ k p q. nodes_sound t m s k p (omega arith) }, own)

  first_in : (m : ℕ) (f : Fault) → FirstBad t m (fault_node f) → Says t (fault_node f) f → fault_to t m ≡ Err f
  unfolding fault_to
  first_in zero f b s = absurd (omega (arith, b.below, b.there))
  first_in (suc m) f b s =
      ⊎_elim
      (λ (is : fault_node f ≡ suc m).
      rw (sound_nodes t m (λ k p q. b.before k p (omega (arith, is)))) ((a_node's_first_fault t (suc m) (Err f)).1 (rw is at s)))
      (λ (l : fault_node f < suc m).
      let e = first_in m f (record { below = b.below; there = omega arith; before = b.before }) s in
      ap (λ (g : Finding). earlier_fault g (node_fault t (suc m))) e)
      (eq-or-lt_of_le b.there)

-- ---- the whole tree: the count before all, then the first bad node
abbrev pub CountInRange : Tree → Type 0
CountInRange t = (nodes_least ≤ t.count) × (t.count ≤ nodes_most)

abbrev pub FirstSays : Tree → Fault → Type 0
FirstSays t f = CountInRange t × FirstBad t (last t) (fault_node f) × Says t (fault_node f) f

-- what a fault says of the tree in which it is the first
abbrev pub TreeSays : Tree → Fault → Type 0
TreeSays t Count = CountInRange t → ⊥
TreeSays t (Parent n) = FirstSays t (Parent n)
TreeSays t (Weight n) = FirstSays t (Weight n)
TreeSays t (Level n) = FirstSays t (Level n)

module _ (t : Tree) where
  count_test : (count_in_range t.count ≡ true) ↔ CountInRange t
  unfolding count_in_range
  count_test = between nodes_least t.count nodes_most

  -- of a fault that is not the count's
  at_a_node : (f : Fault) → (f ≡ Count → ◌≡◌ {A = ℕ} 0 1) → (tree_fault t ≡ Err f) ↔ FirstSays t f
  unfolding tree_fault
  at_a_node f other = (go (count_in_range t.count) refl, λ w. rw (count_test.1 w.0) (first_in t (last t) f w.1 w.2))
    where
      go : (b : Bool) → count_in_range t.count ≡ b → cond b (fault_to t (last t)) (Err Count) ≡ Err f → FirstSays t f
      go true c e = let w = first_out t (last t) f e in (count_test.0 c, w.0, w.1)
      go false c e = let i : Count ≡ f = cc in never (other (sym i))

  at_the_count : (tree_fault t ≡ Err Count) ↔ (CountInRange t → ⊥)
  unfolding tree_fault
  at_the_count = (go (count_in_range t.count) refl, λ w. rw ((exactly_not (count_in_range t.count) count_test).1 w))
    where
      go : (b : Bool) → count_in_range t.count ≡ b → cond b (fault_to t (last t)) (Err Count) ≡ Err Count → CountInRange t → ⊥
      go true c e = absurd (first_out t (last t) Count e).1
      go false c e = (exactly_not (count_in_range t.count) count_test).0 c

  -- every node before the named one is without fault, and the named fault is the first of that node's
  pub the_first_bad_node : (f : Fault) → (tree_fault t ≡ Err f) ↔ TreeSays t f
  the_first_bad_node Count = at_the_count
  the_first_bad_node (Parent n) = at_a_node (Parent n) (λ e. cc)
  the_first_bad_node (Weight n) = at_a_node (Weight n) (λ e. cc)
  the_first_bad_node (Level n) = at_a_node (Level n) (λ e. cc)

-- so the check of a tree, whose 20 to 23 carry the first fault; start's are in `Laws/Refused`
pub the_check_names : (t : Tree) (f : Fault) → (tree_verdict t ≡ Err (BadTree f)) ↔ TreeSays t f
the_check_names t f = exactly (refused_exactly_when_broken t f) (the_first_bad_node t f)

-- ---- a node record: the count, then the faults of the node that it would give
abbrev pub NewestSays : Tree → Fault → Type 0
NewestSays t Count = nodes_most < t.count
NewestSays t (Parent k) = (t.count ≤ nodes_most) × Says t (last t) (Parent k)
NewestSays t (Weight k) = (t.count ≤ nodes_most) × Says t (last t) (Weight k)
NewestSays t (Level k) = (t.count ≤ nodes_most) × Says t (last t) (Level k)

module _ (t : Tree) where
  at_the_newest : (f : Fault) → (f ≡ Count → ◌≡◌ {A = ℕ} 0 1) → (newest_fault t ≡ Err f) ↔ ((t.count ≤ nodes_most) × Says t (last t) f)
  unfolding newest_fault
  at_the_newest f other = (
    go (leb t.count nodes_most) refl,
    λ w. rw (le-leb t.count nodes_most w.0) ((a_node's_first_fault t (last t) (Err f)).1 w.1),
  )
    where
      go : (b : Bool) → leb t.count nodes_most ≡ b → cond b (node_fault t (last t)) (Err Count) ≡ Err f → (t.count ≤ nodes_most) × Says t (last t) f
      go true c e = (leb-true t.count nodes_most c, (a_node's_first_fault t (last t) (Err f)).0 e)
      go false c e = let i : Count ≡ f = cc in never (other (sym i))

  past_the_last : (newest_fault t ≡ Err Count) ↔ (nodes_most < t.count)
  unfolding newest_fault
  past_the_last = (go (leb t.count nodes_most) refl, λ w. rw (lt-leb t.count nodes_most w))
    where
      go : (b : Bool) → leb t.count nodes_most ≡ b → cond b (node_fault t (last t)) (Err Count) ≡ Err Count → nodes_most < t.count
      go true c e = absurd ((a_node's_first_fault t (last t) (Err Count)).0 e)
      go false c e = leb-false t.count nodes_most c

  a_node_record's_fault : (f : Fault) → (newest_fault t ≡ Err f) ↔ NewestSays t f
  a_node_record's_fault Count = past_the_last
  a_node_record's_fault (Parent k) = at_the_newest (Parent k) (λ e. cc)
  a_node_record's_fault (Weight k) = at_the_newest (Weight k) (λ e. cc)
  a_node_record's_fault (Level k) = at_the_newest (Level k) (λ e. cc)

-- ---- as refusals: a fault's check stands first, and no check behind it has its number
pub fault_given : (f : Fault) (g : Finding) (rest : List Check) → lacks (fault_number f) rest ≡ true
    → (first_of ((is_fault g ⇒ BadTree (fault_in g)) ∷ rest) ≡ Err (BadTree f)) ↔ (g ≡ Err f)
fault_given f (Ok tt) rest l = (λ e. absurd (not_given (BadTree f) rest l e), λ w. never (cc))
fault_given f (Err g) rest l = (λ e. let i : g ≡ f = cc in ap Err i, λ w. let i : g ≡ f = cc in ap (λ (k : Fault). Err (BadTree k)) i)

pub a_node_record_names : (t : Tree) (f : Fault) → (first_of (node_checks t) ≡ Err (BadTree f)) ↔ NewestSays t f
unfolding node_checks
a_node_record_names t f = exactly (fault_given f (newest_fault t) [] refl) (a_node_record's_fault t f)

-- the number of a fault is one of the four
pub a_fault_is_20_to_23 : (f : Fault) → (20 ≤ fault_number f) × (fault_number f ≤ 23)
a_fault_is_20_to_23 Count = (omega arith, omega arith)
a_fault_is_20_to_23 (Parent n) = (omega arith, omega arith)
a_fault_is_20_to_23 (Weight n) = (omega arith, omega arith)
a_fault_is_20_to_23 (Level n) = (omega arith, omega arith)

-- so it is none of those below 20
pub no_fault's_number : (f : Fault) (k : ℕ) → 0 < k → k < 20 → eqb (fault_number f) k ≡ false
no_fault's_number Count k a b = ne_eqb 20 k (λ e. omega arith)
no_fault's_number (Parent n) k a b = ne_eqb 21 k (λ e. omega arith)
no_fault's_number (Weight n) k a b = ne_eqb 22 k (λ e. omega arith)
no_fault's_number (Level n) k a b = ne_eqb 23 k (λ e. omega arith)

pub thin_and_rates_lack : (f : Fault) (b c : Bool) → lacks (fault_number f) ((b ⇒ ThinTree) ∷ (c ⇒ BadRate) ∷ []) ≡ true
thin_and_rates_lack Count b c = refl
thin_and_rates_lack (Parent n) b c = refl
thin_and_rates_lack (Weight n) b c = refl
thin_and_rates_lack (Level n) b c = refl

-- ---- "What is refused does not change". Row 1 of document 01's table, which the request splits, said "node count, parent, weight
-- or level breaks the tree rules": of a node, of a tree, and of a tree to which a record has brought its newest node
unfoldable pub breaks_node : Tree → ℕ → Bool
breaks_node t n = leb n (parent t n) || not (weight_in_range (weight t n)) || ltb level_most (level t n)

unfoldable pub breaks_tree : Tree → Bool
breaks_tree t = not (count_in_range t.count) || any_to (breaks_node t) (last t)

unfoldable pub breaks_newest : Tree → Bool
breaks_newest t = not (leb t.count nodes_most) || breaks_node t (last t)

node_breaks : (t : Tree) (n : ℕ) → is_fault (node_fault t n) ≡ breaks_node t n
unfolding node_fault breaks_node
node_breaks t n = go (leb n (parent t n)) (weight_in_range (weight t n)) (ltb level_most (level t n))
  where
    go : (a b c : Bool) → is_fault (cond a (Err (Parent n)) (cond (not b) (Err (Weight n)) (cond c (Err (Level n)) (Ok tt)))) ≡ (a || not b || c)
    go true b c = refl
    go false false c = refl
    go false true true = refl
    go false true false = refl

either_breaks : (f g : Finding) → is_fault (earlier_fault f g) ≡ (is_fault f || is_fault g)
either_breaks (Ok tt) g = refl
either_breaks (Err f) g = refl

nodes_break : (t : Tree) (m : ℕ) → is_fault (fault_to t m) ≡ any_to (breaks_node t) m
unfolding fault_to any_to
nodes_break t zero = refl
nodes_break t (suc m) = rw (either_breaks (fault_to t m) (node_fault t (suc m)), nodes_break t m, node_breaks t (suc m))

-- a count out of range, or what the nodes say
counted_breaks : (b : Bool) (f : Finding) {c : Bool} → is_fault f ≡ c → is_fault (cond b f (Err Count)) ≡ (not b || c)
counted_breaks true f e = e
counted_breaks false f e = refl

pub tree_breaks : (t : Tree) → is_fault (tree_fault t) ≡ breaks_tree t
unfolding tree_fault breaks_tree
tree_breaks t = counted_breaks (count_in_range t.count) (fault_to t (last t)) (nodes_break t (last t))

pub newest_breaks : (t : Tree) → is_fault (newest_fault t) ≡ breaks_newest t
unfolding newest_fault breaks_newest
newest_breaks t = counted_breaks (leb t.count nodes_most) (node_fault t (last t)) (node_breaks t (last t))

-- the numbers as they were before the request: 20 to 23 were 1
abbrev pub as_before : ℕ → ℕ
as_before n = cond (leb 20 n && leb n 23) 1 n

fault_before : (f : Finding) (rest : List Check) → as_before (due ((is_fault f ⇒ BadTree (fault_in f)) ∷ rest)) ≡ cond (is_fault f) 1 (as_before (due rest))
fault_before (Ok tt) rest = refl
fault_before (Err Count) rest = refl
fault_before (Err (Parent n)) rest = refl
fault_before (Err (Weight n)) rest = refl
fault_before (Err (Level n)) rest = refl

-- a refusal that is none of the four has the number that it had
other_before : (b : Bool) (x : Refusal) (rest : List Check) → as_before (number x) ≡ number x
    → as_before (due ((b ⇒ x) ∷ rest)) ≡ cond b (number x) (as_before (due rest))
other_before true x rest e = e
other_before false x rest e = refl

pub the_check_refuses_what_1_refused : (t : Tree) → as_before (due (tree_checks t)) ≡ cond (breaks_tree t) 1 (cond (is_thin t) 2 0)
unfolding tree_checks
the_check_refuses_what_1_refused t =
    rw (fault_before (tree_fault t) ((is_thin t ⇒ ThinTree) ∷ []), tree_breaks t, other_before (is_thin t) ThinTree [] refl)

pub start_refuses_what_1_refused : (t : Tree) (r : Rates)
    → as_before (due (start_checks t r)) ≡ cond (breaks_tree t) 1 (cond (is_thin t) 2 (cond (not (rates_in_range r)) 3 0))
unfolding start_checks tree_checks rate_checks
start_refuses_what_1_refused t r =
    rw (
      fault_before (tree_fault t) ((is_thin t ⇒ ThinTree) ∷ (not (rates_in_range r) ⇒ BadRate) ∷ []),
      tree_breaks t,
      other_before (is_thin t) ThinTree ((not (rates_in_range r) ⇒ BadRate) ∷ []) refl,
      other_before (not (rates_in_range r)) BadRate [] refl,
    )

pub a_node_record_refuses_what_1_refused : (t : Tree) → as_before (due (node_checks t)) ≡ cond (breaks_newest t) 1 0
unfolding node_checks
a_node_record_refuses_what_1_refused t = rw (fault_before (newest_fault t) [], newest_breaks t)

pub a_weight_refuses_what_1_refused : (n w : ℕ) (t : Tree)
    → as_before (due (weight_checks n w t)) ≡ cond (not (is_below_root t n)) 19 (cond (not (weight_in_range w)) 1 (cond (is_thin (with_weight n w t)) 2 0))
unfolding weight_checks
a_weight_refuses_what_1_refused n w t = go (not (is_below_root t n)) (not (weight_in_range w)) (is_thin (with_weight n w t))
  where
    go : (a b c : Bool) → as_before (due ((a ⇒ NotBelowRoot) ∷ (b ⇒ BadTree (Weight n)) ∷ (c ⇒ ThinTree) ∷ [])) ≡ cond a 19 (cond b 1 (cond c 2 0))
    go true b c = refl
    go false true c = refl
    go false false true = refl
    go false false false = refl
