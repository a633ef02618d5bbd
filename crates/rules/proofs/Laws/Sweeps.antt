-- A loop that goes up through the places of a list: the first places have what a table has there, the others what they had.
-- Assumes nothing.
use Rattle.std.specs.Prelude.{◌≡◌, List, ◌++◌, ℕ, zero, suc, ◌+◌, ◌≤◌, ◌<◌, length, take, drop, get_or, set}
use Rattle.std.proofs.Common.{sym, ap, ◌∙◌, append-nil, add-one, arith, drop-cons, take-suc, length-take-le}
use Rattle.std.proofs.lemmas.List.{set_at, get_or_at, set-get_or}
use Rattle.std.proofs.Math.Seq.{append_snoc, take-length, drop-length}
use Rattle.rules.specs.Numbers.{nodes_most}
use Rattle.rules.specs.Words.{table}
use Rattle.rules.proofs.Laws.Tables.{table_length, table_at}

module _ {A : Type 0} where
  -- the first i of g, and then what l has there
  abbrev pub swept : List A → List A → ℕ → List A
  swept g l i = take i g ++ drop i l

  module _ (g l : List A) where
    pub swept_get : (i : ℕ) (d : A) → i < length g → i < length l → get_or (swept g l i) i d ≡ get_or l i d
    swept_get i d hg h = rw (drop-cons l i d h) (get_or_at (take i g) (get_or l i d) (drop (suc i) l) d i (length-take-le i g (omega arith)))

    pub swept_set : (i : ℕ) (d : A) → i < length g → i < length l → set (swept g l i) i (get_or g i d) ≡ swept g l (i + 1)
    swept_set i d hg h =
        rw (add-one i, drop-cons l i d h, take-suc g i d hg, append_snoc)
        (set_at (take i g) (get_or l i d) (drop (suc i) l) (get_or g i d) i (length-take-le i g (omega arith)))

    -- a place where the two agree is passed with nothing stored
    pub swept_skip : (i : ℕ) (d : A) → i < length g → i < length l → get_or g i d ≡ get_or l i d → swept g l i ≡ swept g l (i + 1)
    swept_skip i d hg h e =
        sym (set-get_or (swept g l i) i d) ∙ ap (λ (x : A). set (swept g l i) i x) (swept_get i d hg h ∙ sym e) ∙ swept_set i d hg h

    pub swept_all : (i : ℕ) → length g ≡ i → length l ≡ i → swept g l i ≡ g
    swept_all i eg e = rw (← e, drop-length, e, ← eg, take-length) (append-nil g)

  -- ---- where g is the table of a function of the place; l is the list as it came, s as it is at the loop's head
  module _ (f : ℕ → A) (l s : List A) (i : ℕ) (d : A) (full : length l ≡ nodes_most) (e : s ≡ swept (table f) l i) (h : i < nodes_most) where
    in_table : i < length (table f)
    in_table = rw (table_length f) h

    in_list : i < length l
    in_list = rw full h

    pub place_here : get_or s i d ≡ get_or l i d
    place_here = rw e (swept_get (table f) l i d in_table in_list)

    pub place_put : (x : A) → x ≡ f i → set s i x ≡ swept (table f) l (i + 1)
    place_put x same = rw (e, same, ← table_at f i d h) (swept_set (table f) l i d in_table in_list)

    pub place_skip : get_or l i d ≡ f i → s ≡ swept (table f) l (i + 1)
    place_skip same = e ∙ swept_skip (table f) l i d in_table in_list (table_at f i d h ∙ sym same)

  pub places_done : (f : ℕ → A) (l s : List A) (i : ℕ) → length l ≡ nodes_most → s ≡ swept (table f) l i → i ≡ nodes_most → s ≡ table f
  places_done f l s i full e h = e ∙ swept_all (table f) l i (table_length f ∙ sym h) (full ∙ sym h)

  -- the places that are left have what they should have already
  pub places_rest : (f : ℕ → A) (l : List A) (d : A) → length l ≡ nodes_most → (left i : ℕ) → left + i ≡ nodes_most
      → ((k : ℕ) → i ≤ k → k < nodes_most → get_or l k d ≡ f k) → (s : List A) → s ≡ swept (table f) l i → s ≡ table f
  places_rest f l d full zero i h same s e = places_done f l s i full e (omega arith)
  places_rest f l d full (suc left) i h same s e =
      let here : i < nodes_most = omega arith in
      places_rest f l d full left (i + 1) (omega arith) (λ k m. same k (omega arith)) s
      (place_skip f l s i d full e here (same i (omega arith) here))
