-- The rule for rising shares over the whole state, the shares that stand after a call, and that changed shares keep the invariant.
-- Assumes nothing.
use Rattle.std.specs.Prelude.{◌≡◌, Bool, ◌||◌, List, ◌⊎◌, ℕ, ◌+◌, ◌*◌, ◌^◌, ◌≤◌, ◌<◌, length, get_or}
use Rattle.std.proofs.Math.Path.{refl, sym, ap}
use Rattle.std.proofs.Common.{◌∙◌, inl, inr, le_of_suc-le-suc, lt_of_not-le, eqb-true, eq-eqb}
use Rattle.std.proofs.Math.Bool.{true, false, cond}
use Rattle.std.proofs.Math.Logic.{dite}
use Rattle.std.proofs.Math.Nat.{le_trans}
use Rattle.std.proofs.Math.Decide.{dec_lt}
use native.Mathlib.Omega.{arith}
use Rattle.std.proofs.Math.Dec.{eqb}
use Rattle.std.proofs.Math.ListN.{get_or-eq_default}
use Rattle.std.proofs.lemmas.List.{set-get_or}
use Rattle.rules.specs.Numbers.{whole, nodes_most, leaf_most, share_floor}
use Rattle.rules.specs.Words.{sum_to, has, set_of, no_node}
use Rattle.rules.specs.Units.{virt}
use Rattle.rules.specs.Tree.{leaves_of, base_share, base_shares, is_thin, is_leaf}
use Rattle.rules.specs.Budget.{empty_row, empty_queue, row_at, queue_at, share_at, put_leaf, with_budget, rebudget, reshared, rebased, activated, entered}
use Rattle.rules.specs.Plan.{is_taker, is_donation, sum_over, donated}
use Rattle.rules.specs.Invariant.{worth_most, PricedModel, SoundClock, SoundRow, SoundQueue, IdleLeaf, Sound, SoundTree, Within}
use Rattle.rules.specs.Ledger.{saved}
use Rattle.rules.proofs.Laws.Bools.{true_not_false, or_left, or_right, or_cases, is_false}
use Rattle.rules.proofs.Laws.Sums.{sum_le, sum_cong}
use Rattle.rules.proofs.Laws.Tables.{table_length, table_every}
use Rattle.rules.proofs.Laws.Sets.{has_none, has_set_of, set_of_in, set_small}
use Rattle.rules.proofs.Laws.Units.{rescaling_never_raises, rescaling_adds_no_budget}
use Rattle.rules.proofs.Laws.Trees.{leaf_last, last_most}
use Rattle.rules.proofs.Laws.Shares.{no_base_share, base_shares_length, not_thin_keeps_the_floor}
use Rattle.rules.proofs.Laws.Donation.{S, taker_active, is_taker_lem, one_donor, one_taker, donor_gets_its_target, idle_gets_nothing, donation_keeps_the_sum, no_taker_below_base}
use Rattle.rules.specs.declared.units.Virt.{Virt}
use Rattle.rules.specs.declared.tree.Tree.{Tree}
use Rattle.rules.specs.declared.budget.Row.{Row}
use Rattle.rules.specs.declared.budget.Queue.{Queue}
use Rattle.rules.specs.declared.budget.Controller.{Controller}

-- ---- a number is below the nodes' count or not
pub node_or_past : {P : Type 0} (n : ℕ) → (n < nodes_most → P) → (nodes_most ≤ n → P) → P
node_or_past n f g = dite (dec_lt n nodes_most) f (λ h. g (le_of_suc-le-suc (lt_of_not-le h)))

-- ---- who is no member of a set that is made by a test
pub set_stranger : (p : ℕ → Bool) (n : ℕ) → n < nodes_most → has (set_of p) n ≡ false → p n ≡ false
set_stranger p n l e = sym (has_set_of p n l) ∙ e

-- ---- "Whenever a share rises from h to k, ..", at each leaf
pub no_budget_stays_none : (h k : ℕ) (b : Virt) → b.0 ≡ 0 → (rebudget h k b).0 ≡ 0
no_budget_stays_none h k b e = omega (arith, rescaling_adds_no_budget h k b)

abbrev pub followed : Controller → List ℕ → ℕ → Row
followed c shares n = with_budget (rebudget (share_at c n) (get_or shares n 0) (row_at c n).budget) (row_at c n)

module _ (active donors : ℕ) (shares : List ℕ) (c : Controller) where
  pub reshared_row : length c.rows ≡ nodes_most → (n : ℕ) → row_at (reshared active donors shares c) n ≡ followed c shares n
  unfolding reshared
  reshared_row all = table_every (followed c shares) empty_row past
    where
      past : (n : ℕ) → nodes_most ≤ n → followed c shares n ≡ empty_row
      past n l =
          let empty : row_at c n ≡ empty_row = get_or-eq_default c.rows empty_row (omega arith) in
          let no : (rebudget (share_at c n) (get_or shares n 0) (virt 0)).0 ≡ 0 = no_budget_stays_none _ _ (virt 0) refl in
          rw empty (ap (λ (x : ℕ). with_budget (virt x) empty_row) no)

  pub reshared_rows_all : length (reshared active donors shares c).rows ≡ nodes_most
  unfolding reshared
  reshared_rows_all = table_length (followed c shares)

  -- the budget of a leaf is worth no more at its new share
  pub reshared_worth : length c.rows ≡ nodes_most → (n : ℕ)
      → (row_at (reshared active donors shares c) n).budget.0 * get_or shares n 0 ≤ (row_at c n).budget.0 * share_at c n
  reshared_worth all n = rw (reshared_row all n) (rescaling_never_raises (share_at c n) (get_or shares n 0) (row_at c n).budget)

  pub resharing_saves_nothing : length c.rows ≡ nodes_most → saved (reshared active donors shares c) ≤ saved c
  unfolding saved reshared
  resharing_saves_nothing all = sum_le _ _ leaf_most (λ n p q. reshared_worth all n)

-- ---- the invariant in three parts: the shares, who is active and who donates, and the books
pub record SoundShares (t : Tree) (active donors : ℕ) (shares : List ℕ) : Type 0 where
  pub all : length shares ≡ nodes_most
  pub floor : (n : ℕ) → has active n ≡ true → share_floor ≤ get_or shares n 0
  pub idle : (n : ℕ) → has active n ≡ false → get_or shares n 0 ≡ 0
  pub sum : sum_to (λ n. get_or shares n 0) leaf_most ≡ sum_to (base_share t active) leaf_most
  pub taker : (n : ℕ) → has active n ≡ true → has donors n ≡ false → base_share t active n ≤ get_or shares n 0
  pub donor : (n : ℕ) → has donors n ≡ true → get_or shares n 0 < base_share t active n
  pub no_donation : donors ≡ no_node → shares ≡ base_shares t active

pub record FreeLeaf (r : Row) (q : Queue) : Type 0 where
  pub no_debt : r.debt.0 ≡ 0
  pub no_waiter : q.len ≡ 0

pub record SoundRoles (c : Controller) (active donors : ℕ) : Type 0 where
  pub active_fits : active < 2 ^ 64
  pub donors_fit : donors < 2 ^ 64
  pub leaves : Within c.tree active
  pub donors_active : (n : ℕ) → has donors n ≡ true → has active n ≡ true
  pub donors_free : (n : ℕ) → has donors n ≡ true → FreeLeaf (row_at c n) (queue_at c n)
  pub idle : (n : ℕ) → has active n ≡ false → IdleLeaf (row_at c n) (queue_at c n)

pub record SoundBooks (c : Controller) : Type 0 where
  pub tree : SoundTree c.tree
  pub thick : is_thin c.tree ≡ false
  pub leaves : c.leaves ≡ leaves_of c.tree
  pub model : PricedModel c.model
  pub clock : SoundClock c.clock
  pub rows_all : length c.rows ≡ nodes_most
  pub queues_all : length c.queues ≡ nodes_most
  pub row : (n : ℕ) → SoundRow (row_at c n)
  pub queue : (n : ℕ) → SoundQueue (queue_at c n)
  pub worth_at_most : (n : ℕ) → (row_at c n).budget.0 * share_at c n ≤ worth_most
  pub usage_at_most : sum_to (λ n. (row_at c n).usage.0) leaf_most * whole + saved c ≤ c.clock.since.0 * whole + leaf_most * worth_most

module _ {c : Controller} (s : Sound c) where
  pub shares_of : SoundShares c.tree c.active c.donors c.shares
  shares_of = record {
    all = s.shares_all;
    floor = s.share_at_floor;
    idle = s.share_idle;
    sum = s.share_sum;
    taker = s.taker;
    donor = λ n e. (s.donors n e).gives;
    no_donation = s.no_donation;
  }

  pub roles_of : SoundRoles c c.active c.donors
  roles_of = record {
    active_fits = s.active_fits;
    donors_fit = s.donors_fit;
    leaves = s.active;
    donors_active = λ n e. (s.donors n e).active;
    donors_free = λ n e. record { no_debt = (s.donors n e).no_debt; no_waiter = (s.donors n e).no_waiter };
    idle = s.idle;
  }

  pub books_of : SoundBooks c
  unfolding saved
  books_of = record {
    tree = s.tree;
    thick = s.thick;
    leaves = s.leaves;
    model = s.model;
    clock = s.clock;
    rows_all = s.rows_all;
    queues_all = s.queues_all;
    row = s.row;
    queue = s.queue;
    worth_at_most = s.worth_at_most;
    usage_at_most = s.usage_at_most;
  }

pub sound_of : {c : Controller} → SoundBooks c → SoundRoles c c.active c.donors → SoundShares c.tree c.active c.donors c.shares → Sound c
unfolding saved
sound_of {c} b r s = record {
  tree = b.tree;
  thick = b.thick;
  leaves = b.leaves;
  model = b.model;
  clock = b.clock;
  active_fits = r.active_fits;
  donors_fit = r.donors_fit;
  active = r.leaves;
  donors = λ n e. record {
    active = r.donors_active n e;
    no_debt = (r.donors_free n e).no_debt;
    no_waiter = (r.donors_free n e).no_waiter;
    gives = s.donor n e;
  };
  shares_all = s.all;
  share_at_floor = s.floor;
  share_idle = s.idle;
  share_sum = s.sum;
  taker = s.taker;
  no_donation = s.no_donation;
  rows_all = b.rows_all;
  queues_all = b.queues_all;
  row = b.row;
  queue = b.queue;
  idle = r.idle;
  worth_at_most = b.worth_at_most;
  usage_at_most = b.usage_at_most;
}

-- ---- other shares, with who is active and who donates by them, keep the invariant
module _ {c : Controller} (b : SoundBooks c) (active donors : ℕ) (shares : List ℕ) where
  resharing_keeps_books : SoundBooks (reshared active donors shares c)
  unfolding reshared
  resharing_keeps_books = record {
    tree = b.tree;
    thick = b.thick;
    leaves = b.leaves;
    model = b.model;
    clock = b.clock;
    rows_all = reshared_rows_all active donors shares c;
    queues_all = b.queues_all;
    row = λ n. rw (reshared_row active donors shares c b.rows_all n) (record { debt_at_most = (b.row n).debt_at_most; end_at_most = (b.row n).end_at_most });
    queue = b.queue;
    worth_at_most = λ n. le_trans (reshared_worth active donors shares c b.rows_all n) (b.worth_at_most n);
    usage_at_most =
        omega (
          arith,
          b.usage_at_most,
          resharing_saves_nothing active donors shares c b.rows_all,
          sum_cong (λ n. (row_at (reshared active donors shares c) n).usage.0) (λ n. (row_at c n).usage.0) leaf_most
              (λ n p q. ap (λ (r : Row). r.usage.0) (reshared_row active donors shares c b.rows_all n)),
        );
  }

  resharing_keeps_roles : SoundRoles c active donors → SoundRoles (reshared active donors shares c) active donors
  unfolding reshared
  resharing_keeps_roles r = record {
    active_fits = r.active_fits;
    donors_fit = r.donors_fit;
    leaves = r.leaves;
    donors_active = r.donors_active;
    donors_free = λ n e.
        rw (reshared_row active donors shares c b.rows_all n)
        (record { no_debt = (r.donors_free n e).no_debt; no_waiter = (r.donors_free n e).no_waiter });
    idle = λ n e.
        rw (reshared_row active donors shares c b.rows_all n)
        (record {
          no_budget = no_budget_stays_none (share_at c n) (get_or shares n 0) (row_at c n).budget (r.idle n e).no_budget;
          no_debt = (r.idle n e).no_debt;
          no_waiter = (r.idle n e).no_waiter;
        });
  }

  pub resharing_keeps : SoundRoles c active donors → SoundShares c.tree active donors shares → Sound (reshared active donors shares c)
  unfolding reshared
  resharing_keeps r s = sound_of resharing_keeps_books (resharing_keeps_roles r) s

-- ---- the shares that stand after a call
module _ {t : Tree} (sound : SoundTree t) (active : ℕ) (within : Within t active) where
  pub active_node : (n : ℕ) → has active n ≡ true → n < nodes_most
  active_node n e = omega (arith, leaf_last t n (within n e), last_most sound)

  pub base_shares_each : (n : ℕ) → get_or (base_shares t active) n 0 ≡ base_share t active n
  unfolding base_shares
  base_shares_each =
      table_every (base_share t active) 0 (λ n l. no_base_share t active n (is_false (has active n) (λ e. let k : n < nodes_most = active_node n e in omega arith)))

  -- what the active leaves' base shares sum to, S in a donation
  pub bases_sum : S active (base_shares t active) ≡ sum_to (base_share t active) leaf_most
  unfolding sum_over
  bases_sum = sum_cong _ _ leaf_most (λ n p q. go n (has active n) refl)
    where
      go : (n : ℕ) (a : Bool) → has active n ≡ a → cond a (get_or (base_shares t active) n 0) 0 ≡ base_share t active n
      go n true e = base_shares_each n
      go n false e = sym (no_base_share t active n e)

  module _ (thick : is_thin t ≡ false) where
    -- "base shares stand"
    pub base_shares_are_sound : SoundShares t active no_node (base_shares t active)
    base_shares_are_sound = record {
      all = base_shares_length t active;
      floor = λ n e. rw (base_shares_each n) (not_thin_keeps_the_floor sound thick active n within e);
      idle = λ n e. base_shares_each n ∙ no_base_share t active n e;
      sum = sum_cong _ _ leaf_most (λ n p q. base_shares_each n);
      taker = λ n e f. rw (base_shares_each n) (omega arith);
      donor = λ n e. absurd (true_not_false e (has_none n));
      no_donation = λ e. refl;
    }

    -- a donation among them: donors get their targets, the others what remains
    module _ (donors : ℕ) (targets : List ℕ) (sub : (n : ℕ) → has donors n ≡ true → has active n ≡ true)
        (enough : (n : ℕ) → has donors n ≡ true → share_floor ≤ get_or targets n 0)
        (lower : (n : ℕ) → has donors n ≡ true → get_or targets n 0 < get_or (base_shares t active) n 0)
        (donation : is_donation active donors ≡ true)
      where
        some_taker : (n : ℕ) × (0 < n) × (n ≤ leaf_most) × (is_taker active donors n ≡ true)
        some_taker = one_taker active donors donation

        at_most : (n : ℕ) → has donors n ≡ true → get_or targets n 0 ≤ get_or (base_shares t active) n 0
        at_most n e = omega (arith, lower n e)

        pos : 0 < get_or (base_shares t active) some_taker.0 0
        pos =
            omega (
              arith,
              base_shares_each some_taker.0,
              not_thin_keeps_the_floor sound thick active some_taker.0 within (taker_active active donors some_taker.0 some_taker.3),
            )

        no_less : (n : ℕ) → has active n ≡ true → has donors n ≡ false
            → base_share t active n ≤ get_or (donated active donors (base_shares t active) targets) n 0
        no_less n e f =
            rw (base_shares_each n) at
            (no_taker_below_base active donors (base_shares t active) targets sub at_most some_taker.0 some_taker.1 some_taker.2 some_taker.3 pos n (active_node n e) (is_taker_lem active donors n e f))

        donated_all : length (donated active donors (base_shares t active) targets) ≡ nodes_most
        unfolding donated
        donated_all = table_length _

        idle_none : (n : ℕ) → has active n ≡ false → get_or (donated active donors (base_shares t active) targets) n 0 ≡ 0
        idle_none n e =
            node_or_past n
            (λ l. idle_gets_nothing active donors (base_shares t active) targets n l (is_false (has donors n) (λ d. true_not_false (sub n d) e)) e)
            (λ l. get_or-eq_default (donated active donors (base_shares t active) targets) 0 (rw donated_all l))

        target_is : (n : ℕ) → has donors n ≡ true → get_or (donated active donors (base_shares t active) targets) n 0 ≡ get_or targets n 0
        target_is n e = donor_gets_its_target active donors (base_shares t active) targets n (active_node n (sub n e)) e

        pub donated_shares_are_sound : SoundShares t active donors (donated active donors (base_shares t active) targets)
        donated_shares_are_sound = record {
          all = donated_all;
          floor = λ n e. go n e (has donors n) refl;
          idle = idle_none;
          sum =
              donation_keeps_the_sum active donors (base_shares t active) targets sub at_most some_taker.0 some_taker.1 some_taker.2 some_taker.3 pos
              ∙ bases_sum;
          taker = no_less;
          donor = λ n e. rw (target_is n e, ← base_shares_each n) (lower n e);
          no_donation = λ e. absurd (true_not_false (one_donor active donors donation).3 (ap (λ (d : ℕ). has d (one_donor active donors donation).0) e ∙ has_none (one_donor active donors donation).0));
        }
          where
            go : (n : ℕ) → has active n ≡ true → (d : Bool) → has donors n ≡ d → share_floor ≤ get_or (donated active donors (base_shares t active) targets) n 0
            go n e true f = rw (target_is n f) (enough n f)
            go n e false f = le_trans (not_thin_keeps_the_floor sound thick active n within e) (no_less n e f)

-- "all return to base shares", "all base shares are worked out anew"
pub rebasing_keeps : {c : Controller} → SoundBooks c → (active : ℕ) → SoundRoles c active no_node → Sound (rebased active c)
unfolding rebased
rebasing_keeps {c} b active r =
    resharing_keeps b active no_node (base_shares c.tree active) r (base_shares_are_sound b.tree active r.leaves b.thick)

-- ---- what other shares leave as it is: all but who is active, who donates, the shares and the budgets
pub record Reweighed (c c' : Controller) : Type 0 where
  pub tree : c'.tree ≡ c.tree
  pub model : c'.model ≡ c.model
  pub clock : c'.clock ≡ c.clock
  pub queues : c'.queues ≡ c.queues
  pub row : (n : ℕ) → row_at c' n ≡ with_budget (row_at c' n).budget (row_at c n)
  pub budget : (n : ℕ) → (row_at c' n).budget.0 ≤ (row_at c n).budget.0
  pub worth : (n : ℕ) → (row_at c' n).budget.0 * share_at c' n ≤ (row_at c n).budget.0 * share_at c n

pub reweighed_itself : (c : Controller) → Reweighed c c
reweighed_itself c = record {
  tree = refl;
  model = refl;
  clock = refl;
  queues = refl;
  row = λ n. refl;
  budget = λ n. omega arith;
  worth = λ n. omega arith;
}

pub resharing_reweighs : (active donors : ℕ) (shares : List ℕ) (c : Controller) → length c.rows ≡ nodes_most → Reweighed c (reshared active donors shares c)
unfolding reshared
resharing_reweighs active donors shares c all = record {
  tree = refl;
  model = refl;
  clock = refl;
  queues = refl;
  row = λ n. rw (reshared_row active donors shares c all n);
  budget = λ n. rw (reshared_row active donors shares c all n) (rescaling_adds_no_budget (share_at c n) (get_or shares n 0) (row_at c n).budget);
  worth = λ n. reshared_worth active donors shares c all n;
}

pub rebasing_reweighs : (active : ℕ) (c : Controller) → length c.rows ≡ nodes_most → Reweighed c (rebased active c)
unfolding rebased
rebasing_reweighs active c all = resharing_reweighs active no_node (base_shares c.tree active) c all

pub active_of_rebased : (active : ℕ) (c : Controller) → (rebased active c).active ≡ active
unfolding rebased reshared
active_of_rebased active c = refl

-- ---- "An inactive leaf becomes active with budget 0": it had none
pub put_back : (n : ℕ) (c : Controller) → put_leaf n (row_at c n) (queue_at c n) c ≡ c
put_back n c = rw (set-get_or c.rows n empty_row, set-get_or c.queues n empty_queue)

abbrev pub active_with : ℕ → Controller → ℕ
active_with n c = set_of (λ k. has c.active k || eqb k n)

pub activated_is : (n : ℕ) (c : Controller) → (row_at c n).budget.0 ≡ 0 → activated n c ≡ rebased (active_with n c) c
unfolding activated
activated_is n c e =
    let same : with_budget (virt 0) (row_at c n) ≡ row_at c n = ap (λ (x : ℕ). with_budget (virt x) (row_at c n)) (sym e) in
    rw (same, put_back n c)

module _ {c : Controller} (s : Sound c) (n : ℕ) where
  activation_roles : is_leaf c.tree n ≡ true → SoundRoles c (active_with n c) no_node
  activation_roles leaf = record {
    active_fits = set_small (λ k. has c.active k || eqb k n) nodes_most;
    donors_fit = omega arith;
    leaves = λ k e. within k (or_cases (has c.active k) (eqb k n) (member k e));
    donors_active = λ k e. absurd (true_not_false e (has_none k));
    donors_free = λ k e. absurd (true_not_false e (has_none k));
    idle = λ k e. s.idle k (stranger k e);
  }
    where
      member : (k : ℕ) → has (active_with n c) k ≡ true → (has c.active k || eqb k n) ≡ true
      member k e = set_of_in (λ j. has c.active j || eqb j n) k e

      within : (k : ℕ) → (has c.active k ≡ true) ⊎ (eqb k n ≡ true) → is_leaf c.tree k ≡ true
      within k (inl e) = s.active k e
      within k (inr e) = rw (eqb-true k n e) leaf

      stranger : (k : ℕ) → has (active_with n c) k ≡ false → has c.active k ≡ false
      stranger k e =
          is_false (has c.active k)
          (λ a.
          true_not_false (or_left (has c.active k) (eqb k n) a)
          (set_stranger (λ j. has c.active j || eqb j n) k (active_node s.tree c.active s.active k a) e))

  -- ---- the bio's leaf is active once it has entered, and the state is sound
  pub entering_keeps : is_leaf c.tree n ≡ true → Sound (entered n c)
  unfolding entered
  entering_keeps leaf = go (has c.active n) refl
    where
      go : (b : Bool) → has c.active n ≡ b → Sound (cond b c (activated n c))
      go true e = s
      go false e = rw (activated_is n c (s.idle n e).no_budget) (rebasing_keeps (books_of s) (active_with n c) (activation_roles leaf))

  pub entering_reweighs : Reweighed c (entered n c)
  unfolding entered
  entering_reweighs = go (has c.active n) refl
    where
      go : (b : Bool) → has c.active n ≡ b → Reweighed c (cond b c (activated n c))
      go true e = reweighed_itself c
      go false e = rw (activated_is n c (s.idle n e).no_budget) (rebasing_reweighs (active_with n c) c s.rows_all)

  pub entered_is_active : is_leaf c.tree n ≡ true → has (entered n c).active n ≡ true
  unfolding entered
  entered_is_active leaf = go (has c.active n) refl
    where
      joined : has (active_with n c) n ≡ true
      joined =
          has_set_of (λ k. has c.active k || eqb k n) n (omega (arith, leaf_last c.tree n leaf, last_most s.tree))
          ∙ or_right (has c.active n) (eqb n n) (eq-eqb n n refl)

      go : (b : Bool) → has c.active n ≡ b → has (cond b c (activated n c)).active n ≡ true
      go true e = e
      go false e = rw (activated_is n c (s.idle n e).no_budget, active_of_rebased (active_with n c) c) joined

  -- and no other leaf goes inactive by it
  pub entering_leaves_all_active : (k : ℕ) → has c.active k ≡ true → has (entered n c).active k ≡ true
  unfolding entered
  entering_leaves_all_active k a = go (has c.active n) refl
    where
      joined : has (active_with n c) k ≡ true
      joined =
          has_set_of (λ j. has c.active j || eqb j n) k (active_node s.tree c.active s.active k a)
          ∙ or_left (has c.active k) (eqb k n) a

      go : (b : Bool) → has c.active n ≡ b → has (cond b c (activated n c)).active k ≡ true
      go true e = a
      go false e = rw (activated_is n c (s.idle n e).no_budget, active_of_rebased (active_with n c) c) joined
