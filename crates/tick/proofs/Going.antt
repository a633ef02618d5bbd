-- The leaves' turns on plain values: the leaves below n have had theirs, and their ids stand at the front of the buffer.
-- Assumes nothing.
use mathlib.Core.Path.{◌≡◌, refl, sym, ap, ◌∙◌}
use mathlib.Core.Bool.{true, false, not, ◌&&◌}
use mathlib.Core.List.{List, ◌++◌, append-nil}
use Prim.Native.Nat.{ℕ, zero, suc, ◌+◌, ◌-◌, ◌≤◌, ◌<◌}
use native.Mathlib.Nat.{add-zero}
use native.Mathlib.Omega.{arith}
use lib.Dec.{eqb}
use lib.ListN.{length, take, drop, get_or, set, length-append, length-drop}
use lib.Seq.{length-take-le, get_or-set_same, set-set}
use Rattle.rules.specs.Numbers.{nodes_most, leaf_most}
use Rattle.rules.specs.Words.{sum_to, join_to, table, has, set_of}
use Rattle.rules.specs.Budget.{row_at, queue_at, share_at, empty_row, empty_queue, with_clock, with_books}
use Rattle.rules.specs.Tick.{Turn, no_release, and_capped, and_repaid, growth, advanced, release_in, turn, turn_of, releases, lent_after, tick, waiting_all}
use Rattle.tick.specs.Passing.{Released}
use Rattle.rules.specs.Invariant.{Sound, TickPasses}
use Rattle.rules.proofs.Laws.Buffers.{stands_none, stands_rest, stands_more}
use Rattle.rules.proofs.Laws.Sums.{sum_step, sum_le, sum_part, length_join, join_step}
use Rattle.rules.proofs.Laws.Tables.{table_length, get_D_inside}
use Rattle.rules.proofs.Laws.Sweeps.{swept, place_here, place_put, place_skip, places_done}
use Rattle.rules.specs.Buffers.{Written, Stands, rest_of, put_back}
use Rattle.rules.proofs.Laws.Ticks.{active_turn, idle_turn, leaf_tick}
use Rattle.rules.proofs.Laws.Trees.{no_root_within}
use Rattle.rules.specs.declared.units.Virt.{Virt}
use Rattle.rules.specs.declared.budget.Row.{Row}
use Rattle.rules.specs.declared.budget.Queue.{Queue}
use Rattle.rules.specs.declared.budget.Clock.{Clock}
use Rattle.rules.specs.declared.budget.Controller.{Controller}
use Rattle.sets.specs.Lowest.{Lowest}
use Rattle.sets.specs.Visit.{Passed, root_passed, nothing_left, not_before, member, none_between, passes}
use Rattle.leaf.specs.Alone.{length_only}
use Rattle.leaf.specs.Fit.{Fit, FitRow, CanRelease, gain_most, active_is_fit}
use Rattle.leaf.specs.Turns.{settled_of, cut, Releases, release_cuts, none_due, some_due, due_can_release}
use Rattle.leaf.specs.declared.tick.Settled.{Settled}
use Rattle.leaf.specs.declared.tick.Left.{Left}
use Rattle.tick.specs.Clocks.{Near}

module _ (g : Virt) (c : Controller) where
  abbrev row_of : ℕ → Row
  row_of n = (turn_of g c n).row

  abbrev queue_of : ℕ → Queue
  queue_of n = (turn_of g c n).queue

  abbrev ids_of : ℕ → List ℕ
  ids_of n = (turn_of g c n).ids

  -- the ids of the leaves below n
  abbrev ids_below : ℕ → List ℕ
  ids_below n = join_to ids_of (n - 1)

pub passing_is_near : {c : Controller} {time places : ℕ} → Sound c → TickPasses time places c → Near time c.clock
passing_is_near sound passes = record { sound = sound.clock; forward = passes.forward; near = passes.near }

-- c and lent as they came; s, out and at as they are once the leaves below n have had their turns
pub record Going (g : Virt) (c : Controller) (lent : List ℕ) (s : Controller) (out : List ℕ) (at n : ℕ) : Type 0 where
  pub from : 0 < n
  pub upto : n ≤ nodes_most
  pub rows : s.rows ≡ swept (table (row_of g c)) c.rows n
  pub queues : s.queues ≡ swept (table (queue_of g c)) c.queues n
  pub rest : s ≡ with_books s.rows s.queues c
  pub front : Stands (ids_below g c n) lent out at

-- the same by the leaves that are left: all below some n are passed
pub record Walking (g : Virt) (c : Controller) (lent : List ℕ) (s : Controller) (out : List ℕ) (at left : ℕ) : Type 0 where
  pub n : ℕ
  pub going : Going g c lent s out at n
  pub passed : Passed c.active left n

-- the queue that the code reads: inside the list, whatever stands past its end
abbrev read : List Queue → ℕ → Queue
read queues n = get_or queues n (length_only 0)

-- a queue's head and its length are stored one after the other
abbrev head_at : List Queue → ℕ → ℕ → List Queue
head_at queues n head = set queues n (cut (read queues n) head (read queues n).len)

abbrev pub cut_at : List Queue → ℕ → ℕ → ℕ → List Queue
cut_at queues n head len = set (head_at queues n head) n (cut (read (head_at queues n head) n) (read (head_at queues n head) n).head len)

cut_once : (queues : List Queue) (n head len : ℕ) → n < length queues → cut_at queues n head len ≡ set queues n (cut (read queues n) head len)
cut_once queues n head len l =
    rw (get_or-set_same queues n (cut (read queues n) head (read queues n).len) (length_only 0) l)
    (set-set queues n (cut (read queues n) head (read queues n).len) (cut (read queues n) head len))

module _ {c : Controller} (sound : Sound c) (g : Virt) where
  -- no more is released than waits, up to any leaf
  released_most : (m : ℕ) → length (join_to (ids_of g c) m) ≤ sum_to (λ n. (queue_at c n).len) m
  released_most m =
      rw (length_join (ids_of g c) m)
      (sum_le (λ n. length (ids_of g c n)) (λ n. (queue_at c n).len) m (λ n p l. omega (arith, (leaf_tick sound g n).left)))

  root_is_idle : has c.active 0 ≡ false
  root_is_idle = no_root_within c.tree c.active sound.active

  begins_at : (lent : List ℕ) → Going g c lent c lent 0 1
  unfolding join_to
  begins_at lent =
      let idle = idle_turn g c 0 root_is_idle in
      record {
        from = omega arith;
        upto = omega arith;
        rows = place_skip (row_of g c) c.rows c.rows 0 empty_row sound.rows_all refl (omega arith) (sym (ap (λ (t : Turn). t.row) idle));
        queues = place_skip (queue_of g c) c.queues c.queues 0 empty_queue sound.queues_all refl (omega arith) (sym (ap (λ (t : Turn). t.queue) idle));
        rest = refl;
        front = stands_none lent;
      }

  pub begins : (lent : List ℕ) → Walking g c lent c lent 0 c.active
  begins lent = record { n = 1; going = begins_at lent; passed = root_passed c.active sound.active_fits root_is_idle }

  module _ {lent : List ℕ} {s : Controller} {out : List ℕ} {at n : ℕ} (going : Going g c lent s out at n) where
    next_ids : ids_below g c (n + 1) ≡ ids_below g c n ++ ids_of g c n
    next_ids = let e : n + 1 - 1 ≡ n = omega arith in rw e (join_step (ids_of g c) n going.from)

    -- ---- an inactive leaf is passed
    idle_passes : n < nodes_most → has c.active n ≡ false → Going g c lent s out at (n + 1)
    idle_passes h off =
        let idle = idle_turn g c n off in
        let none : ids_below g c (n + 1) ≡ ids_below g c n = next_ids ∙ ap (λ (t : Turn). ids_below g c n ++ t.ids) idle ∙ append-nil (ids_below g c n) in
        record {
          from = omega arith;
          upto = omega arith;
          rows = place_skip (row_of g c) c.rows s.rows n empty_row sound.rows_all going.rows h (sym (ap (λ (t : Turn). t.row) idle));
          queues = place_skip (queue_of g c) c.queues s.queues n empty_queue sound.queues_all going.queues h (sym (ap (λ (t : Turn). t.queue) idle));
          rest = going.rest;
          front = rw none going.front;
        }

  -- and so are all of them up to the next active one, or to the end
  idle_pass : {lent : List ℕ} {s : Controller} {out : List ℕ} {at n : ℕ} → Going g c lent s out at n → (d : ℕ) → n + d ≤ nodes_most
      → ((k : ℕ) → n ≤ k → k < n + d → has c.active k ≡ false) → Going g c lent s out at (n + d)
  idle_pass going zero l off = rw add-zero going
  idle_pass {n = n} going (suc d) l off =
      let e : n + suc d ≡ n + d + 1 = omega arith in
      rw e (idle_passes (idle_pass going d (omega arith) (λ k a b. off k a (omega arith))) (omega arith) (off (n + d) (omega arith) (omega arith)))

  idle_to : {lent : List ℕ} {s : Controller} {out : List ℕ} {at n m : ℕ} → Going g c lent s out at n → n ≤ m → m ≤ nodes_most
      → ((k : ℕ) → n ≤ k → k < m → has c.active k ≡ false) → Going g c lent s out at m
  idle_to {n = n} {m = m} going l h off =
      let e : n + (m - n) ≡ m = omega arith in
      rw e at (idle_pass going (m - n) (omega arith) (λ k a b. off k a (omega arith)))

  -- ---- the lowest leaf of those left has its turn
  module _ {lent : List ℕ} {s : Controller} {out : List ℕ} {at left n : ℕ} (w : Walking g c lent s out at left) (low : Lowest left n) where
    here : Going g c lent s out at n
    here = idle_to w.going (not_before w.passed low) (omega (arith, low.node)) (none_between w.passed low)

    on : has c.active n ≡ true
    on = member w.passed low

    row_here : row_at s n ≡ row_at c n
    row_here = place_here (row_of g c) c.rows s.rows n empty_row sound.rows_all here.rows low.node

    queue_here : read s.queues n ≡ queue_at c n
    queue_here =
        place_here (queue_of g c) c.queues s.queues n (length_only 0) sound.queues_all here.queues low.node
        ∙ get_D_inside c.queues n (length_only 0) empty_queue (rw sound.queues_all low.node)

    share_here : share_at s n ≡ share_at c n
    share_here = ap (λ (k : Controller). share_at k n) here.rest

    queues_stay : length s.queues ≡ nodes_most
    queues_stay =
        let front : length (take n (table (queue_of g c))) ≡ n = length-take-le n (table (queue_of g c)) (omega (arith, table_length (queue_of g c), low.node)) in
        let back : length (drop n c.queues) ≡ length c.queues - n = length-drop n c.queues in
        rw (here.queues, length-append) (omega (arith, front, back, sound.queues_all, low.node))

    module _ {share : ℕ} (same : share ≡ share_at s n) where
      fit : Fit share (row_at s n) (read s.queues n)
      fit = rw (same, share_here, row_here, queue_here) (active_is_fit sound n on)

      pub row_fits : g.0 ≤ gain_most → FitRow share (row_at s n) × (g.0 ≤ gain_most)
      row_fits small = (fit.books, small)

      its_turn : turn_of g c n ≡ turn g share (row_at s n) (read s.queues n)
      its_turn = rw (same, share_here, row_here, queue_here) (active_turn g c n on)

      module _ {t : Settled} (et : t ≡ settled_of g share (row_at s n) (read s.queues n).len) where
        -- ---- nothing is due
        module _ (off : t.due ≡ false) where
          whole_row : turn_of g c n ≡ and_repaid t.repaid (no_release t.row (read s.queues n))
          whole_row =
              its_turn ∙ none_due g share (row_at s n) (read s.queues n) (sym (ap (λ (x : Settled). x.due) et) ∙ off)
              ∙ ap (λ (x : Settled). and_repaid x.repaid (no_release x.row (read s.queues n))) (sym et)

          no_ids : ids_below g c (n + 1) ≡ ids_below g c n
          no_ids = next_ids here ∙ ap (λ (x : Turn). ids_below g c n ++ x.ids) whole_row ∙ append-nil (ids_below g c n)

          queue_stays : queue_at c n ≡ queue_of g c n
          queue_stays = sym queue_here ∙ sym (ap (λ (x : Turn). x.queue) whole_row)

          pub rests : {next : ℕ} → next ≡ set_of (λ k. has left k && not (eqb k n))
              → Walking g c lent (with_books (set s.rows n t.row) s.queues s) out at next
          rests o = record {
            n = n + 1;
            going = record {
              from = omega arith;
              upto = omega (arith, low.node);
              rows =
                  place_put (row_of g c) c.rows s.rows n empty_row sound.rows_all here.rows low.node t.row
                  (sym (ap (λ (x : Turn). x.row) whole_row));
              queues = place_skip (queue_of g c) c.queues s.queues n empty_queue sound.queues_all here.queues low.node queue_stays;
              rest = ap (λ (k : Controller). with_books (set s.rows n t.row) s.queues k) here.rest;
              front = rw no_ids here.front;
            };
            passed = passes w.passed low o;
          }

        -- ---- bios are due
        module _ (due : t.due ≡ true) (room : waiting_all c ≤ length lent) where
          at_least : at + (queue_at c n).len ≤ length lent
          unfolding waiting_all
          at_least =
              let least : length (ids_below g c n) ≤ sum_to (λ k. (queue_at c k).len) (n - 1) = released_most (n - 1) in
              let step : sum_to (λ k. (queue_at c k).len) n ≡ sum_to (λ k. (queue_at c k).len) (n - 1) + (queue_at c n).len = sum_step (λ k. (queue_at c k).len) n here.from in
              let part : sum_to (λ k. (queue_at c k).len) n ≤ sum_to (λ k. (queue_at c k).len) leaf_most = sum_part (λ k. (queue_at c k).len) n leaf_most (omega (arith, low.node)) in
              omega (arith, here.front.front.0)

          is_due_lem : (settled_of g share (row_at s n) (read s.queues n).len).due ≡ true
          is_due_lem = sym (ap (λ (x : Settled). x.due) et) ∙ due

          pub release_fits : g.0 ≤ gain_most → CanRelease share t.row (read s.queues n) × ((read s.queues n).len ≤ length (rest_of out at))
          release_fits small = (
            rw et (due_can_release g share (row_at s n) (read s.queues n) fit small is_due_lem),
            rw (stands_rest here.front, queue_here) (omega (arith, at_least)),
          )

          module _ {r : Left} {part : List ℕ}
              (e : Releases (and_capped (release_in (read s.queues n).len share t.row (read s.queues n))) (rest_of out at) r part) where
            whole : turn_of g c n ≡ and_repaid t.repaid (and_capped (release_in (read s.queues n).len share t.row (read s.queues n)))
            whole =
                its_turn ∙ some_due g share (row_at s n) (read s.queues n) is_due_lem
                ∙ ap (λ (x : Settled). and_repaid x.repaid (and_capped (release_in (read s.queues n).len share x.row (read s.queues n)))) (sym et)

            count_same : r.count ≡ length (ids_of g c n)
            count_same = ap (λ (x : Left). x.count) e.0 ∙ sym (ap (λ (x : Turn). length x.ids) whole)

            its_ids : Written (ids_of g c n) r.count (rest_of out at) part
            unfolding lent_after
            its_ids = (count_same, e.1 ∙ ap (λ (x : Turn). lent_after x.ids (rest_of out at)) (sym whole))

            pub count_fits : at + r.count ≤ length lent
            count_fits = omega (arith, at_least, count_same, (leaf_tick sound g n).left)

            queue_same : cut (read s.queues n) r.head r.len ≡ queue_of g c n
            queue_same =
                ap (λ (x : Left). cut (read s.queues n) x.head x.len) e.0
                ∙ release_cuts (read s.queues n).len share t.row (read s.queues n)
                ∙ sym (ap (λ (x : Turn). x.queue) whole)

            pub goes_on : {next : ℕ} → next ≡ set_of (λ k. has left k && not (eqb k n))
                → Walking g c lent (with_books (set s.rows n r.row) (cut_at s.queues n r.head r.len) s)
                (put_back out at part) (at + r.count) next
            goes_on o = record {
              n = n + 1;
              going = record {
                from = omega arith;
                upto = omega (arith, low.node);
                rows =
                    place_put (row_of g c) c.rows s.rows n empty_row sound.rows_all here.rows low.node r.row
                    (ap (λ (x : Left). x.row) e.0 ∙ sym (ap (λ (x : Turn). x.row) whole));
                queues =
                    cut_once s.queues n r.head r.len (rw queues_stay low.node)
                    ∙ place_put (queue_of g c) c.queues s.queues n empty_queue sound.queues_all here.queues low.node
                    (cut (read s.queues n) r.head r.len) queue_same;
                rest = ap (λ (k : Controller). with_books (set s.rows n r.row) (cut_at s.queues n r.head r.len) k) here.rest;
                front = rw (next_ids here) (stands_more here.front (ids_of g c n) part r.count its_ids count_fits);
              };
              passed = passes w.passed low o;
            }

-- ---- the end
module _ {c : Controller} (sound : Sound c) {g : Virt} (time : ℕ) (gain : g ≡ growth c.clock time)
    {lent : List ℕ} {s : Controller} {out : List ℕ} {at left : ℕ} (w : Walking g c lent s out at left) where
  module _ (none : left ≡ 0) where
    all : Going g c lent s out at nodes_most
    all = idle_to sound g w.going w.going.upto (omega arith) (λ k a b. nothing_left w.passed none k a)

    all_ids : ids_below g c nodes_most ≡ releases (growth c.clock time) c
    unfolding releases
    all_ids = rw gain

    pub ends : {k : Clock} → k ≡ advanced time c.clock → Released at (with_clock k s) out time lent c
    unfolding lent_after tick
    ends {k} ek =
        let rows : s.rows ≡ table (row_of (growth c.clock time) c) = rw gain at (places_done (row_of g c) c.rows s.rows nodes_most sound.rows_all all.rows refl) in
        let queues : s.queues ≡ table (queue_of (growth c.clock time) c) = rw gain at (places_done (queue_of g c) c.queues s.queues nodes_most sound.queues_all all.queues refl) in (
          all.front.front.0 ∙ ap (λ (ids : List ℕ). length ids) all_ids,
          ap (with_clock k) all.rest ∙ rw (rows, queues, ek),
          all.front.front.1 ∙ ap (λ (ids : List ℕ). lent_after ids lent) all_ids,
        )
