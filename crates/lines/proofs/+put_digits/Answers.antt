-- A number below a hundred is written by its digits, and any other behind its hundredth's: each byte stands behind those of a
-- tenth, or of a hundredth.
-- Assumes nothing.
use Rattle.std.proofs.Common.{◌≡◌, refl, subst, List, ℕ, ◌+◌, ◌/◌, ◌%◌, ◌^◌, ◌≤◌, ◌<◌, length, set, arith, length-append}
use Rattle.rules.specs.Replay.{digits}
use Rattle.rules.specs.Buffers.{Written, Stands}
use Rattle.rules.proofs.Laws.Buffers.{stands_in, stands_byte, stands_first}
use Rattle.rules.proofs.Laws.Lines.{digits_short, digits_long}
use Rattle.lines.proofs.+put_digits.Goals as goal

module _ (n : ℕ) (o₀ : List ℕ) (room : length (digits n) ≤ length o₀) where
  some : n < 10 → 0 < length o₀
  some h = let one : 1 ≤ length o₀ = rw (digits_short n h) at room in omega arith

  short : n < 10 → Stands (digits n) o₀ (set o₀ 0 (48 + n)) 1
  short h = rw (digits_short n h) (stands_first o₀ (48 + n) (some h))

  module _ (h : 10 ≤ n) (fits : n < 2 ^ 64) where
    longer : length (digits n) ≡ length (digits (n / 10)) + 1
    longer = rw (digits_long n h fits, length-append)

    tenth-room : length (digits (n / 10)) ≤ length o₀
    tenth-room = omega (arith, longer)

    module _ (r : ℕ) (o : List ℕ) (w : Written (digits (n / 10)) r o₀ o) where
      more : r < length o₀
      more = omega (arith, longer, w.0)

      tenth : Stands (digits (n / 10)) o₀ o r
      tenth = record { front = w; within = omega (arith, more) }

      last-in : r < length o
      last-in = stands_in tenth more

      long : Stands (digits n) o₀ (set o r (48 + n % 10)) (r + 1)
      long = rw (digits_long n h fits) (stands_byte tenth more (48 + n % 10))

    -- two digits
    module _ (s : n < 100) where
      both : 1 < length o₀
      both =
          let one : length (digits (n / 10)) ≡ 1 = rw (digits_short (n / 10) (omega arith)) refl in
          omega (arith, longer)

      first : Stands (digits (n / 10)) o₀ (set o₀ 0 (48 + n / 10)) 1
      first = rw (digits_short (n / 10) (omega arith)) (stands_first o₀ (48 + n / 10) (omega (arith, both)))

      second-in : 1 < length (set o₀ 0 (48 + n / 10))
      second-in = stands_in first both

      pair : Stands (digits n) o₀ (set (set o₀ 0 (48 + n / 10)) 1 (48 + n % 10)) 2
      pair = rw (digits_long n h fits) (stands_byte first both (48 + n % 10))

-- three digits and more: the last but one is the last of a tenth
module _ (n : ℕ) (o₀ : List ℕ) (room : length (digits n) ≤ length o₀) (h : 100 ≤ n) (fits : n < 2 ^ 64) where
  tenth-fits : length (digits (n / 10)) ≤ length o₀
  tenth-fits = tenth-room n o₀ room (omega arith) fits

  hundredth-room : length (digits (n / 10 / 10)) ≤ length o₀
  hundredth-room = tenth-room (n / 10) o₀ tenth-fits (omega arith) (omega arith)

  module _ (r : ℕ) (o : List ℕ) (w : Written (digits (n / 10 / 10)) r o₀ o) where
    but-one-in : r < length o
    but-one-in = last-in (n / 10) o₀ tenth-fits (omega arith) (omega arith) r o w

    but-one : Stands (digits (n / 10)) o₀ (set o r (48 + n / 10 % 10)) (r + 1)
    but-one = long (n / 10) o₀ tenth-fits (omega arith) (omega arith) r o w

    end-room : r + 1 < length o₀
    end-room = omega (arith, longer n o₀ room (omega arith) fits, longer (n / 10) o₀ tenth-fits (omega arith) (omega arith), w.0)

    end-in : r + 1 < length (set o r (48 + n / 10 % 10))
    end-in = stands_in but-one end-room

    all : Stands (digits n) o₀ (set (set o r (48 + n / 10 % 10)) (r + 1) (48 + n % 10)) (r + 2)
    all =
        let two : r + 1 + 1 ≡ r + 2 = omega arith in
        subst (λ (k : ℕ). Stands (digits n) o₀ (set (set o r (48 + n / 10 % 10)) (r + 1) (48 + n % 10)) k) two
        (rw (digits_long n (omega arith) fits) (stands_byte but-one end-room (48 + n % 10)))

pub bounds-out-0 : goal.bounds-out-0
bounds-out-0 t c = some c.args.n c.args.out.now c.requires c.if-n-lt10.true

pub returns-then-n-lt10 : goal.returns-then-n-lt10
returns-then-n-lt10 t c = (short c.args.n c.args.out.now c.requires c.if-n-lt10.true).front

-- above the goals that a lie about them may leave true: the first error is what is false
pub returns-then-n-lt100 : goal.returns-then-n-lt100
returns-then-n-lt100 t c = (pair c.args.n c.args.out.now c.requires c.if-n-lt10.false c.ranges.n.fits c.if-n-lt100.true).front

pub returns : goal.returns
returns t c =
    (all c.args.n c.args.out.now c.requires c.if-n-lt100.false c.ranges.n.fits c.put_digits-at.result c.put_digits-at.new.out
    c.put_digits-at.ensures).front

pub bounds-out-0-then-n-lt100 : goal.bounds-out-0-then-n-lt100
bounds-out-0-then-n-lt100 t c =
    omega (arith, both c.args.n c.args.out.now c.requires c.if-n-lt10.false c.ranges.n.fits c.if-n-lt100.true)

pub bounds-out-1 : goal.bounds-out-1
bounds-out-1 t c = second-in c.args.n c.args.out.now c.requires c.if-n-lt10.false c.ranges.n.fits c.if-n-lt100.true

pub put_digits-at-requires : goal.put_digits-at-requires
put_digits-at-requires t c = (
  omega (arith, c.decreases, c.if-n-lt100.false),
  hundredth-room c.args.n c.args.out.now c.requires c.if-n-lt100.false c.ranges.n.fits,
)

pub bounds-out-at : goal.bounds-out-at
bounds-out-at t c =
    but-one-in c.args.n c.args.out.now c.requires c.if-n-lt100.false c.ranges.n.fits c.put_digits-at.result c.put_digits-at.new.out
    c.put_digits-at.ensures

pub bounds-out-at-2 : goal.bounds-out-at-2
bounds-out-at-2 t c =
    end-in c.args.n c.args.out.now c.requires c.if-n-lt100.false c.ranges.n.fits c.put_digits-at.result c.put_digits-at.new.out
    c.put_digits-at.ensures
