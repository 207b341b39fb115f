-- Laws of a column's sum: what its words stand for in whole numbers.
-- Assumes nothing.
use Rattle.std.proofs.Common.{◌≡◌, ℕ, suc, ◌+◌, ◌-◌, ◌*◌, ◌%◌, ◌^◌, ◌<◌, ◌≤◌, Bool, true, false, ◌&&◌, eqb, ltb, leb, List, [], ◌∷◌, length, ℤ, pos}
use Rattle.std.proofs.Common.{negsuc, ◌+ℤ◌, refl, ap, arith, ltb-false, ltb-true, le-ltb, lt-ltb, eq-eqb, ne_eqb, eqb-true, le-leb}
use borrow.Author.Tests.{lt-leb, eqb-false}
use lib.IntN.{sub_ℕ, +ℤ_assoc, +ℤ_idl, +ℤ_idr}
use Rattle.base.specs.Choice.{pick, one_more_lem}
use Rattle.base.specs.Signed.{signed_of}
use Rattle.base.proofs.Tests.{by-test}
use Rattle.printing.specs.Decimal.{decimal, signed}
use Rattle.table.specs.declared.sums.Sum.{Sum}
use Rattle.table.specs.Sums.{no_sum, sum_with, fits}
use Rattle.table.specs.Whole.{whole_sum, signed_sum, in_word}

-- the last number of 64 bits
abbrev most : ℕ
most = 18446744073709551615

-- the words of a column, one after the other
unfoldable pub sum_over : Bool → Sum → List ℕ → Sum
sum_over signed s [] = s
sum_over signed s (w ∷ ws) = sum_over signed (sum_with signed s w) ws

-- each of them is one
abbrev pub Words : List ℕ → Type 0
Words [] = Unit
Words (w ∷ ws) = (w < 2 ^ 64) × Words ws

-- after at most n of them
pub record Held (s : Sum) (n : ℕ) : Type 0 where
  pub low : s.low < 2 ^ 64
  pub ups : s.ups ≤ n
  pub downs : s.downs ≤ n

-- ---- one word more

counted : (b : Bool) (u n : ℕ) → u ≤ n → n < most → pick b (one_more_lem u) u ≤ n + 1
counted true u n h k = rw (lt-ltb u most (omega arith)) (omega arith)
counted false u n h k = omega arith

over : (l w u : ℕ) → l < 2 ^ 64 → w < 2 ^ 64 → u < most
    → (l + w) % 2 ^ 64 + 2 ^ 64 * pick (ltb ((l + w) % 2 ^ 64) w) (one_more_lem u) u ≡ l + w + 2 ^ 64 * u
over l w u p q h =
    by-test (ltb ((l + w) % 2 ^ 64) w)
    (λ t. rw (t, lt-ltb u most h) (let k = ltb-true ((l + w) % 2 ^ 64) w t in omega (arith, k)))
    (λ t. rw t (let k = ltb-false ((l + w) % 2 ^ 64) w t in omega (arith, k)))

held_on : (signed : Bool) (s : Sum) (w n : ℕ) → Held s n → w < 2 ^ 64 → n < most → Held (sum_with signed s w) (n + 1)
held_on signed s w n h q k =
    record {
      low = omega arith;
      ups = counted (ltb ((s.low + w) % 2 ^ 64) w) s.ups n h.ups k;
      downs = counted (signed && leb (2 ^ 63) w) s.downs n h.downs k;
    }

-- ---- as they are

pub whole-on : (signed : Bool) (ws : List ℕ) (s : Sum) (n : ℕ) → Words ws → Held s n → n + length ws ≤ most
    → ((sum_over signed s ws).low + 2 ^ 64 * (sum_over signed s ws).ups ≡ s.low + 2 ^ 64 * s.ups + whole_sum ws)
    × Held (sum_over signed s ws) (n + length ws)
unfolding sum_over whole_sum
whole-on signed [] s n o h k = let e : n + 0 ≡ n = omega arith in (omega arith, rw e h)
whole-on signed (w ∷ ws) s n o h k =
    let one = over s.low w s.ups h.low o.0 (omega (arith, h.ups)) in
    let i = whole-on signed ws (sum_with signed s w) (n + 1) o.1 (held_on signed s w n h o.0 (omega arith)) (omega arith) in
    let e : n + 1 + length ws ≡ n + suc (length ws) = omega arith in
    (omega (arith, one, i.0), rw e at i.1)

-- ---- as signed numbers

-- the sum s stands for the whole number z
abbrev pub Stands : Sum → ℤ → Type 0
Stands s (pos n) = n + 2 ^ 64 * s.downs ≡ s.low + 2 ^ 64 * s.ups
Stands s (negsuc n) = 2 ^ 64 * s.downs ≡ s.low + 2 ^ 64 * s.ups + suc n

-- a difference
less : (s : Sum) (a b : ℕ) → a + 2 ^ 64 * s.downs ≡ s.low + 2 ^ 64 * s.ups + b → Stands s (sub_ℕ a b)
less s a b e =
    by-test (ltb a b)
    (λ t. rw t (let h = ltb-true a b t in omega (arith, e, h)))
    (λ t. rw t (let h = ltb-false a b t in omega (arith, e, h)))

-- a number from zero on
plus-above : (s r : Sum) (w : ℕ) (z : ℤ) → Stands s z → r.low + 2 ^ 64 * r.ups ≡ s.low + w + 2 ^ 64 * s.ups → r.downs ≡ s.downs
    → Stands r (z +ℤ pos w)
plus-above s r w (pos n) h e d = omega (arith, h, e, d)
plus-above s r w (negsuc n) h e d = less r w (suc n) (omega (arith, h, e, d))

-- a number below zero, whose word is 2^64 above it
plus-below : (s r : Sum) (w m : ℕ) (z : ℤ) → Stands s z → r.low + 2 ^ 64 * r.ups ≡ s.low + w + 2 ^ 64 * s.ups
    → r.downs ≡ s.downs + 1 → suc m + w ≡ 2 ^ 64 → Stands r (z +ℤ negsuc m)
plus-below s r w m (pos n) h e d q = less r n (suc m) (omega (arith, h, e, d, q))
plus-below s r w m (negsuc n) h e d q = omega (arith, h, e, d, q)

stands_on : (s : Sum) (w n : ℕ) (z : ℤ) → Stands s z → Held s n → w < 2 ^ 64 → n < most → Stands (sum_with true s w) (z +ℤ signed_of w)
stands_on s w n z h v q k =
    let one = over s.low w s.ups v.low q (omega (arith, v.ups)) in
    by-test (ltb w (2 ^ 63))
    (λ t.
    let small = ltb-true w (2 ^ 63) t in
    rw t (plus-above s (sum_with true s w) w z h one (rw (lt-leb (2 ^ 63) w small) refl)))
    (λ t.
    let big = ltb-false w (2 ^ 63) t in
    rw t
    (plus-below s (sum_with true s w) w (2 ^ 64 - suc w) z h one
    (rw (le-leb (2 ^ 63) w big, lt-ltb s.downs most (omega (arith, v.downs))) refl) (omega arith)))

pub signed-on : (ws : List ℕ) (s : Sum) (n : ℕ) (z : ℤ) → Words ws → Held s n → n + length ws ≤ most → Stands s z
    → Stands (sum_over true s ws) (z +ℤ signed_sum ws)
unfolding sum_over signed_sum
signed-on [] s n z o h k e = rw (+ℤ_idr z) e
signed-on (w ∷ ws) s n z o h k e =
    rw (← +ℤ_assoc z (signed_of w) (signed_sum ws))
    (signed-on ws (sum_with true s w) (n + 1) (z +ℤ signed_of w) o.1 (held_on true s w n h o.0 (omega arith)) (omega arith)
    (stands_on s w n z e h o.0 (omega arith)))

-- ---- what is printed

pub whole-text : (s : Sum) (sum : ℕ) → s.low < 2 ^ 64 → s.low + 2 ^ 64 * s.ups ≡ sum
    → pick (eqb s.ups 0) (decimal s.low) [] ≡ pick (ltb sum (2 ^ 64)) (decimal sum) []
whole-text s sum h e =
    by-test (eqb s.ups 0)
    (λ t.
    let z = eqb-true s.ups 0 t in
    let same : s.low ≡ sum = omega (arith, z, e) in
    rw (t, lt-ltb sum (2 ^ 64) (omega (arith, same, h)), same) refl)
    (λ t. let n = eqb-false s.ups 0 t in rw (t, le-ltb sum (2 ^ 64) (omega (arith, n, e))) refl)

-- the word of a sum that fits stands for it, and one that does not fit is not printed
pub signed-text : (s : Sum) (z : ℤ) → s.low < 2 ^ 64 → Stands s z
    → pick (fits true s) (signed (signed_of s.low)) [] ≡ pick (in_word z) (signed z) []
signed-text s (pos n) h e =
    by-test (ltb n (2 ^ 63))
    (λ t.
    let k = ltb-true n (2 ^ 63) t in
    let same : s.low ≡ n = omega (arith, h, e, k) in
    let ups : s.ups ≡ s.downs = omega (arith, h, e, k) in
    let low = lt-ltb s.low (2 ^ 63) (omega (arith, same, k)) in
    rw (t, low, eq-eqb s.ups s.downs ups) (ap (λ (m : ℕ). signed (pos m)) same))
    (λ t.
    let k = ltb-false n (2 ^ 63) t in
    rw t
    (by-test (ltb s.low (2 ^ 63))
    (λ l.
    let small = ltb-true s.low (2 ^ 63) l in
    rw (l, ne_eqb s.ups s.downs (λ q. omega (arith, h, e, k, small, q))) refl)
    (λ l. rw (l, le-ltb s.ups s.downs (omega (arith, h, e, k))) refl)))
signed-text s (negsuc n) h e =
    by-test (ltb n (2 ^ 63))
    (λ t.
    let k = ltb-true n (2 ^ 63) t in
    let one : s.downs - s.ups ≡ 1 = omega (arith, h, e, k) in
    let up : s.ups < s.downs = omega (arith, h, e, k) in
    let big : 2 ^ 63 ≤ s.low = omega (arith, h, e, k) in
    let same : 2 ^ 64 - suc s.low ≡ n = omega (arith, h, e, k) in
    rw (t, le-ltb s.low (2 ^ 63) big, lt-ltb s.ups s.downs up, eq-eqb (s.downs - s.ups) 1 one) (ap (λ (m : ℕ). signed (negsuc m)) same))
    (λ t.
    let k = ltb-false n (2 ^ 63) t in
    rw t
    (by-test (ltb s.low (2 ^ 63))
    (λ l. rw (l, ne_eqb s.ups s.downs (λ q. omega (arith, h, e, k, q))) refl)
    (λ l.
    let big = ltb-false s.low (2 ^ 63) l in
    let up : s.ups < s.downs = omega (arith, h, e, k) in
    rw (l, lt-ltb s.ups s.downs up, ne_eqb (s.downs - s.ups) 1 (λ q. omega (arith, h, e, k, big, q))) refl)))

pub held_none : Held no_sum 0
held_none = record { low = omega arith; ups = omega arith; downs = omega arith }

pub all_words : (signed : Bool) (ws : List ℕ) → Words ws → length ws ≤ most
    → ((sum_over signed no_sum ws).low + 2 ^ 64 * (sum_over signed no_sum ws).ups ≡ whole_sum ws) × ((sum_over signed no_sum ws).low < 2 ^ 64)
all_words signed ws o k = let a = whole-on signed ws no_sum 0 o held_none (omega arith) in (omega (arith, a.0), a.1.low)

pub all-signed : (ws : List ℕ) → Words ws → length ws ≤ most → Stands (sum_over true no_sum ws) (signed_sum ws)
all-signed ws o k = rw (+ℤ_idl (signed_sum ws)) at (signed-on ws no_sum 0 (pos 0) o held_none (omega arith) refl)
