-- Numbers as text and read off it: what is read is what would be written, and what is written is read.
use Prim.Native.Nat.{ℕ, zero, suc, ◌+◌, ◌-◌, ◌*◌, ◌/◌, ◌%◌, ◌<◌, ◌≤◌}
use native.Mathlib.Omega.{arith}
use mathlib.Core.Bool.{true, ◌&&◌}
use mathlib.Core.Path.{◌≡◌, refl, sym, ap, ◌∙◌}
use mathlib.Core.List.{List, [], ◌∷◌, ◌++◌, append_assoc}
use lib.ListN.{drop}
use lib.Dec.{leb, ltb, eqb}
use borrow.Author.Tests.{ltb-true, ltb-false, leb-true, eqb-true, le-leb, lt-leb, ne_eqb}
use Rattle.printing.specs.Decimal.{digit, decimal}
use Rattle.printing.proofs.Digits.{decimal-small, decimal-more}
use Rattle.sheet.specs.Numbers.{first, Number, found, digits, positive, unsigned}
use Rattle.base.proofs.Tests.{of-choice, by-test, no_bool, and_l, and_r}

pub front : (s : List ℕ) → 0 < first s → s ≡ first s ∷ drop 1 s
front [] h = absurd (omega arith)
front (b ∷ s) h = refl

-- ---- digits

-- a digit behind the digits of a number above zero
more : (v b : ℕ) (s : List ℕ) → 0 < v → 48 ≤ b → b ≤ 57 → decimal v ++ (b ∷ s) ≡ decimal (v * 10 + (b - 48)) ++ s
more v b s h l u =
    let n : ℕ = v * 10 + (b - 48) in
    let q : n / 10 ≡ v = omega arith in
    let d : digit (n % 10) ≡ b = omega arith in
    rw (decimal-more n (omega arith), q, d) (sym (append_assoc (decimal v) (b ∷ []) s))

pub digits_above : (v : ℕ) (s : List ℕ) → 0 < v → 0 < (digits v s).value
unfolding digits
digits_above v [] h = h
digits_above v (b ∷ s) h = of-choice (λ (n : Number). 0 < n.value) (leb 48 b && leb b 57) (λ t. digits_above (v * 10 + (b - 48)) s (omega arith))
    (λ f. h)

digits-text : (v : ℕ) (s : List ℕ) → 0 < v → decimal v ++ s ≡ decimal (digits v s).value ++ (digits v s).rest
unfolding digits
digits-text v [] h = refl
digits-text v (b ∷ s) h =
    of-choice (λ (n : Number). decimal v ++ (b ∷ s) ≡ decimal n.value ++ n.rest) (leb 48 b && leb b 57)
    (λ t. more v b s h (leb-true 48 b (and_l _ _ t)) (leb-true b 57 (and_r (leb 48 b) _ t)) ∙ digits-text (v * 10 + (b - 48)) s (omega arith))
    (λ f. refl)

digits-one : (v b : ℕ) (q : List ℕ) → 48 ≤ b → b ≤ 57 → digits v (b ∷ q) ≡ digits (v * 10 + (b - 48)) q
unfolding digits
digits-one v b q l u = rw (le-leb 48 b l, le-leb b 57 u)

-- a number ends before a byte below the digits, or at the end
digits-end : (v : ℕ) (q : List ℕ) → first q < 48 → digits v q ≡ found v q
unfolding digits
digits-end v [] h = refl
digits-end v (b ∷ q) h = rw (lt-leb 48 b h)

-- ---- a number above zero

module _ (s : List ℕ) (g : (positive s).good ≡ true) where
  starts : (leb 49 (first s) && leb (first s) 57) ≡ true
  unfolding positive
  starts = by-test (leb 49 (first s) && leb (first s) 57) (λ t. t) (λ f. no_bool (rw f at g))

  pub positive-first : 49 ≤ first s
  positive-first = leb-true 49 (first s) (and_l _ _ starts)

  positive-last : first s ≤ 57
  positive-last = leb-true (first s) 57 (and_r (leb 49 (first s)) _ starts)

  positive-is : positive s ≡ digits (first s - 48) (drop 1 s)
  unfolding positive
  positive-is = rw starts

  pub positive-above : 0 < (positive s).value
  positive-above = rw positive-is (digits_above (first s - 48) (drop 1 s) (omega (arith, positive-first)))

  -- read, and written again
  pub positive-text : s ≡ decimal (positive s).value ++ (positive s).rest
  positive-text =
      let l = positive-first in
      let u = positive-last in
      let d : digit (first s - 48) ≡ first s = omega arith in
      let one : decimal (first s - 48) ≡ first s ∷ [] = decimal-small (first s - 48) (omega arith) ∙ ap (λ (b : ℕ). b ∷ []) d in
      front s (omega arith) ∙ ap (λ (t : List ℕ). t ++ drop 1 s) (sym one) ∙ digits-text (first s - 48) (drop 1 s) (omega arith)
      ∙ ap (λ (n : Number). decimal n.value ++ n.rest) (sym positive-is)

-- written, and read again
from-decimal : (f m : ℕ) → m ≤ f → 0 < m → (q : List ℕ) → positive (decimal m ++ q) ≡ digits m q
unfolding positive
from-decimal zero m l h q = absurd (omega arith)
from-decimal (suc f) m l h q =
    by-test (ltb m 10)
    (λ t. let s : m < 10 = ltb-true m 10 t in
    let e : 48 + m - 48 ≡ m = omega arith in
    rw (decimal-small m s, le-leb 49 (48 + m) (omega arith), le-leb (48 + m) 57 (omega arith), e))
    (λ t. let s : 10 ≤ m = ltb-false m 10 t in
    let b : ℕ = digit (m % 10) in
    let e : m / 10 * 10 + (b - 48) ≡ m = omega arith in
    let c : decimal m ++ q ≡ decimal (m / 10) ++ (b ∷ q) = rw (decimal-more m s) (append_assoc (decimal (m / 10)) (b ∷ []) q) in
    ap positive c
    ∙ from-decimal f (m / 10) (omega arith) (omega arith) (b ∷ q)
    ∙ digits-one (m / 10) b q (omega arith) (omega arith)
    ∙ ap (λ (n : ℕ). digits n q) e)

pub positive_back : (m : ℕ) (q : List ℕ) → 0 < m → first q < 48 → positive (decimal m ++ q) ≡ found m q
positive_back m q h e = from-decimal m m (omega arith) h q ∙ digits-end m q e

-- ---- a number

pub unsigned-first : (s : List ℕ) → (unsigned s).good ≡ true → 48 ≤ first s
unfolding unsigned
unsigned-first s =
    of-choice (λ (n : Number). n.good ≡ true → 48 ≤ first s) (eqb (first s) 48)
    (λ t g. omega (arith, eqb-true (first s) 48 t))
    (λ f g. omega (arith, positive-first s g))

pub unsigned-text : (s : List ℕ) → (unsigned s).good ≡ true → s ≡ decimal (unsigned s).value ++ (unsigned s).rest
unfolding unsigned
unsigned-text s =
    of-choice (λ (n : Number). n.good ≡ true → s ≡ decimal n.value ++ n.rest) (eqb (first s) 48)
    (λ t g. let e = eqb-true (first s) 48 t in front s (omega arith) ∙ rw (e, decimal-small 0 (omega arith)))
    (λ f g. positive-text s g)

pub unsigned_back : (m : ℕ) (q : List ℕ) → first q < 48 → unsigned (decimal m ++ q) ≡ found m q
unfolding unsigned
unsigned_back zero q h = rw (decimal-small 0 (omega arith))
unsigned_back (suc m) q h =
    let e = positive_back (suc m) q (omega arith) h in
    let b = positive-first (decimal (suc m) ++ q) (ap (λ (n : Number). n.good) e) in
    rw (ne_eqb (first (decimal (suc m) ++ q)) 48 (λ x. omega arith), e)
