-- Laws of `decimal` and `signed`: their two cases, and bounds of a number's length.
use Prim.Native.Nat.{ℕ, zero, suc, ◌+◌, ◌-◌, ◌*◌, ◌/◌, ◌%◌, ◌^◌, ◌<◌, ◌≤◌}
use native.Mathlib.Nat.{pow-suc}
use native.Mathlib.Omega.{arith}
use mathlib.Core.Path.{◌≡◌, refl, sym, ap, ◌∙◌, subst}
use mathlib.Core.List.{List, [], ◌∷◌, ◌++◌}
use lib.ListN.{length, length-append}
use lib.Dec.{ltb}
use borrow.Author.Tests.{lt-ltb, le-ltb, ltb-true, ltb-false}
use Rattle.base.specs.Signed.{signed_of}
use Rattle.base.proofs.Tests.{by-test}
use Rattle.printing.specs.Decimal.{digit, digits_by, decimal, signed}

by_one : (f n : ℕ) → n < 10 → digits_by f (ltb n 10) n ≡ digit n ∷ []
unfolding digits_by
by_one zero n h = refl
by_one (suc f) n h = rw (lt-ltb n 10 h)

by-more : (f n : ℕ) → 10 ≤ n → digits_by (suc f) (ltb n 10) n ≡ digits_by f (ltb (n / 10) 10) (n / 10) ++ (digit (n % 10) ∷ [])
unfolding digits_by
by-more f n h = rw (le-ltb n 10 h)

-- any two bounds from n on give the same digits
enough : (f g n : ℕ) → n ≤ f → n ≤ g → digits_by f (ltb n 10) n ≡ digits_by g (ltb n 10) n
enough zero g n h k = by_one zero n (omega arith) ∙ sym (by_one g n (omega arith))
enough (suc f) zero n h k = by_one (suc f) n (omega arith) ∙ sym (by_one zero n (omega arith))
enough (suc f) (suc g) n h k =
    by-test (ltb n 10)
    (λ t. let s : n < 10 = ltb-true n 10 t in by_one (suc f) n s ∙ sym (by_one (suc g) n s))
    (λ t. let m : 10 ≤ n = ltb-false n 10 t in
    by-more f n m
    ∙ ap (λ (l : List ℕ). l ++ (digit (n % 10) ∷ [])) (enough f g (n / 10) (omega arith) (omega arith))
    ∙ sym (by-more g n m))

pub decimal-small : (n : ℕ) → n < 10 → decimal n ≡ digit n ∷ []
unfolding decimal
decimal-small n h = by_one n n h

pub decimal-more : (n : ℕ) → 10 ≤ n → decimal n ≡ decimal (n / 10) ++ (digit (n % 10) ∷ [])
unfolding decimal
decimal-more zero h = absurd (omega arith)
decimal-more (suc f) h =
    by-more f (suc f) h
    ∙ ap (λ (l : List ℕ). l ++ (digit (suc f % 10) ∷ [])) (enough f (suc f / 10) (suc f / 10) (omega arith) (omega arith))

pub length-small : (n : ℕ) → n < 10 → length (decimal n) ≡ 1
length-small n h = ap length (decimal-small n h)

pub length_more : (n : ℕ) → 10 ≤ n → length (decimal n) ≡ length (decimal (n / 10)) + 1
length_more n h = ap length (decimal-more n h) ∙ length-append (decimal (n / 10)) (digit (n % 10) ∷ [])

-- a number below 10 ^ k, with k at least 1, has at most k digits
length-bound : (k n : ℕ) → n < 10 ^ suc k → length (decimal n) ≤ suc k
length-bound zero n h = omega (arith, length-small n h)
length-bound (suc k) n h =
    let q : n < 10 ^ suc k * 10 = subst (λ (m : ℕ). n < m) (pow-suc 10 (suc k)) h in
    by-test (ltb n 10)
    (λ t. omega (arith, length-small n (ltb-true n 10 t)))
    (λ f. omega (arith, length_more n (ltb-false n 10 f), length-bound k (n / 10) (omega arith)))

-- the digits of 64 bits
pub length-u64 : (n : ℕ) → n < 2 ^ 64 → length (decimal n) ≤ 20
length-u64 n h = length-bound 19 n (omega arith)

-- one digit fewer leaves room for a sign
pub amount-fits : (at room n : ℕ) → n < 10 ^ 19 → at + 19 ≤ room → at + length (decimal n) ≤ room
amount-fits at room n h m = omega (arith, length-bound 18 n h)

-- a word below its half stands for itself
pub signed-small : (w : ℕ) → w < 2 ^ 63 → signed (signed_of w) ≡ decimal w
unfolding signed
signed-small w h = rw (lt-ltb w (2 ^ 63) h) refl

-- any other for a number below zero, whose amount it lacks
pub signed_below : (w n : ℕ) → 2 ^ 63 ≤ w → n + w ≡ 2 ^ 64 → 0 < n → signed (signed_of w) ≡ 45 ∷ decimal n
unfolding signed
signed_below w n h e m =
    let amount : suc (2 ^ 64 - suc w) ≡ n = omega arith in
    rw (le-ltb w (2 ^ 63) h, amount) refl
