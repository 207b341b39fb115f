-- Laws of signed numbers and their words: each from the other, sums, and how far from zero a number is. Assumes nothing.
use mathlib.Core.Path.{◌≡◌, refl, ap, sym, ◌∙◌}
use mathlib.Core.Bool.{Bool, true, false, cond}
use mathlib.Core.Logic.{⊎_elim}
use Prim.Native.Nat.{ℕ, zero, suc, ◌+◌, ◌-◌, ◌*◌, ◌%◌, ◌^◌, ◌<◌, ◌≤◌}
use native.Mathlib.Omega.{arith}
use native.Mathlib.Nat.{not-le_of_lt, lt_of_not-le}
use lib.Dec.{leb, ltb}
use lib.IntN.{ℤ, pos, negsuc, neg_ℤ, nat_abs, sub_ℕ, ◌+ℤ◌}
use lib.Signed.{mag}
use borrow.Author.Tests.{leb-true, leb-false, ltb-true, ltb-false, lt-ltb, le-ltb, le-leb, lt-leb}
use Rattle.base.proofs.Tests.{true-or-false}
use Rattle.base.specs.Signed.{word_of, signed_of}

-- a number's word stands for it
pub signed_word : (z : ℤ) → nat_abs z < 2 ^ 63 → signed_of (word_of z) ≡ z
signed_word (pos n) h = rw (lt-ltb n (2 ^ 63) h) refl
signed_word (negsuc n) h =
    let far : 2 ^ 63 ≤ 2 ^ 64 - suc n = omega arith in
    let back : 2 ^ 64 - suc (2 ^ 64 - suc n) ≡ n = omega arith in
    rw (le-ltb (2 ^ 64 - suc n) (2 ^ 63) far, back) refl

-- a word is that of the number it stands for
pub word-signed : (w : ℕ) → w < 2 ^ 64 → word_of (signed_of w) ≡ w
word-signed w h =
    ⊎_elim (λ (e : ltb w (2 ^ 63) ≡ true). rw e refl) (λ (e : ltb w (2 ^ 63) ≡ false). rw e (omega arith)) (true-or-false (ltb w (2 ^ 63)))

abs-sub : (a b : ℕ) → nat_abs (sub_ℕ a b) ≤ a + b
abs-sub a b = by-test (ltb a b) refl
  where
    by-test : (t : Bool) → ltb a b ≡ t → nat_abs (cond t (negsuc (b - suc a)) (pos (a - b))) ≤ a + b
    by-test true e = omega (arith, ltb-true a b e)
    by-test false e = omega arith

-- a sum keeps within the two bounds together
pub abs-plus : (a b : ℤ) → nat_abs (a +ℤ b) ≤ nat_abs a + nat_abs b
abs-plus (pos a) (pos b) = omega arith
abs-plus (pos a) (negsuc b) = abs-sub a (suc b)
abs-plus (negsuc a) (pos b) = omega (arith, abs-sub b (suc a))
abs-plus (negsuc a) (negsuc b) = omega arith

-- as far from zero on its other side
pub abs-negated : (n : ℕ) → nat_abs (neg_ℤ (pos n)) ≡ n
abs-negated zero = refl
abs-negated (suc n) = refl

-- ---- every word: `mag` of n and of −(n + 1) is n, so that below 2^63 it is the range of a word

-- what a word stands for is in the range
pub signed-mag : (w : ℕ) → mag (signed_of w) < 2 ^ 63
signed-mag w =
    ⊎_elim
    (λ (e : ltb w (2 ^ 63) ≡ true). rw e (ltb-true _ _ e))
    (λ (e : ltb w (2 ^ 63) ≡ false). rw e (omega (arith, ltb-false w (2 ^ 63) e)))
    (true-or-false (ltb w (2 ^ 63)))

-- a word that is cut off stands for no more than the number
pub signed-less : (z : ℤ) → nat_abs (signed_of (word_of z)) ≤ nat_abs z
signed-less (pos n) =
    ⊎_elim
    (λ (e : ltb n (2 ^ 63) ≡ true). rw e (omega arith))
    (λ (e : ltb n (2 ^ 63) ≡ false). rw e (omega (arith, ltb-false n (2 ^ 63) e)))
    (true-or-false (ltb n (2 ^ 63)))
signed-less (negsuc n) =
    ⊎_elim
    (λ (e : ltb (2 ^ 64 - suc n) (2 ^ 63) ≡ true). rw e (omega (arith, ltb-true (2 ^ 64 - suc n) (2 ^ 63) e)))
    (λ (e : ltb (2 ^ 64 - suc n) (2 ^ 63) ≡ false). rw e (omega (arith, ltb-false (2 ^ 64 - suc n) (2 ^ 63) e)))
    (true-or-false (ltb (2 ^ 64 - suc n) (2 ^ 63)))

word-sub : (a b : ℕ) → a < 2 ^ 63 → b < 2 ^ 63 → word_of (sub_ℕ a (suc b)) ≡ (a + (2 ^ 64 - suc b)) % 2 ^ 64
word-sub a b p q = by-test (ltb a (suc b)) refl
  where
    by-test : (t : Bool) → ltb a (suc b) ≡ t → word_of (cond t (negsuc (suc b - suc a)) (pos (a - suc b))) ≡ (a + (2 ^ 64 - suc b)) % 2 ^ 64
    by-test true e = omega (arith, ltb-true a (suc b) e)
    by-test false e = omega (arith, ltb-false a (suc b) e)

-- the word of a sum is that of the words, cut off to 64 bits
pub word-plus : (a b : ℤ) → mag a < 2 ^ 63 → mag b < 2 ^ 63 → word_of (a +ℤ b) ≡ (word_of a + word_of b) % 2 ^ 64
word-plus (pos a) (pos b) p q = omega arith
word-plus (pos a) (negsuc b) p q = word-sub a b p q
word-plus (negsuc a) (pos b) p q = let e : (b + (2 ^ 64 - suc a)) % 2 ^ 64 ≡ (2 ^ 64 - suc a + b) % 2 ^ 64 = omega arith in word-sub b a q p ∙ e
word-plus (negsuc a) (negsuc b) p q = omega arith

-- the same from the words
pub words-plus : (v w : ℕ) → v < 2 ^ 64 → w < 2 ^ 64 → word_of (signed_of v +ℤ signed_of w) ≡ (v + w) % 2 ^ 64
words-plus v w p q = rw (word-signed v p, word-signed w q) at (word-plus (signed_of v) (signed_of w) (signed-mag v) (signed-mag w))

-- the words of a sum of three do not depend on which two are added first, though a sum of two may be cut off
pub word-assoc : (a b c : ℤ) → mag a < 2 ^ 63 → mag b < 2 ^ 63 → mag c < 2 ^ 63
    → word_of (signed_of (word_of (a +ℤ b)) +ℤ c) ≡ word_of (a +ℤ signed_of (word_of (b +ℤ c)))
word-assoc a b c p q r = left ∙ middle (word_of a) (word_of b) (word_of c) ∙ sym right
  where
    cut : (x y : ℤ) → mag x < 2 ^ 63 → mag y < 2 ^ 63 → word_of (signed_of (word_of (x +ℤ y))) ≡ (word_of x + word_of y) % 2 ^ 64
    cut x y f g =
        let e : word_of (x +ℤ y) ≡ (word_of x + word_of y) % 2 ^ 64 = word-plus x y f g in
        rw e (word-signed ((word_of x + word_of y) % 2 ^ 64) (omega arith))

    left : word_of (signed_of (word_of (a +ℤ b)) +ℤ c) ≡ ((word_of a + word_of b) % 2 ^ 64 + word_of c) % 2 ^ 64
    left = word-plus (signed_of (word_of (a +ℤ b))) c (signed-mag (word_of (a +ℤ b))) r ∙ ap (λ (w : ℕ). (w + word_of c) % 2 ^ 64) (cut a b p q)

    right : word_of (a +ℤ signed_of (word_of (b +ℤ c))) ≡ (word_of a + (word_of b + word_of c) % 2 ^ 64) % 2 ^ 64
    right = word-plus a (signed_of (word_of (b +ℤ c))) p (signed-mag (word_of (b +ℤ c))) ∙ ap (λ (w : ℕ). (word_of a + w) % 2 ^ 64) (cut b c q r)

    middle : (x y z : ℕ) → ((x + y) % 2 ^ 64 + z) % 2 ^ 64 ≡ (x + (y + z) % 2 ^ 64) % 2 ^ 64
    middle x y z = omega arith

-- the word that adds up with n to none is that of −n
pub word-negated : (n w : ℕ) → n < 2 ^ 64 → w < 2 ^ 64 → (w + n) % 2 ^ 64 ≡ 0 → w ≡ word_of (neg_ℤ (pos n))
word-negated zero w p q e = omega arith
word-negated (suc n) w p q e = omega arith

leb-same : (a b c d : ℕ) → (a ≤ b → c ≤ d) → (c ≤ d → a ≤ b) → leb a b ≡ leb c d
leb-same a b c d f g =
    ⊎_elim
    (λ (e : leb a b ≡ true). e ∙ sym (le-leb c d (f (leb-true a b e))))
    (λ (e : leb a b ≡ false). e ∙ sym (lt-leb c d (not-le (leb-false a b e))))
    (true-or-false (leb a b))
  where
    not-le : b < a → d < c
    not-le h = lt_of_not-le (λ l. not-le_of_lt h (g l))

-- a number is within a bound on both sides of zero where its word, moved up by the bound, is within twice the bound
pub abs-within : (w b : ℕ) → w < 2 ^ 64 → b < 2 ^ 63 → leb ((w + b) % 2 ^ 64) (2 * b) ≡ leb (nat_abs (signed_of w)) b
abs-within w b p q =
    ⊎_elim
    (λ (e : ltb w (2 ^ 63) ≡ true). rw e (above (ltb-true w (2 ^ 63) e)))
    (λ (e : ltb w (2 ^ 63) ≡ false). rw e (under (ltb-false w (2 ^ 63) e)))
    (true-or-false (ltb w (2 ^ 63)))
  where
    above : w < 2 ^ 63 → leb ((w + b) % 2 ^ 64) (2 * b) ≡ leb w b
    above l = leb-same ((w + b) % 2 ^ 64) (2 * b) w b (λ h. omega arith) (λ h. omega arith)

    under : 2 ^ 63 ≤ w → leb ((w + b) % 2 ^ 64) (2 * b) ≡ leb (suc (2 ^ 64 - suc w)) b
    under l = leb-same ((w + b) % 2 ^ 64) (2 * b) (suc (2 ^ 64 - suc w)) b (λ h. omega arith) (λ h. omega arith)
