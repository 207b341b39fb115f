-- Two whole numbers that are doubles exactly: their quotient is rounded once, so it is the double nearest to their fraction.
use Prim.Native.Nat.{ℕ, zero, suc, ◌*◌, ◌^◌, ◌<◌, ◌≤◌}
use native.Mathlib.Nat.{mul_comm, mul_assoc, mul_left_comm, mul-one, mul-pos, pow-le-pow_right}
use native.Mathlib.Omega.{arith}
use mathlib.Core.Path.{◌≡◌, sym, ap, ◌∙◌}
use mathlib.Core.Bool.{true, false, true≢false}
use lib.IntN.{pos}
use lib.Dec.{T, le→leb, eqb-suc-zero}
use lib.Ieee.{Float, nan, inf, fin, binary64, up, down, round, div, of_int, in_float}
use lib.Ieee.Exact.{HasValue}
use lib.Ieee.Fits.{up_pos, down_pos}
use lib.Ieee.Back.{round_whole}
use lib.Ieee.Scale.{round_same}
use Rattle.typed_words.specs.Numbers.{double}

cross : (a b c d n p : ℕ) → a * 1 ≡ n * b → c * 1 ≡ p * d → a * d * p ≡ n * (c * b)
cross a b c d n p x y =
    let a-is : a ≡ n * b = sym (mul-one a) ∙ x in
    let c-is : c ≡ p * d = sym (mul-one c) ∙ y in
    rw (a-is, c-is) (simp (mul_assoc, mul_comm, mul_left_comm))

not-zero : (u p d : ℕ) → 0 < p * d → zero * u * 1 ≡ p * d → ⊥
not-zero u p d h e = omega arith

values : (n p : ℕ) → 0 < p → (x y : Float) → HasValue x false n 1 → HasValue y false p 1 → div binary64 x y ≡ double n p
unfolding div
values n p h nan y v w = absurd v
values n p h (inf s) y v w = absurd v
values n p h (fin s m e) nan v w = absurd w
values n p h (fin s m e) (inf t) v w = absurd w
values n p h (fin true m e) (fin t k d) v w = absurd (true≢false v.0)
values n p h (fin false m e) (fin true k d) v w = absurd (true≢false w.0)
values n p h (fin false m e) (fin false zero d) v w = absurd (not-zero (up d) p (down d) (mul-pos h (down_pos d)) w.1)
values n p h (fin false m e) (fin false (suc k) d) v w =
    rw (eqb-suc-zero k)
    (round_same binary64 false (m * up e * down d) (suc k * up d * down e) n p
    (mul-pos (mul-pos (omega arith) (up_pos d)) (down_pos e)) h
    (cross (m * up e) (down e) (suc k * up d) (down d) n p v.1 w.1))

pub exact : (n : ℕ) → n ≤ 2 ^ 53 → T (in_float binary64 (pos n))
unfolding in_float
exact n h = le→leb n (2 ^ 53) h

-- the powers of ten that are asked
module _ {k p : ℕ} (h : k ≤ 15) (e : p ≡ 10 ^ k) where
  pub power_small : p ≤ 2 ^ 53
  power_small = let t : 10 ^ k ≤ 10 ^ 15 = pow-le-pow_right {n = 10} (omega arith) {i = k} {j = 15} h in omega arith

  power_pos : 0 < p
  power_pos = let t : 10 ^ 0 ≤ 10 ^ k = pow-le-pow_right {n = 10} (omega arith) {i = 0} {j = k} (omega arith) in omega arith

  pub quotient-nearest : (n : ℕ) → n ≤ 2 ^ 53 → div binary64 (of_int binary64 (pos n)) (of_int binary64 (pos p)) ≡ double n (10 ^ k)
  unfolding of_int
  quotient-nearest n a =
      values n p power_pos (round binary64 false n 1) (round binary64 false p 1) (round_whole binary64 false n a)
      (round_whole binary64 false p power_small)
      ∙ ap (double n) e
