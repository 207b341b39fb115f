-- "55.65 the nearest double": no double is closer to 5565 / 100 than the one that `double 5565 100` names. It leans on nothing that `round` promises.
use mathlib.Core.Path.{◌≡◌, refl, sym, ap, ◌∙◌, subst}
use mathlib.Core.Logic.{◌⊎◌, inl, inr, ⊎_elim}
use Prim.Native.Nat.{ℕ, zero, suc, ◌+◌, ◌-◌, ◌*◌, ◌^◌, ◌%◌, ◌≤◌, ◌<◌}
use native.Mathlib.Nat.{mul_comm, mul_assoc, mul-sub, add-mul, mul-le-mul_right, mul-one, le_trans}
use native.Mathlib.Omega.{arith}
use mathlib.Core.Bool.{Bool, true, false, not, ◌&&◌}
use lib.IntN.{ℤ, pos, negsuc}
use lib.Dec.{T, leb, ltb, eqb, ltb→lt, nltb→le}
use lib.Pow.{pow-add, pow_mono}
use lib.Ieee.{Float, nan, inf, fin, binary64, up, down, round, of_bits, fits}
use lib.Ieee.Fits.{and_l, and_r}
use lib.Ieee.Scale.{finite}
use Rattle.slip.specs.Slip.{double}
use Rattle.slip.specs.Nearest.{gap, NoFarther}

-- a double has fewer than 2 ^ 53 as its digits
digits : (s : Bool) (n : ℕ) (e : ℤ) → T (fits binary64 (fin s n e)) → n < 2 ^ 53
unfolding fits
digits s zero e t = omega arith
digits s (suc m) e t =
    let a : Bool = eqb (suc m % 2) 1 in
    let b : Bool = ltb (suc m) (2 ^ 53) in
    let c : Bool = leb (down e) (2 ^ 1074) in
    let d : Bool = ltb (suc m * up e) (2 ^ 1024 * down e) in
    ltb→lt (suc m) (2 ^ 53) (and_r a b (and_l (a && b) c (and_l (a && b && c) d t)))

sub-mul : (a b w : ℕ) → (a - b) * w ≡ a * w - b * w
sub-mul a b w = mul_comm (a - b) w ∙ mul-sub w a b ∙ cc (mul_comm w a, mul_comm w b)

gap-mul : (a b w : ℕ) → gap a b * w ≡ gap (a * w) (b * w)
gap-mul a b w = add-mul (a - b) (b - a) w ∙ cc (sub-mul a b w, sub-mul b a w)

-- in units of 2 ^ -47
unit : (m : ℕ) → 20 ≤ gap (100 * m) (5565 * 2 ^ 47)
unit m = omega arith

-- n / 2 ^ j with j at most 47
coarse : (n j : ℕ) → j ≤ 47 → 20 * 2 ^ j ≤ gap (100 * n) (5565 * 2 ^ j) * 2 ^ 47
coarse n j h =
    let w = 2 ^ (47 - j) in
    let s : j + (47 - j) ≡ 47 = omega arith in
    let e : 2 ^ j * w ≡ 2 ^ 47 = sym (pow-add 2 j (47 - j)) ∙ ap (λ (k : ℕ). 2 ^ k) s in
    let g : gap (100 * n) (5565 * 2 ^ j) * 2 ^ 47 ≡ gap (100 * (n * w)) (5565 * 2 ^ 47) * 2 ^ j =
    ap (λ (k : ℕ). gap (100 * n) (5565 * 2 ^ j) * k) (sym e ∙ mul_comm (2 ^ j) w)
    ∙ sym (mul_assoc (gap (100 * n) (5565 * 2 ^ j)) w (2 ^ j))
    ∙ ap (λ (k : ℕ). k * 2 ^ j) (gap-mul (100 * n) (5565 * 2 ^ j) w)
    ∙ ap (λ (k : ℕ). gap k (5565 * 2 ^ j * w) * 2 ^ j) (mul_assoc 100 n w)
    ∙ ap (λ (k : ℕ). gap (100 * (n * w)) k * 2 ^ j) (mul_assoc 5565 (2 ^ j) w ∙ ap (λ (k : ℕ). 5565 * k) e) in
    subst (λ (k : ℕ). 20 * 2 ^ j ≤ k) (sym g) (mul-le-mul_right (2 ^ j) (unit (n * w)))

-- n / p with p above 2 ^ 47: a double so fine is below 32
fine : (n p : ℕ) → n < 2 ^ 53 → 2 ^ 48 ≤ p → 20 * p ≤ gap (100 * n) (5565 * p) * 2 ^ 47
fine n p h k = le_trans (here n p h k) (more (gap (100 * n) (5565 * p)))
  where
    here : (n p : ℕ) → n < 2 ^ 53 → 2 ^ 48 ≤ p → 20 * p ≤ gap (100 * n) (5565 * p)
    here n p h k = omega arith

    more : (x : ℕ) → x ≤ x * 2 ^ 47
    more x = omega arith

whole : (m : ℕ) → 20 * 1 ≤ gap (100 * m) (5565 * 1) * 2 ^ 47
whole m = le_trans (here m) (more (gap (100 * m) (5565 * 1)))
  where
    here : (m : ℕ) → 20 * 1 ≤ gap (100 * m) (5565 * 1)
    here m = omega arith

    more : (x : ℕ) → x ≤ x * 2 ^ 47
    more x = omega arith

below-zero : (a p : ℕ) → 20 * p ≤ (a + 5565 * p) * 2 ^ 47
below-zero a p = omega arith

split : (a b : ℕ) → (a < b) ⊎ (b ≤ a)
split a b = go (ltb a b) (ltb→lt a b) (nltb→le a b)
  where
    go : (t : Bool) → (T t → a < b) → (T (not t) → b ≤ a) → (a < b) ⊎ (b ≤ a)
    go true h k = inl (h tt)
    go false h k = inr (k tt)

-- 55.65's double, by its bits: the constant of the code
pub divisor-bits : double 5565 100 ≡ of_bits binary64 0x404b_d333_3333_3333
unfolding round of_bits
divisor-bits = refl

pub divisor-nearest : (y : Float) → T (fits binary64 y) → T (finite y) → NoFarther (double 5565 100) y
unfolding round
divisor-nearest nan f t = absurd t
divisor-nearest (inf s) f t = absurd t
divisor-nearest (fin true n e) f t = below-zero (100 * (n * up e)) (down e)
divisor-nearest (fin false n (pos k)) f t = whole (n * 2 ^ k)
divisor-nearest (fin false n (negsuc k)) f t =
    subst (λ (x : ℕ). 20 * 2 ^ suc k ≤ gap (100 * x) (5565 * 2 ^ suc k) * 2 ^ 47) (sym (mul-one n))
    (⊎_elim (λ h. coarse n (suc k) (omega arith)) (λ h. fine n (2 ^ suc k) (digits false n (negsuc k) f) (pow_mono {i = 48} {j = suc k} h))
    (split (suc k) 48))
