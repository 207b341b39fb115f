-- Laws of rounding. What an exact half does is known to the first group of them alone; all else in the house goes by the laws. Assumes nothing.
use Rattle.std.proofs.Common.{◌≡◌, ℕ, ◌+◌, ◌*◌, ◌/◌, ◌%◌, ◌<◌, ◌≤◌, eqb, ltb, sym, ⊎_elim, le_refl, mod-lt, le_antisymm, eq-or-lt_of_le, mul-le-mul_left, mul-pos, arith, ltb-false, ltb-true, eqb-true}
use native.Mathlib.Nat.{div-add-mod, lt_of_mul-lt-mul_left}
use borrow.Author.Tests.{eqb-false}
use Rattle.base.proofs.Tests.{of-choice, lt-or-ge}
use Rattle.grams.specs.Round.{round_div, Rounded}

-- ---- laws that know what a half does

pub rounded : (n d : ℕ) → 0 < d → Rounded n d (round_div n d)
unfolding round_div
rounded n d h =
    let e : d * (n / d) + n % d ≡ n = div-add-mod n d in
    of-choice (Rounded n d) (ltb (2 * (n % d)) d)
    (λ b.
    let l : 2 * (n % d) < d = ltb-true _ _ b in
    record { low = omega arith; high = omega arith; half-above = λ q. omega arith; half-below = λ q. omega arith })
    (λ b. of-choice (Rounded n d) (ltb d (2 * (n % d)))
    (λ c.
    let l : d < 2 * (n % d) = ltb-true _ _ c in
    let m : n % d < d = mod-lt n h in
    record { low = omega arith; high = omega arith; half-above = λ q. omega arith; half-below = λ q. omega arith })
    (λ c.
    let l : d ≤ 2 * (n % d) = ltb-false _ _ b in
    let m : 2 * (n % d) ≤ d = ltb-false _ _ c in
    of-choice (Rounded n d) (eqb (n / d % 2) 0)
    (λ z.
    let even : n / d % 2 ≡ 0 = eqb-true _ _ z in
    record { low = omega arith; high = omega arith; half-above = λ q. even; half-below = λ q. even })
    (λ z.
    let odd : n / d % 2 ≡ 0 → ⊥ = eqb-false _ _ z in
    let even : (n / d + 1) % 2 ≡ 0 = omega arith in
    record { low = omega arith; high = omega arith; half-above = λ q. even; half-below = λ q. even })))

-- of two such numbers none is above the other: between them would be a half, and both would be even
not-above : (n d r s : ℕ) → 0 < d → Rounded n d r → Rounded n d s → r ≤ s
not-above n d r s h a b = ⊎_elim above (λ (l : r ≤ s). l) (lt-or-ge s r)
  where
    above : s < r → r ≤ s
    above l =
        let m : d * (s + 1) ≤ d * r = mul-le-mul_left d (omega arith) in
        let e : 2 * (d * r) ≡ 2 * n + d = omega (arith, a.low, b.high) in
        let f : 2 * n ≡ 2 * (d * s) + d = omega (arith, a.low, b.high) in
        let k : d * r < d * (s + 2) = omega arith in
        let j : r < s + 2 = lt_of_mul-lt-mul_left d k in
        omega (arith, a.half-above e, b.half-below f)

-- there is one such number only
pub rounded-unique : (n d r s : ℕ) → 0 < d → Rounded n d r → Rounded n d s → r ≡ s
rounded-unique n d r s h a b = le_antisymm (not-above n d r s h a b) (not-above n d s r h b a)

pub rounded-is : (n d r : ℕ) → 0 < d → Rounded n d r → r ≡ round_div n d
rounded-is n d r h a = rounded-unique n d r (round_div n d) h a (rounded n d h)

cancel-le : (k a b : ℕ) → 0 < k → k * a ≡ k * b → a ≤ b
cancel-le k a b g e =
    let l : k * a < k * (b + 1) = omega arith in
    let m : a < b + 1 = lt_of_mul-lt-mul_left k l in
    omega arith

cancel : (k a b : ℕ) → 0 < k → k * a ≡ k * b → a ≡ b
cancel k a b g e = le_antisymm (cancel-le k a b g e) (cancel-le k b a g (sym e))

-- a fraction's common factor does not matter
pub round-scale : (n d k : ℕ) → 0 < d → 0 < k → round_div (n * k) (d * k) ≡ round_div n d
round-scale n d k h g =
    let r = rounded n d h in
    let a : k * (2 * (d * round_div n d)) ≤ k * (2 * n + d) = mul-le-mul_left k r.low in
    let b : k * (2 * n) ≤ k * (2 * (d * round_div n d) + d) = mul-le-mul_left k r.high in
    sym
    (rounded-is (n * k) (d * k) (round_div n d) (mul-pos h g)
    (record {
      low = omega arith;
      high = omega arith;
      half-above = λ q. let e : k * (2 * (d * round_div n d)) ≡ k * (2 * n + d) = omega arith in r.half-above (cancel k _ _ g e);
      half-below = λ q. let e : k * (2 * n) ≡ k * (2 * (d * round_div n d) + d) = omega arith in r.half-below (cancel k _ _ g e);
    }))

-- ---- at most half off, on either side

pub half-low : (n d : ℕ) → 0 < d → 2 * (d * round_div n d) ≤ 2 * n + d
half-low n d h = (rounded n d h).low

pub half_high : (n d : ℕ) → 0 < d → 2 * n ≤ 2 * (d * round_div n d) + d
half_high n d h = (rounded n d h).high

-- ---- laws of every rounding to the nearest: they follow from the two above

pub round-le : (n d b : ℕ) → 0 < d → n ≤ b * d → round_div n d ≤ b
round-le n d b h p =
    let l : d * round_div n d < d * (b + 1) = omega (arith, half-low n d h) in
    let k : round_div n d < b + 1 = lt_of_mul-lt-mul_left d l in
    omega arith

pub le-round : (n d b : ℕ) → 0 < d → b * d ≤ n → b ≤ round_div n d
le-round n d b h p =
    let l : d * b < d * (round_div n d + 1) = omega (arith, half_high n d h) in
    let k : b < round_div n d + 1 = lt_of_mul-lt-mul_left d l in
    omega arith

pub round_exact : (q d : ℕ) → 0 < d → round_div (q * d) d ≡ q
round_exact q d h = le_antisymm (round-le (q * d) d q h (omega arith)) (le-round (q * d) d q h (omega arith))

pub round_mono : (n m d : ℕ) → 0 < d → n ≤ m → round_div n d ≤ round_div m d
round_mono n m d h p = ⊎_elim (λ e. rw e (le_refl _)) below (eq-or-lt_of_le p)
  where
    below : n < m → round_div n d ≤ round_div m d
    below l =
        let k : d * round_div n d < d * (round_div m d + 1) = omega (arith, half-low n d h, half_high m d h) in
        let j : round_div n d < round_div m d + 1 = lt_of_mul-lt-mul_left d k in
        omega arith
