-- Laws of the steps of the carbon rate's rule.
-- Assumes nothing.
use Rattle.std.proofs.Common.{◌≡◌, ℕ, zero, suc, ◌-◌, ◌*◌, ◌/◌, ◌<◌, ◌≤◌, refl, le_trans, not-suc-le-zero, mul-le-mul, arith}
use native.Mathlib.Nat.{div-le_of_le-mul}
use Rattle.grams.specs.CarbonRate.{scale, steps}

-- a turn of the loop is a step of the rule
pub turn : (x i e : ℕ) → 0 < i → steps x i e ≡ steps x (i - 1) (scale - e * x / (10000 * i))
unfolding steps
turn x zero e h = absurd (not-suc-le-zero h)
turn x (suc i) e h = let p : suc i - 1 ≡ i = omega arith in rw p

-- no step is left
pub ended : (x e : ℕ) → steps x 0 e ≡ e
unfolding steps
ended x e = refl

-- what a step from 5 on takes off is not more than there is
pub less-than-all : (x i e : ℕ) → x ≤ 40300 → e ≤ scale → 5 ≤ i → e * x / (10000 * i) ≤ scale
less-than-all x i e p q h = div-le_of_le-mul (10000 * i) (le_trans (mul-le-mul q p) (omega arith))
