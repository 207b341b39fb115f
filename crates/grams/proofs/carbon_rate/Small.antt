-- The bound of the carbon rate. Assumes nothing.
use Rattle.std.proofs.Common.{ℕ, zero, suc, ◌-◌, ◌*◌, ◌/◌, ◌≤◌, sub-le}
use Rattle.grams.specs.CarbonRate.{scale, steps, exp_of, rate_of}
use Rattle.grams.proofs.Bounds.{◌⊗◌, num, less, rounds}

step-most : (x i e : ℕ) → e ≤ scale → steps x i e ≤ scale
unfolding steps
step-most x zero e h = h
step-most x (suc i) e h = step-most x i (scale - e * x / (10000 * suc i)) (sub-le scale (e * x / (10000 * suc i)))

exp-most : (x : ℕ) → exp_of x ≤ scale
unfolding exp_of
exp-most x = step-most x _ scale (num _)

pub rate-most : {lum : ℕ} → lum ≤ 1570 → (k y : ℕ) → rate_of lum k y ≤ 1570000
unfolding rate_of
rate-most p k y = rounds _ _ (p ⊗ less (exp_of (k * y)) (exp-most (k * (y - 1)))) tt tt
