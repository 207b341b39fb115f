-- Change request W7: the carbon rate of a change of tillage, lumCmax × (e^(−k(y−1)) − e^(−ky)), in whole mg per square metre.
-- The rule, with S = 10^12 and x in ten-thousandths: E(x) is had from S by twenty steps,
--     for i = 20, 19, .. 1:   E := S − ⌊E × x / (10000 × i)⌋       each division rounded down, a difference below zero being 0
-- which is S × (1 − x/1 × (1 − x/2 × (1 − .. (1 − x/20)))), the series of e^(−x) up to x^20/20!. Assumes nothing.
use Rattle.std.specs.Prelude.{ℕ, zero, suc, ◌-◌, ◌*◌, ◌/◌, ◌^◌, ◌≤◌, ℤ, pos, negsuc, neg_ℤ, unsigned_abs}
use Rattle.grams.specs.Round.{round_div}

-- S
abbrev pub scale : ℕ
scale = 10 ^ 12

-- the steps i, i − 1, .. 1 from e
unfoldable pub steps : ℕ → ℕ → ℕ → ℕ
steps x zero e = e
steps x (suc i) e = steps x i (scale - e * x / (10000 * suc i))

-- E(x)
unfoldable pub exp_of : ℕ → ℕ
exp_of x = steps x 20 scale

-- |mg| = round(|lumCmax| × (E(k × (y − 1)) − E(k × y)) / 10^9), y years after the change
unfoldable pub rate_of : ℕ → ℕ → ℕ → ℕ
rate_of lum k y = round_div (lum * (exp_of (k * (y - 1)) - exp_of (k * y))) (10 ^ 9)

-- n with the sign of z
abbrev pub with_sign : ℤ → ℕ → ℤ
with_sign (pos z) n = pos n
with_sign (negsuc z) n = neg_ℤ (pos n)

-- mg, with the sign of lumCmax: above zero where the soil gains carbon
unfoldable pub mg_of : ℤ → ℕ → ℕ → ℤ
mg_of lum k y = with_sign lum (rate_of (unsigned_abs lum) k y)

-- what table A4-4 and a record's ranges allow
pub record RateIn (lum k y : ℕ) : Type 0 where
  pub lum-in : lum ≤ 1570
  pub k-in : k ≤ 403
  pub y-in : (1 ≤ y) × (y ≤ 100)
