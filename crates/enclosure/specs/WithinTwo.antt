-- Change request W7: "within 2 mg of the exact value, which means within 2 mg of both ends of an enclosure of it". The ends, and every later sum that
-- they enclose. Assumes nothing.
use Rattle.std.specs.Prelude.{◌≡◌, ℕ, ◌+◌, ◌-◌, ◌*◌, ◌≤◌, ℤ, nat_abs}
use Rattle.grams.specs.CarbonRate.{with_sign, mg_of}
use Rattle.enclosure.specs.PartialSums.{over, added, taken, Enclosed}

-- a fraction (plus − minus) / d
pub record Sum : Type 0 where
  pub plus : ℕ
  pub minus : ℕ

-- the ends of the enclosure of e^(−x): the sums up to x^20 and up to x^21, over 21
abbrev pub upper : ℕ → Sum
upper x = record { plus = added x 20 * 210000; minus = taken x 20 * 210000 }

abbrev pub lower : ℕ → Sum
lower x = record { plus = added x 21; minus = taken x 21 }

-- the sum up to x^m, over m
abbrev pub sum_to : ℕ → ℕ → Sum
sum_to x m = record { plus = added x m; minus = taken x m }

-- r is within 2 of c × (s − t), both over d: |r × d − c × (s − t)| ≤ 2 × d
unfoldable pub Near : ℕ → ℕ → ℕ → Sum → Sum → Type 0
Near d r c s t =
    let p = c * (s.plus + t.minus) in
    let q = c * (s.minus + t.plus) in
    (r * d + q ≤ p + 2 * d) × (p ≤ r * d + q + 2 * d)

-- the mg are within 2 of |lumCmax| × 1000 × (e^(−k(y−1)) − e^(−ky)), on lumCmax's side of zero
pub record WithinTwo (lum : ℤ) (k y : ℕ) : Type 0 where
  -- at both ends of its enclosure
  pub low : Near (over 21) (nat_abs (mg_of lum k y)) (nat_abs lum * 1000) (lower (k * (y - 1))) (upper (k * y))
  pub high : Near (over 21) (nat_abs (mg_of lum k y)) (nat_abs lum * 1000) (upper (k * (y - 1))) (lower (k * y))
  -- between these lies every later sum, at either exponent
  pub before : (j : ℕ) → Enclosed (k * (y - 1)) j
  pub after : (j : ℕ) → Enclosed (k * y) j
  -- and so by the sums up to x^(21 + j)
  pub sums : (j : ℕ)
      → Near (over (21 + j)) (nat_abs (mg_of lum k y)) (nat_abs lum * 1000) (sum_to (k * (y - 1)) (21 + j)) (sum_to (k * y) (21 + j))
  pub side : mg_of lum k y ≡ with_sign lum (nat_abs (mg_of lum k y))
