-- Change request W7, "an enclosure of it by stated partial sums of the series, as fractions of whole numbers".
-- The series of e^(−x), x in ten-thousandths, up to its term x^m/m!, is the fraction
--     (added x m − taken x m) / over m        over m = 10000^m × m!
-- `added` has the terms of even degree and `taken` those of odd degree, so that no number is below zero. Assumes nothing.
use Rattle.std.specs.Prelude.{ℕ, zero, suc, ◌+◌, ◌*◌, ◌%◌, ◌^◌, ◌≤◌}

unfoldable pub over : ℕ → ℕ
over zero = 1
over (suc m) = over m * (10000 * suc m)

-- a where the remainder is 0
abbrev pub unless : ℕ → ℕ → ℕ
unless zero a = a
unless (suc r) a = 0

unfoldable pub added : ℕ → ℕ → ℕ
added x zero = 1
added x (suc m) = added x m * (10000 * suc m) + unless (suc m % 2) (x ^ suc m)

unfoldable pub taken : ℕ → ℕ → ℕ
taken x zero = 0
taken x (suc m) = taken x m * (10000 * suc m) + unless (m % 2) (x ^ suc m)

-- over (m + j) = over m × rise m j
unfoldable pub rise : ℕ → ℕ → ℕ
rise m zero = 1
rise m (suc j) = 10000 * suc m * rise (suc m) j

-- the sum up to x^20 is not below the sum j terms later, and the sum up to x^21 not above it, each two brought to one denominator
pub record Enclosed (x j : ℕ) : Type 0 where
  pub above : added x (20 + j) + taken x 20 * rise 20 j ≤ taken x (20 + j) + added x 20 * rise 20 j
  pub below : taken x (21 + j) + added x 21 * rise 21 j ≤ added x (21 + j) + taken x 21 * rise 21 j
