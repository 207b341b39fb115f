-- Document 02, W9: "Prove also of a pig record that volatilised, leached and land nitrogen, each rounded for itself from the excreted grams, add up
-- to within 1 g of them." By the two laws that every rounding to the nearest has, whatever it does with a half. Assumes nothing.
use Rattle.std.proofs.Common.{◌≡◌, ℕ, ◌+◌, ◌-◌, ◌*◌, ◌<◌, ◌≤◌, arith}
use Rattle.grams.specs.Round.{round_div}
use Rattle.grams.proofs.Round.{half-low, half_high}
use Rattle.grams.specs.Pig.{PigIn, AddUp, manure_of}
use Rattle.grams.specs.declared.pig.PigRation.{PigRation}

-- Of any rounding that is at most half off, on either side: three parts of a thousand, each rounded for itself, are together at most three halves of
-- a gram off, and so at most one gram.
module _ (round : ℕ → ℕ → ℕ) (low : (n d : ℕ) → 0 < d → 2 * (d * round n d) ≤ 2 * n + d) (high : (n d : ℕ) → 0 < d → 2 * n ≤ 2 * (d * round n d) + d)
    (n v l w : ℕ) (whole : v + l + w ≡ 1000) where
  shared : n * v + n * l + n * w ≡ n * 1000
  shared = rw (← whole) (omega arith)

  not-below : n ≤ round (n * v) 1000 + round (n * l) 1000 + round (n * w) 1000 + 1
  not-below = omega (arith, shared, high (n * v) 1000 (omega arith), high (n * l) 1000 (omega arith), high (n * w) 1000 (omega arith))

  not-above : round (n * v) 1000 + round (n * l) 1000 + round (n * w) 1000 ≤ n + 1
  not-above = omega (arith, shared, low (n * v) 1000 (omega arith), low (n * l) 1000 (omega arith), low (n * w) 1000 (omega arith))

-- Volatilised, leached and land nitrogen of a pig record in range add up to within 1 g of its excreted nitrogen; excreted and land are those of its
-- line.
pub pig-nitrogen-adds-up : (p : PigRation) (head : ℕ) → PigIn p head → AddUp p (manure_of p head)
unfolding manure_of
pig-nitrogen-adds-up p head i =
    let rest : p.volatilised + p.leached + (1000 - p.volatilised - p.leached) ≡ 1000 = omega (arith, i.parts_in) in
    record {
      low = not-below round_div half-low half_high _ p.volatilised p.leached _ rest;
      high = not-above round_div half-low half_high _ p.volatilised p.leached _ rest;
    }
