-- Bounds on sums and products of bounded numbers, put together as the expression is: `p ⊗ q ⊕ num 27000 ⊗ r` bounds `a * b + 27000 * c`.
-- The bound is a numeral, which antt computes. Assumes nothing.
use Rattle.std.proofs.Common.{◌≡◌, ℕ, ◌+◌, ◌-◌, ◌*◌, ◌^◌, ◌<◌, ◌≤◌, T, ltb, leb, le_trans, le_refl, lt_of_le_of_lt, add-le-add, mul-le-mul, sub-le, lit<, lit≤, w64, Fits}
use Rattle.grams.specs.Round.{round_div}
use Rattle.grams.proofs.Round.{round-le}
use Rattle.grams.specs.Figure.{Figure, Gas, Carbon, Pasture}
use Rattle.grams.specs.Units.{Co2Within}
use Rattle.grams.specs.declared.units.Co2.{Co2}
use Rattle.grams.specs.declared.units.Grazed.{Grazed}
use Rattle.grams.specs.declared.units.N2o.{N2o}

infixl 70 ◌⊗◌
infixl 65 ◌⊕◌
pub ◌⊗◌ : {a b A B : ℕ} → a ≤ A → b ≤ B → a * b ≤ A * B
p ⊗ q = mul-le-mul p q

pub ◌⊕◌ : {a b A B : ℕ} → a ≤ A → b ≤ B → a + b ≤ A + B
p ⊕ q = add-le-add p q

pub num : (k : ℕ) → k ≤ k
num k = le_refl k

-- a difference is at most what it is taken from
pub less : {a A : ℕ} (b : ℕ) → a ≤ A → a - b ≤ A
less b p = le_trans (sub-le _ b) p

-- a number within N is below 2 ^ 64, N being a numeral that is
pub below : {n N : ℕ} → n ≤ N → T (ltb N (2 ^ 64)) → n < 2 ^ 64
below p t = lt_of_le_of_lt p (lit< t)

-- a number within N fits 64 bits, N being a numeral below 2 ^ 64
pub fits : {n N : ℕ} → n ≤ N → T (ltb N (2 ^ 64)) → Fits w64 n
fits p t = record { fits = below p t }

-- n within N rounds to at most b where N is within b * d, all three numerals
pub rounds : {n N : ℕ} (d b : ℕ) → n ≤ N → T (ltb 0 d) → T (leb N (b * d)) → round_div n d ≤ b
rounds d b p t u = round-le _ d b (lit< t) (le_trans p (lit≤ u))

-- a number known to be the rule's value answers a contract by the value's bound
pub figure : {value most r : ℕ} → value ≤ most → r ≡ value → Figure value most r
figure p e = record { exact = e; small = rw e p }

-- the same of N2O
pub gas : {value r : N2o} {most : ℕ} → value.0 ≤ most → r ≡ value → Gas value most r
gas p e = record { exact = e; small = rw e p }

-- the same of CO2
pub carbon : {value r : Co2} → Co2Within 1 value → r ≡ value → Carbon value r
carbon p e = record { exact = e; small = rw e p }

-- the same of CO2e of grazing
pub pasture : {value r : Grazed} {most : ℕ} → value.0 ≤ most → r ≡ value → Pasture value most r
pasture p e = record { exact = e; small = rw e p }
