-- How long a number is: it has a digit, and with d decimals at most one byte more than its digits are, or than d + 1.
-- Assumes nothing.
use Prim.Native.Nat.{ℕ, zero, suc, ◌+◌, ◌/◌, ◌<◌, ◌≤◌}
use native.Mathlib.Omega.{arith}
use mathlib.Core.List.{◌∷◌}
use lib.ListN.{length, length-append}
use lib.Dec.{ltb}
use borrow.Author.Tests.{ltb-true, ltb-false}
use Rattle.base.proofs.Tests.{by-test}
use Rattle.printing.specs.Decimal.{decimal, last_digits, without_last, pointed}
use Rattle.printing.proofs.Digits.{length-small, length_more}
use Rattle.printing.proofs.Points.{last-length}

pub decimal-some : (n : ℕ) → 0 < length (decimal n)
decimal-some n =
    by-test (ltb n 10)
    (λ t. omega (arith, length-small n (ltb-true n 10 t)))
    (λ f. omega (arith, length_more n (ltb-false n 10 f)))

-- one digit fewer, where there is more than one
fewer : (n m : ℕ) → length (decimal n) ≤ suc m → 1 ≤ m → length (decimal (n / 10)) ≤ m
fewer n m h l =
    by-test (ltb n 10)
    (λ t. let s : n < 10 = ltb-true n 10 t in let z : n / 10 < 10 = omega arith in omega (arith, length-small (n / 10) z))
    (λ f. omega (arith, length_more n (ltb-false n 10 f)))

cut-length : (d n m : ℕ) → length (decimal n) ≤ m → suc d ≤ m → length (decimal (without_last d n)) + d ≤ m
unfolding without_last
cut-length zero n m h l = omega arith
cut-length (suc d) n zero h l = absurd (omega arith)
cut-length (suc d) n (suc m) h l = omega (arith, cut-length d (n / 10) m (fewer n m h (omega arith)) (omega arith))

pub pointed-length : (d n m : ℕ) → length (decimal n) ≤ m → suc d ≤ m → length (pointed d n) ≤ suc m
unfolding pointed
pointed-length zero n m h l = omega arith
pointed-length (suc d) n m h l =
    let whole = decimal (without_last (suc d) n) in
    omega (arith, length-append whole (46 ∷ last_digits (suc d) n), last-length n (suc d), cut-length (suc d) n m h l)
