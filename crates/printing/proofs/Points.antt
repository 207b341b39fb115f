-- Laws of a number with decimals: its last digits one by one, and how long it is.
-- Assumes nothing.
use Prim.Native.Nat.{ℕ, zero, suc, ◌/◌, ◌%◌}
use native.Mathlib.Omega.{arith}
use mathlib.Core.Path.{◌≡◌, refl}
use mathlib.Core.List.{[], ◌∷◌, ◌++◌}
use lib.ListN.{length, length-append}
use Rattle.printing.specs.Decimal.{digit, decimal, last_digits, without_last, pointed}

module _ (n : ℕ) where
  pub no-digits : (d : ℕ) → d ≡ 0 → last_digits d n ≡ []
  unfolding last_digits
  no-digits zero e = refl
  no-digits (suc d) e = absurd (omega arith)

  pub one-digit : (d e : ℕ) → d ≡ suc e → last_digits d n ≡ last_digits e (n / 10) ++ (digit (n % 10) ∷ [])
  unfolding last_digits
  one-digit d e h = rw h

  pub none-cut : (d : ℕ) → d ≡ 0 → without_last d n ≡ n
  unfolding without_last
  none-cut d e = rw e

  pub one-cut : (d e : ℕ) → d ≡ suc e → without_last d n ≡ without_last e (n / 10)
  unfolding without_last
  one-cut d e h = rw h

  pub whole-number : (d : ℕ) → d ≡ 0 → pointed d n ≡ decimal (without_last d n)
  unfolding pointed without_last
  whole-number d e = rw e

  pub with-point : (d : ℕ) → (d ≡ 0 → ⊥) → pointed d n ≡ decimal (without_last d n) ++ (46 ∷ last_digits d n)
  unfolding pointed
  with-point zero h = absurd (h refl)
  with-point (suc d) h = refl

pub last-length : (n d : ℕ) → length (last_digits d n) ≡ d
unfolding last_digits
last-length n zero = refl
last-length n (suc d) = omega (arith, length-append (last_digits d (n / 10)) (digit (n % 10) ∷ []), last-length (n / 10) d)
