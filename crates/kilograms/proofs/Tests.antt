-- Laws of a word's sign.
-- Assumes nothing.
use Prim.Native.Nat.{ℕ, ◌≤◌}
use native.Mathlib.Omega.{arith}
use mathlib.Core.Path.{◌≡◌, refl, sym}
use mathlib.Core.Bool.{true, false, true≢false}
use mathlib.Core.List.{List, [], ◌∷◌}
use lib.ListN.{length}
use Rattle.kilograms.specs.Kilograms.{is_below}

pub none_below : (w : List ℕ) → length w ≡ 0 → false ≡ is_below w
none_below [] e = refl
none_below (b ∷ w) e = absurd (omega (arith, e))

pub below-some : (w : List ℕ) → is_below w ≡ true → 1 ≤ length w
below-some [] e = absurd (true≢false (sym e))
below-some (b ∷ w) e = omega arith
