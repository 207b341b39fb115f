-- Laws of `joined`: no number, and a first with the rest.
use Prim.Native.Nat.{ℕ, ◌<◌}
use native.Mathlib.Omega.{arith}
use mathlib.Core.Path.{◌≡◌, refl}
use mathlib.Core.List.{List, [], ◌∷◌, ◌++◌}
use lib.ListN.{length, get_or, drop}
use Rattle.printing.specs.Decimal.{decimal, spaced, joined}

pub joined-none : (ns : List ℕ) → length ns ≡ 0 → joined ns ≡ []
unfolding joined
joined-none [] e = refl
joined-none (n ∷ ns) e = absurd (omega arith)

pub joined-some : (ns : List ℕ) → 0 < length ns → joined ns ≡ decimal (get_or ns 0 0) ++ spaced (drop 1 ns)
unfolding joined
joined-some [] h = absurd (omega arith)
joined-some (n ∷ ns) h = refl
