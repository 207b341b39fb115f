use Prim.Native.Nat.{ℕ}
use native.Mathlib.Omega.{arith}
use mathlib.Core.Path.{◌≡◌, refl}
use mathlib.Core.List.{List, [], ◌∷◌}
use lib.ListN.{length, drop}
use Rattle.names.proofs.without_first.Goals as goal

none : (xs : List ℕ) → length xs ≡ 0 → xs ≡ drop 1 xs
none [] e = refl
none (x ∷ xs) e = absurd (omega arith)

pub returns-then-text-eq0 : goal.returns-then-text-eq0
returns-then-text-eq0 c = none _ c.if-text-eq0.true

pub returns : goal.returns
returns c = c.rest_of.ensures
