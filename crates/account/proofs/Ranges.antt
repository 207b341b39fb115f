-- Values in the ranges of their kind's fields, one by one; what a farm record of version 2 and a heading store. Those of a detail: EachFigure.
-- Assumes nothing.
use Prim.Native.Nat.{ℕ, suc, ◌≤◌}
use mathlib.Core.Path.{◌≡◌}
use mathlib.Core.List.{List, [], ◌∷◌}
use native.Mathlib.Omega.{arith}
use lib.ListN.{length, get_or}
use Rattle.codec.specs.declared.Field.{Field}
use Rattle.codec.specs.Table.{table, fields}
use Rattle.codec.specs.Codec.{first_bad}
use Rattle.codec.proofs.Within.{Good, first-within}

each-good : (fs : List Field) (vs : List ℕ) (i : ℕ) → first_bad fs vs i ≡ 0 → Good (length fs) fs vs i
each-good [] vs i e = tt
each-good (f ∷ fs) vs i e = let w = first-within f fs vs i e in (w.0.above, w.0.below, each-good fs vs (suc i) w.1)

-- every value of a kind is in its range, one after the other
pub good : (k : ℕ) (v : List ℕ) → first_bad (fields k) v 0 ≡ 0 → Good (length (fields k)) (fields k) v 0
good k v e = each-good (fields k) v 0 e

-- what a heading stores
pub record HeadingIn (v : List ℕ) : Type 0 where
  pub group-least : 1 ≤ get_or v 0 0
  pub group-most : get_or v 0 0 ≤ 65535
  pub class-least : 1 ≤ get_or v 1 0
  pub class-most : get_or v 1 0 ≤ 4
  pub head-most : get_or v 2 0 ≤ 20000

pub heading-in : (v : List ℕ) → first_bad (fields 2) v 0 ≡ 0 → HeadingIn v
unfolding table
heading-in v e =
    let g = good 2 v e in
    record { group-least = omega arith; group-most = omega arith; class-least = omega arith; class-most = omega arith; head-most = omega arith }
