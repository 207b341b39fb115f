-- An enteric record: values in the ranges of its fields are in those that the arithmetic asks for, and its figures are small.
-- Assumes nothing.
use Prim.Native.Nat.{ℕ, ◌≤◌}
use mathlib.Core.Path.{◌≡◌}
use mathlib.Core.List.{List}
use native.Mathlib.Omega.{arith}
use lib.ListN.{get_or}
use Rattle.codec.specs.Table.{table, fields}
use Rattle.codec.specs.Codec.{first_bad}
use Rattle.grams.specs.Cattle.{EntericIn}
use Rattle.grams.proofs.cattle.Small.{enteric-small}
use Rattle.account.specs.declared.Heading.{Heading}
use Rattle.account.specs.Figures.{figures_of}
use Rattle.account.specs.Told.{Small}
use Rattle.account.proofs.Sums.{ch4-small}
use Rattle.account.proofs.Ranges.{good}

pub enteric-in : (v : List ℕ) (head : ℕ) → head ≤ 20000 → first_bad (fields 3) v 0 ≡ 0 → EntericIn (get_or v 1 0) (get_or v 2 0) head (get_or v 0 0)
unfolding table
enteric-in v head h e = let g = good 3 v e in record { ge-in = omega arith; ym-in = omega arith; head_in = h; days-in = omega arith }

pub enteric-figures : (h : Heading) (v : List ℕ) → h.head ≤ 20000 → first_bad (fields 3) v 0 ≡ 0 → Small (figures_of h 3 v)
unfolding figures_of
enteric-figures h v m e = ch4-small _ (enteric-small (enteric-in v h.head m e))
