-- A grazing record: values in the ranges of its fields are in those that the arithmetic asks for, and its figures are small.
-- Assumes nothing.
use Prim.Native.Nat.{ℕ, ◌≤◌}
use mathlib.Core.Path.{◌≡◌}
use mathlib.Core.List.{List}
use native.Mathlib.Omega.{arith}
use lib.ListN.{get_or}
use Rattle.codec.specs.Table.{table, fields}
use Rattle.codec.specs.Codec.{first_bad}
use Rattle.grams.specs.Grazing.{GrazingIn}
use Rattle.grams.proofs.grazing.Small.{grazing-small}
use Rattle.account.specs.declared.Heading.{Heading}
use Rattle.account.specs.Figures.{figures_of}
use Rattle.account.specs.Told.{Small}
use Rattle.account.proofs.Sums as sums
use Rattle.account.proofs.Ranges.{good}

pub grazing-in : (v : List ℕ) (head : ℕ) → head ≤ 20000 → first_bad (fields 10) v 0 ≡ 0
    → GrazingIn (get_or v 0 0) (get_or v 1 0) (get_or v 2 0) (get_or v 3 0) head
unfolding table
grazing-in v head h e =
    let g = good 10 v e in
    record {
      region-in = (omega arith, omega arith);
      column-in = (omega arith, omega arith);
      weight-in = omega arith;
      fraction-in = omega arith;
      head_in = h;
    }

pub grazing-fraction : (v : List ℕ) → first_bad (fields 10) v 0 ≡ 0 → get_or v 3 0 ≤ 10000
unfolding table
grazing-fraction v e = let g = good 10 v e in omega arith

pub grazing-figures : (h : Heading) (v : List ℕ) → h.head ≤ 20000 → first_bad (fields 10) v 0 ≡ 0 → Small (figures_of h 10 v)
unfolding figures_of
grazing-figures h v m e = sums.grazing-small _ (grazing-small (grazing-in v h.head m e))
