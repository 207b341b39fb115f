-- A change of tillage: values in the ranges of its fields are in those that the arithmetic asks for, and its figures are small.
-- Assumes nothing.
use Prim.Native.Nat.{ℕ}
use mathlib.Core.Path.{◌≡◌}
use mathlib.Core.List.{List}
use native.Mathlib.Omega.{arith}
use lib.ListN.{get_or}
use Rattle.codec.specs.Table.{table, fields}
use Rattle.codec.specs.Codec.{first_bad}
use Rattle.grams.specs.Tillage.{TillageIn, tillage_of}
use Rattle.grams.proofs.tillage.Small.{tillage-small}
use Rattle.account.specs.declared.Heading.{Heading}
use Rattle.account.specs.Figures.{figures_of}
use Rattle.account.specs.Told.{Small}
use Rattle.account.proofs.Sums.{co2-small}
use Rattle.account.proofs.Ranges.{good}

pub tillage-in : (v : List ℕ) → first_bad (fields 9) v 0 ≡ 0 → TillageIn (get_or v 0 0) (get_or v 1 0) (get_or v 2 0) (get_or v 3 0) (get_or v 4 0)
unfolding table
tillage-in v e =
    let g = good 9 v e in
    record {
      zone-in = (omega arith, omega arith);
      texture-in = (omega arith, omega arith);
      change-in = (omega arith, omega arith);
      years-in = (omega arith, omega arith);
      area_in = omega arith;
    }

pub tillage-figures : (h : Heading) (v : List ℕ) → first_bad (fields 9) v 0 ≡ 0 → Small (figures_of h 9 v)
unfolding figures_of
tillage-figures h v e =
    co2-small (tillage_of (get_or v 0 0) (get_or v 1 0) (get_or v 2 0) (get_or v 3 0) (get_or v 4 0)) (tillage-small (tillage-in v e))
