-- An organic soil record: values in the ranges of its fields are in those that the arithmetic asks for, and its figures are small.
-- Assumes nothing.
use Prim.Native.Nat.{ℕ}
use mathlib.Core.Path.{◌≡◌}
use mathlib.Core.List.{List}
use native.Mathlib.Omega.{arith}
use lib.ListN.{get_or}
use Rattle.codec.specs.Table.{table, fields}
use Rattle.codec.specs.Codec.{first_bad}
use Rattle.grams.specs.Farm.{SoilIn, soil_of}
use Rattle.grams.proofs.farm.Small.{soil-small}
use Rattle.account.specs.declared.Heading.{Heading}
use Rattle.account.specs.Figures.{figures_of}
use Rattle.account.specs.Told.{Small}
use Rattle.account.proofs.Sums.{co2-small}
use Rattle.account.proofs.Ranges.{good}

pub soil-in : (v : List ℕ) → first_bad (fields 7) v 0 ≡ 0 → SoilIn (get_or v 0 0)
unfolding table
soil-in v e = let g = good 7 v e in record { area_in = omega arith }

pub soil-figures : (h : Heading) (v : List ℕ) → first_bad (fields 7) v 0 ≡ 0 → Small (figures_of h 7 v)
unfolding figures_of
soil-figures h v e = co2-small (soil_of (get_or v 0 0)) (soil-small (soil-in v e))
