-- An energy record: values in the ranges of its fields are in those that the arithmetic asks for, and its figures are small.
-- Assumes nothing.
use Prim.Native.Nat.{ℕ}
use mathlib.Core.Path.{◌≡◌}
use mathlib.Core.List.{List}
use native.Mathlib.Omega.{arith}
use lib.ListN.{get_or}
use Rattle.codec.specs.Table.{table, fields}
use Rattle.codec.specs.Codec.{first_bad}
use Rattle.grams.specs.Farm.{EnergyIn, energy_of}
use Rattle.grams.proofs.farm.Small.{energy-small}
use Rattle.account.specs.declared.Heading.{Heading}
use Rattle.account.specs.Figures.{figures_of}
use Rattle.account.specs.Told.{Small}
use Rattle.account.proofs.Sums.{co2-small}
use Rattle.account.proofs.Ranges.{good}

pub energy-in : (v : List ℕ) → first_bad (fields 6) v 0 ≡ 0 → EnergyIn (get_or v 1 0) (get_or v 2 0)
unfolding table
energy-in v e = let g = good 6 v e in record { amount-in = omega arith; factor-in = omega arith }

pub energy-figures : (h : Heading) (v : List ℕ) → first_bad (fields 6) v 0 ≡ 0 → Small (figures_of h 6 v)
unfolding figures_of
energy-figures h v e = co2-small (energy_of (get_or v 1 0) (get_or v 2 0)) (energy-small (energy-in v e))
