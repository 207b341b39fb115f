-- Document 01, "The arithmetic": energy, organic soil, and the total's CO2e. Assumes nothing.
use Rattle.std.specs.Prelude.{ℕ, ◌+◌, ◌*◌, ◌^◌, ◌≤◌, pos, ◌==◌}
use Rattle.base.specs.Choice.{pick}
use Rattle.grams.specs.Round.{round_div}
use Rattle.grams.specs.Units.{grams_co2, plus_co2, Co2Within}
use Rattle.grams.specs.Figure.{Carbon}
use Rattle.grams.specs.declared.units.Co2.{Co2}
use Rattle.grams.specs.declared.units.Grazed.{Grazed}
use Rattle.grams.specs.declared.units.N2o.{N2o}
use Rattle.grams.specs.declared.farm.Factors.{Factors}

-- the ranges of an energy record, from above
pub record EnergyIn (amount factor : ℕ) : Type 0 where
  pub amount-in : amount ≤ 10000000
  pub factor-in : factor ≤ 10000000

-- CO2 = round(amount × factor / 10)
unfoldable pub energy_of : ℕ → ℕ → Co2
energy_of amount factor = grams_co2 (pos (round_div (amount * factor) 10))

-- for the contract of grams::farm::energy: its figure within its bounds
abbrev pub Energy : ℕ → ℕ → Co2 → Type 0
Energy amount factor r = Carbon (energy_of amount factor) r

-- the range of an organic soil record, from above
pub record SoilIn (area : ℕ) : Type 0 where
  pub area_in : area ≤ 10000000

-- CO2 = round(area × 550000 / 3)
unfoldable pub soil_of : ℕ → Co2
soil_of area = grams_co2 (pos (round_div (area * 550000) 3))

-- for the contract of grams::farm::soil: the same
abbrev pub Soil : ℕ → Co2 → Type 0
Soil area r = Carbon (soil_of area) r

-- (a, b) = (21, 310) in set 1, (23, 296) in set 2
abbrev pub set_factors : ℕ → Factors
set_factors set = pick (set == 1) (record { ch4 = 21; n2o = 310 }) (record { ch4 = 23; n2o = 296 })

-- the factors that a farm record may give (change request W11), from above
pub record FactorsMost (w : Factors) : Type 0 where
  pub ch4-most : w.ch4 ≤ 1000
  pub n2o-most : w.n2o ≤ 1000

-- the most that the sums of 4,096 records reach
pub record SumsIn (co2 : Co2) (ch4 : ℕ) (n2o : N2o) (grazing : Grazed) : Type 0 where
  pub co2-in : Co2Within 4096 co2
  pub ch4-in : ch4 ≤ 4096 * 10 ^ 11
  pub n2o-in : n2o.0 ≤ 4096 * 10 ^ 10
  pub grazing-in : grazing.0 ≤ 4096 * 10 ^ 11

-- CO2e = CO2 + a × CH4 + b × N2O + grazing, which is CO2e from the start (W10); below zero where more is taken up
unfoldable pub co2e_of : Factors → Co2 → ℕ → N2o → Grazed → Co2
co2e_of w co2 ch4 n2o grazing = plus_co2 co2 (grams_co2 (pos (w.ch4 * ch4 + w.n2o * n2o.0 + grazing.0)))
