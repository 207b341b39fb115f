-- Change request W7: CO2 of a change of tillage. Assumes nothing.
use Rattle.std.specs.Prelude.{ℕ, ◌*◌, ◌≤◌, ℤ, neg_ℤ, unsigned_abs}
use Rattle.grams.specs.Round.{round_div}
use Rattle.grams.specs.Units.{grams_co2}
use Rattle.grams.specs.Figure.{Carbon}
use Rattle.grams.specs.TillageTable.{Pair, pair_of}
use Rattle.grams.specs.CarbonRate.{with_sign, mg_of}
use Rattle.grams.specs.declared.units.Co2.{Co2}
use Rattle.grams.specs.declared.tillage_table.Entry.{Entry}
pub mod Cases

-- the ranges of a tillage record
pub record TillageIn (zone texture change years area : ℕ) : Type 0 where
  pub zone-in : (1 ≤ zone) × (zone ≤ 9)
  pub texture-in : (1 ≤ texture) × (texture ≤ 3)
  pub change-in : (1 ≤ change) × (change ≤ 6)
  pub years-in : (1 ≤ years) × (years ≤ 100)
  pub area_in : area ≤ 10000000

-- CO2 = −sign(mg) × round(|mg| × area × 11 / 30): the amount is rounded, and then gets its sign; carbon gained is CO2 taken up
unfoldable pub co2_of : ℤ → ℕ → ℤ
co2_of mg area = with_sign (neg_ℤ mg) (round_div (unsigned_abs mg * area * 11) 30)

-- mg of carbon per square metre in the given year after the change
abbrev pub record_mg : ℕ → ℕ → ℕ → ℕ → ℤ
record_mg zone texture change years = let p = pair_of zone texture change in mg_of p.lum p.k years

unfoldable pub tillage_of : ℕ → ℕ → ℕ → ℕ → ℕ → Co2
tillage_of zone texture change years area = grams_co2 (co2_of (record_mg zone texture change years) area)

-- for the contract of grams::tillage::tillage: its figure within its bounds
abbrev pub Tillage : ℕ → ℕ → ℕ → ℕ → ℕ → Co2 → Type 0
Tillage zone texture change years area r = Carbon (tillage_of zone texture change years area) r

-- a pair without its sign, as the code keeps it
abbrev pub entry_of : Pair → Entry
entry_of p = (unsigned_abs p.lum, p.k)
