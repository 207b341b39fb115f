-- The bounds of the farm's own figures, over their ranges, and these and CO2e of a total as whole numbers. Assumes nothing.
use Rattle.std.proofs.Common.{◌≡◌, ℕ, ◌+◌, ◌*◌, ◌^◌, ◌≤◌, ℤ, pos, ◌+ℤ◌, ap, ◌∙◌, le_trans, arith, lit≤}
use Rattle.base.proofs.Signed.{signed_word}
use Rattle.grams.specs.Round.{round_div}
use Rattle.grams.specs.Units.{grams_co2, co2_grams, plus_co2, Co2Within}
use Rattle.grams.specs.Farm.{EnergyIn, SoilIn, FactorsMost, SumsIn, energy_of, soil_of, co2e_of}
use Rattle.grams.specs.declared.units.Co2.{Co2}
use Rattle.grams.specs.declared.units.Grazed.{Grazed}
use Rattle.grams.specs.declared.units.N2o.{N2o}
use Rattle.grams.specs.declared.farm.Factors.{Factors}
use Rattle.grams.proofs.Bounds.{◌⊗◌, ◌⊕◌, num, rounds}
use Rattle.grams.proofs.Carbon.{within-grams, plus-grams}

pub energy-small : {amount factor : ℕ} → EnergyIn amount factor → Co2Within 1 (energy_of amount factor)
unfolding energy_of
energy-small i = within-grams (pos _) 1 (rounds _ _ (i.amount-in ⊗ i.factor-in) tt tt)

pub soil-small : {area : ℕ} → SoilIn area → Co2Within 1 (soil_of area)
unfolding soil_of
soil-small i = within-grams (pos _) 1 (rounds _ _ (i.area_in ⊗ num _) tt tt)

-- read as a signed number, each is the number that its rule gives: none is cut by its word
pub energy-grams : {amount factor : ℕ} → EnergyIn amount factor → co2_grams (energy_of amount factor) ≡ pos (round_div (amount * factor) 10)
unfolding energy_of
energy-grams {amount} {factor} i =
    let most : round_div (amount * factor) 10 ≤ 10 ^ 13 = rounds _ _ (i.amount-in ⊗ i.factor-in) tt tt in
    signed_word (pos (round_div (amount * factor) 10)) (omega (arith, most))

pub soil-grams : {area : ℕ} → SoilIn area → co2_grams (soil_of area) ≡ pos (round_div (area * 550000) 3)
unfolding soil_of
soil-grams {area} i =
    let most : round_div (area * 550000) 3 ≤ 10 ^ 13 = rounds _ _ (i.area_in ⊗ num _) tt tt in
    signed_word (pos (round_div (area * 550000) 3)) (omega (arith, most))

others-added : (c : Co2) (n : ℕ) → Co2Within 4096 c → n ≤ 49152 * 10 ^ 13 → co2_grams (plus_co2 c (grams_co2 (pos n))) ≡ co2_grams c +ℤ pos n
others-added c n p h =
    let e : co2_grams (grams_co2 (pos n)) ≡ pos n = signed_word (pos n) (omega arith) in
    plus-grams c (grams_co2 (pos n)) 4096 49152 (omega arith) p (within-grams (pos n) 49152 h) ∙ ap (λ (z : ℤ). co2_grams c +ℤ z) e

-- what CH4, N2O and grazing count for at most, by any factors
pub others-most : {w : Factors} {ch4 n g : ℕ} → FactorsMost w → ch4 ≤ 4096 * 10 ^ 11 → n ≤ 4096 * 10 ^ 10 → g ≤ 4096 * 10 ^ 11
    → w.ch4 * ch4 + w.n2o * n + g ≤ 49152 * 10 ^ 13
others-most f c n g = le_trans (f.ch4-most ⊗ c ⊕ f.n2o-most ⊗ n ⊕ g) (lit≤ tt)

-- CO2e of a total, which may be below zero, does not go round its 8 bytes, whatever the factors
module _ {co2 : Co2} {ch4 : ℕ} {n2o : N2o} {grazing : Grazed} (i : SumsIn co2 ch4 n2o grazing) where
  pub co2e-grams : (w : Factors) → FactorsMost w
      → co2_grams (co2e_of w co2 ch4 n2o grazing) ≡ co2_grams co2 +ℤ pos (w.ch4 * ch4 + w.n2o * n2o.0 + grazing.0)
  unfolding co2e_of
  co2e-grams w f = others-added co2 (w.ch4 * ch4 + w.n2o * n2o.0 + grazing.0) i.co2-in (others-most f i.ch4-in i.n2o-in i.grazing-in)
