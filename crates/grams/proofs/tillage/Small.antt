-- The bound of a change of tillage's CO2, over its ranges, and this as a whole number. Assumes nothing.
use Rattle.std.proofs.Common.{◌≡◌, ℕ, ◌^◌, ◌≤◌, ℤ, nat_abs, arith}
use Rattle.base.proofs.Signed.{signed_word}
use Rattle.grams.specs.Units.{co2_grams, Co2Within}
use Rattle.grams.specs.TillageTable.{Pair, PlaceIn, pair_of}
use Rattle.grams.specs.CarbonRate.{mg_of}
use Rattle.grams.specs.Tillage.{TillageIn, co2_of, record_mg, tillage_of}
use Rattle.grams.proofs.Bounds.{◌⊗◌, num, rounds}
use Rattle.grams.proofs.tillage_table.Pairs.{lum-most}
use Rattle.grams.proofs.tillage.Signs.{mg-amount, co2-amount}
use Rattle.grams.proofs.Carbon.{within-grams}
use Rattle.grams.proofs.carbon_rate.Small.{rate-most}

pub place_of : {zone texture change years area : ℕ} → TillageIn zone texture change years area → PlaceIn zone texture change
place_of i = record { zone-in = i.zone-in; texture-in = i.texture-in; change-in = i.change-in }

-- how far it is from zero
amount-most : {zone texture change years area : ℕ} → TillageIn zone texture change years area
    → nat_abs (co2_of (record_mg zone texture change years) area) ≤ 10 ^ 13
amount-most {zone} {texture} {change} {years} {area} i =
    let p : Pair = pair_of zone texture change in
    let mg : ℤ = mg_of p.lum p.k years in
    let most : nat_abs mg ≤ 1570000 = rw (mg-amount p.lum p.k years) (rate-most (lum-most (place_of i)) p.k years) in
    rw (co2-amount mg area) (rounds _ _ (most ⊗ i.area_in ⊗ num _) tt tt)

pub tillage-small : {zone texture change years area : ℕ} → TillageIn zone texture change years area
    → Co2Within 1 (tillage_of zone texture change years area)
unfolding tillage_of
tillage-small {zone} {texture} {change} {years} {area} i = within-grams (co2_of (record_mg zone texture change years) area) 1 (amount-most i)

-- read as a signed number it is the number that its rule gives: it is not cut by its word
pub tillage-grams : {zone texture change years area : ℕ} → TillageIn zone texture change years area
    → co2_grams (tillage_of zone texture change years area) ≡ co2_of (record_mg zone texture change years) area
unfolding tillage_of
tillage-grams {zone} {texture} {change} {years} {area} i =
    signed_word (co2_of (record_mg zone texture change years) area) (omega (arith, amount-most i))
