-- The bound of a pasture factor and of grazing's CO2e, over their ranges. Assumes nothing.
use Rattle.std.proofs.Common.{ℕ, zero, suc, ◌^◌, ◌≤◌, T, leb, not-suc-le-zero, leb→le}
use Rattle.grams.specs.Grazing.{GrazingIn, pasture_table, pasture_factor, grazing_of}
use Rattle.grams.proofs.Places.{both, every, at}
use Rattle.grams.proofs.Bounds.{◌⊗◌, rounds}

factors-test : T (every 7 (λ r. every 3 (λ c. leb (pasture_factor (suc r) (suc c)) 190)))
unfolding every both pasture_table pasture_factor
factors-test = tt

pub factor-most : (region column : ℕ) → (1 ≤ region) × (region ≤ 7) → (1 ≤ column) × (column ≤ 3) → pasture_factor region column ≤ 190
factor-most zero column r c = absurd (not-suc-le-zero r.0)
factor-most (suc r) zero i c = absurd (not-suc-le-zero c.0)
factor-most (suc r) (suc c) i j = leb→le _ 190 (at 3 _ (at 7 _ factors-test r i.1) c j.1)

pub grazing-small : {region column weight fraction head : ℕ} → GrazingIn region column weight fraction head
    → (grazing_of region column weight fraction head).0 ≤ 10 ^ 11
unfolding grazing_of
grazing-small i = rounds _ _ (factor-most _ _ i.region-in i.column-in ⊗ i.weight-in ⊗ i.fraction-in ⊗ i.head_in) tt tt
