-- Worked values of grazing (document 02, W10): the figures that the rules give and those that are printed.
-- Assumes nothing.
use Rattle.std.specs.Prelude.{ℕ, List, [], ◌∷◌}
use Rattle.grams.specs.Grazing.{grazing_of}
use Rattle.grams.specs.Cases.{Row, row}

-- CO2e of grazing, a tonne of live weight on pasture all year: cows, heifers, calves
abbrev pub pasture_row : ℕ → List ℕ
pasture_row region = (grazing_of region 1 1000 10000 1).0 ∷ (grazing_of region 2 1000 10000 1).0 ∷ (grazing_of region 3 1000 10000 1).0 ∷ []

-- document 02's worked value, table 2.4.6 in grams, the most and the least
abbrev pub grazing_cases : List Row
grazing_cases =
    row ((grazing_of 3 1 600 5000 1).0 ∷ []) (570000 ∷ [])
    ∷ row (pasture_row 1) (1900000 ∷ 1340000 ∷ 1160000 ∷ [])
    ∷ row (pasture_row 2) (1900000 ∷ 1340000 ∷ 1160000 ∷ [])
    ∷ row (pasture_row 3) (1900000 ∷ 1340000 ∷ 1160000 ∷ [])
    ∷ row (pasture_row 4) (1870000 ∷ 1320000 ∷ 1150000 ∷ [])
    ∷ row (pasture_row 5) (1830000 ∷ 1290000 ∷ 1120000 ∷ [])
    ∷ row (pasture_row 6) (1800000 ∷ 1270000 ∷ 1100000 ∷ [])
    ∷ row (pasture_row 7) (1810000 ∷ 1280000 ∷ 1110000 ∷ [])
    ∷ row ((grazing_of 1 1 2000 10000 20000).0 ∷ (grazing_of 6 3 2000 10000 0).0 ∷ []) (76000000000 ∷ 0 ∷ [])
    ∷ []
