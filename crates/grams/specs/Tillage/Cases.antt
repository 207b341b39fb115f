-- Worked values of a change of tillage (document 02, W7): the figures that the rules give and those that are printed.
-- Assumes nothing.
use Rattle.std.specs.Prelude.{ℕ, List, [], ◌∷◌}
use Rattle.base.specs.Signed.{word_of}
use Rattle.grams.specs.Units.{co2_word}
use Rattle.grams.specs.Tillage.{record_mg, tillage_of}
use Rattle.grams.specs.Cases.{Row, row, above, below}

-- mg of carbon and the CO2 of areas 100, 1 and 10^7, as words
abbrev pub tillage_figures : ℕ → ℕ → ℕ → ℕ → List ℕ
tillage_figures zone texture change years =
    word_of (record_mg zone texture change years)
    ∷ co2_word (tillage_of zone texture change years 100)
    ∷ co2_word (tillage_of zone texture change years 1)
    ∷ co2_word (tillage_of zone texture change years 10000000)
    ∷ []

abbrev pub tillage_cases : List Row
tillage_cases =
    row (tillage_figures 1 1 1 1) (above 3698 ∷ below 135593 ∷ below 1356 ∷ below 13559333333 ∷ [])
    ∷ row (tillage_figures 1 3 3 100) (above 404 ∷ below 14813 ∷ below 148 ∷ below 1481333333 ∷ [])
    -- 82.5 below zero: an exact half goes to the even number
    ∷ row (tillage_figures 7 3 1 1) (above 225 ∷ below 8250 ∷ below 82 ∷ below 825000000 ∷ [])
    ∷ row (tillage_figures 8 2 5 10) (below 22340 ∷ above 819133 ∷ above 8191 ∷ above 81913333333 ∷ [])
    ∷ row (tillage_figures 9 3 6 100) (below 767 ∷ above 28123 ∷ above 281 ∷ above 2812333333 ∷ [])
    -- Pacific Maritime: what the exceptions would be the mirror of, the other exception, and a pair that keeps the mirror rule
    ∷ row (tillage_figures 8 2 2 10) (above 9335 ∷ below 342283 ∷ below 3423 ∷ below 34228333333 ∷ [])
    ∷ row (tillage_figures 8 3 5 1) (below 13461 ∷ above 493570 ∷ above 4936 ∷ above 49357000000 ∷ [])
    ∷ row (tillage_figures 8 3 2 1) (above 8203 ∷ below 300777 ∷ below 3008 ∷ below 30077666667 ∷ [])
    ∷ row (tillage_figures 8 1 5 1) (below 9687 ∷ above 355190 ∷ above 3552 ∷ above 35519000000 ∷ [])
    -- the largest and the smallest lumCmax
    ∷ row (tillage_figures 8 2 6 1) (below 22291 ∷ above 817337 ∷ above 8173 ∷ above 81733666667 ∷ [])
    ∷ row (tillage_figures 2 1 2 100) (above 51 ∷ below 1870 ∷ below 19 ∷ below 187000000 ∷ [])
    ∷ row (tillage_figures 5 2 2 20) (above 4103 ∷ below 150443 ∷ below 1504 ∷ below 15044333333 ∷ [])
    ∷ row (tillage_figures 3 2 4 33) (below 2504 ∷ above 91813 ∷ above 918 ∷ above 9181333333 ∷ [])
    -- 19343.5 above zero; and no area, which is no CO2 on either side
    ∷ row (co2_word (tillage_of 4 1 5 1 3) ∷ []) (above 19344 ∷ [])
    ∷ row (co2_word (tillage_of 1 1 1 1 0) ∷ co2_word (tillage_of 9 3 6 100 0) ∷ []) (0 ∷ 0 ∷ [])
    ∷ []
