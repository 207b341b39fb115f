-- A change of tillage: both sides of its limits, and exact halves of its figures.
-- Assumes nothing.
use Rattle.std.specs.Prelude.{List, [], ◌∷◌}
use Rattle.codec.specs.Codec.{record_bytes}
use Rattle.grams.specs.Cases.{Row, row, above, below}
use Rattle.promises.specs.Rows.{going, refused, farm, row_after, blank, given}

abbrev pub tillage_limits : List Row
tillage_limits =
    -- zone: 1..9
    row_after farm (record_bytes 9 (0 ∷ 2 ∷ 3 ∷ 4 ∷ 5 ∷ [])) (refused 1 7 1)
    ∷ row_after farm (record_bytes 9 (1 ∷ 2 ∷ 3 ∷ 4 ∷ 5 ∷ [])) (going 2)
    ∷ row_after farm (record_bytes 9 (9 ∷ 2 ∷ 3 ∷ 4 ∷ 5 ∷ [])) (going 2)
    ∷ row_after farm (record_bytes 9 (10 ∷ 2 ∷ 3 ∷ 4 ∷ 5 ∷ [])) (refused 1 7 1)
    -- texture: 1..3
    ∷ row_after farm (record_bytes 9 (1 ∷ 0 ∷ 3 ∷ 4 ∷ 5 ∷ [])) (refused 1 7 2)
    ∷ row_after farm (record_bytes 9 (1 ∷ 1 ∷ 3 ∷ 4 ∷ 5 ∷ [])) (going 2)
    ∷ row_after farm (record_bytes 9 (1 ∷ 3 ∷ 3 ∷ 4 ∷ 5 ∷ [])) (going 2)
    ∷ row_after farm (record_bytes 9 (1 ∷ 4 ∷ 3 ∷ 4 ∷ 5 ∷ [])) (refused 1 7 2)
    -- change: 1..6
    ∷ row_after farm (record_bytes 9 (1 ∷ 2 ∷ 0 ∷ 4 ∷ 5 ∷ [])) (refused 1 7 3)
    ∷ row_after farm (record_bytes 9 (1 ∷ 2 ∷ 1 ∷ 4 ∷ 5 ∷ [])) (going 2)
    ∷ row_after farm (record_bytes 9 (1 ∷ 2 ∷ 6 ∷ 4 ∷ 5 ∷ [])) (going 2)
    ∷ row_after farm (record_bytes 9 (1 ∷ 2 ∷ 7 ∷ 4 ∷ 5 ∷ [])) (refused 1 7 3)
    -- years: 1..100
    ∷ row_after farm (record_bytes 9 (1 ∷ 2 ∷ 3 ∷ 0 ∷ 5 ∷ [])) (refused 1 7 4)
    ∷ row_after farm (record_bytes 9 (1 ∷ 2 ∷ 3 ∷ 1 ∷ 5 ∷ [])) (going 2)
    ∷ row_after farm (record_bytes 9 (1 ∷ 2 ∷ 3 ∷ 100 ∷ 5 ∷ [])) (going 2)
    ∷ row_after farm (record_bytes 9 (1 ∷ 2 ∷ 3 ∷ 101 ∷ 5 ∷ [])) (refused 1 7 4)
    -- area: 0..10000000
    ∷ row_after farm (record_bytes 9 (1 ∷ 2 ∷ 3 ∷ 4 ∷ 0 ∷ [])) (going 2)
    ∷ row_after farm (record_bytes 9 (1 ∷ 2 ∷ 3 ∷ 4 ∷ 10000000 ∷ [])) (going 2)
    ∷ row_after farm (record_bytes 9 (1 ∷ 2 ∷ 3 ∷ 4 ∷ 10000001 ∷ [])) (refused 1 7 5)
    -- 4: its length is 11, one byte less and one more
    ∷ row_after farm (blank 10 9) (refused 1 4 0)
    ∷ row_after farm (blank 12 9) (refused 1 4 0)
    -- 6: not the first record
    ∷ row_after [] (record_bytes 9 (1 ∷ 2 ∷ 3 ∷ 4 ∷ 5 ∷ [])) (refused 0 6 0)
    ∷ []

-- exact halves
abbrev pub tillage_halves : List Row
tillage_halves =
    -- tillage: 82.5 and 247.5, below zero and above
    row (given 1 9 (7 ∷ 3 ∷ 1 ∷ 1 ∷ 1 ∷ [])) (0 ∷ 0 ∷ below 82 ∷ 0 ∷ 0 ∷ 0 ∷ [])
    ∷ row (given 1 9 (7 ∷ 3 ∷ 1 ∷ 1 ∷ 3 ∷ [])) (0 ∷ 0 ∷ below 248 ∷ 0 ∷ 0 ∷ 0 ∷ [])
    ∷ row (given 1 9 (7 ∷ 3 ∷ 4 ∷ 1 ∷ 1 ∷ [])) (0 ∷ 0 ∷ above 82 ∷ 0 ∷ 0 ∷ 0 ∷ [])
    ∷ row (given 1 9 (7 ∷ 3 ∷ 4 ∷ 1 ∷ 3 ∷ [])) (0 ∷ 0 ∷ above 248 ∷ 0 ∷ 0 ∷ 0 ∷ [])
    ∷ []
