-- A cattle nitrogen record: both sides of its limits, and exact halves of its figures.
-- Assumes nothing.
use Rattle.std.specs.Prelude.{ℕ, List, [], ◌∷◌, ◌++◌}
use Rattle.codec.specs.Codec.{record_bytes}
use Rattle.grams.specs.Cases.{Row, row}
use Rattle.promises.specs.Rows.{going, refused, farm, cow, row_after, blank, given}

-- of so many days
abbrev pub nitrogen : ℕ → List ℕ
nitrogen days = record_bytes 4 (days ∷ 20 ∷ 30 ∷ 4 ∷ 5 ∷ 0 ∷ 1 ∷ 2 ∷ 9997 ∷ [])

abbrev pub cattle_limits : List Row
cattle_limits =
    -- days: 1..366
    row_after cow (record_bytes 4 (0 ∷ 5000 ∷ 4000 ∷ 0 ∷ 0 ∷ 0 ∷ 0 ∷ 0 ∷ 10000 ∷ [])) (refused 2 7 1)
    ∷ row_after cow (record_bytes 4 (1 ∷ 5000 ∷ 4000 ∷ 0 ∷ 0 ∷ 0 ∷ 0 ∷ 0 ∷ 10000 ∷ [])) (going 3)
    ∷ row_after cow (record_bytes 4 (366 ∷ 5000 ∷ 4000 ∷ 0 ∷ 0 ∷ 0 ∷ 0 ∷ 0 ∷ 10000 ∷ [])) (going 3)
    ∷ row_after cow (record_bytes 4 (367 ∷ 5000 ∷ 4000 ∷ 0 ∷ 0 ∷ 0 ∷ 0 ∷ 0 ∷ 10000 ∷ [])) (refused 2 7 1)
    -- feed: 0..5000
    ∷ row_after cow (record_bytes 4 (10 ∷ 0 ∷ 4000 ∷ 0 ∷ 0 ∷ 0 ∷ 0 ∷ 0 ∷ 10000 ∷ [])) (going 3)
    ∷ row_after cow (record_bytes 4 (10 ∷ 5000 ∷ 4000 ∷ 0 ∷ 0 ∷ 0 ∷ 0 ∷ 0 ∷ 10000 ∷ [])) (going 3)
    ∷ row_after cow (record_bytes 4 (10 ∷ 5001 ∷ 4000 ∷ 0 ∷ 0 ∷ 0 ∷ 0 ∷ 0 ∷ 10000 ∷ [])) (refused 2 7 2)
    -- protein: 0..4000
    ∷ row_after cow (record_bytes 4 (10 ∷ 5000 ∷ 0 ∷ 0 ∷ 0 ∷ 0 ∷ 0 ∷ 0 ∷ 10000 ∷ [])) (going 3)
    ∷ row_after cow (record_bytes 4 (10 ∷ 5000 ∷ 4000 ∷ 0 ∷ 0 ∷ 0 ∷ 0 ∷ 0 ∷ 10000 ∷ [])) (going 3)
    ∷ row_after cow (record_bytes 4 (10 ∷ 5000 ∷ 4001 ∷ 0 ∷ 0 ∷ 0 ∷ 0 ∷ 0 ∷ 10000 ∷ [])) (refused 2 7 3)
    -- milk: 0..8000
    ∷ row_after cow (record_bytes 4 (10 ∷ 5000 ∷ 4000 ∷ 0 ∷ 0 ∷ 0 ∷ 0 ∷ 0 ∷ 10000 ∷ [])) (going 3)
    ∷ row_after cow (record_bytes 4 (10 ∷ 5000 ∷ 4000 ∷ 8000 ∷ 0 ∷ 0 ∷ 0 ∷ 0 ∷ 10000 ∷ [])) (going 3)
    ∷ row_after cow (record_bytes 4 (10 ∷ 5000 ∷ 4000 ∷ 8001 ∷ 0 ∷ 0 ∷ 0 ∷ 0 ∷ 10000 ∷ [])) (refused 2 7 4)
    -- milk protein: 0..800
    ∷ row_after cow (record_bytes 4 (10 ∷ 5000 ∷ 4000 ∷ 0 ∷ 0 ∷ 0 ∷ 0 ∷ 0 ∷ 10000 ∷ [])) (going 3)
    ∷ row_after cow (record_bytes 4 (10 ∷ 5000 ∷ 4000 ∷ 0 ∷ 800 ∷ 0 ∷ 0 ∷ 0 ∷ 10000 ∷ [])) (going 3)
    ∷ row_after cow (record_bytes 4 (10 ∷ 5000 ∷ 4000 ∷ 0 ∷ 801 ∷ 0 ∷ 0 ∷ 0 ∷ 10000 ∷ [])) (refused 2 7 5)
    -- gain: 0..3000
    ∷ row_after cow (record_bytes 4 (10 ∷ 5000 ∷ 4000 ∷ 0 ∷ 0 ∷ 0 ∷ 0 ∷ 0 ∷ 10000 ∷ [])) (going 3)
    ∷ row_after cow (record_bytes 4 (10 ∷ 5000 ∷ 4000 ∷ 0 ∷ 0 ∷ 3000 ∷ 0 ∷ 0 ∷ 10000 ∷ [])) (going 3)
    ∷ row_after cow (record_bytes 4 (10 ∷ 5000 ∷ 4000 ∷ 0 ∷ 0 ∷ 3001 ∷ 0 ∷ 0 ∷ 10000 ∷ [])) (refused 2 7 6)
    -- solid share: 0..10000
    ∷ row_after cow (record_bytes 4 (10 ∷ 5000 ∷ 4000 ∷ 0 ∷ 0 ∷ 0 ∷ 0 ∷ 10000 ∷ 0 ∷ [])) (going 3)
    ∷ row_after cow (record_bytes 4 (10 ∷ 5000 ∷ 4000 ∷ 0 ∷ 0 ∷ 0 ∷ 10000 ∷ 0 ∷ 0 ∷ [])) (going 3)
    ∷ row_after cow (record_bytes 4 (10 ∷ 5000 ∷ 4000 ∷ 0 ∷ 0 ∷ 0 ∷ 10001 ∷ 0 ∷ 0 ∷ [])) (refused 2 7 7)
    -- liquid share: 0..10000
    ∷ row_after cow (record_bytes 4 (10 ∷ 5000 ∷ 4000 ∷ 0 ∷ 0 ∷ 0 ∷ 0 ∷ 0 ∷ 10000 ∷ [])) (going 3)
    ∷ row_after cow (record_bytes 4 (10 ∷ 5000 ∷ 4000 ∷ 0 ∷ 0 ∷ 0 ∷ 0 ∷ 10000 ∷ 0 ∷ [])) (going 3)
    ∷ row_after cow (record_bytes 4 (10 ∷ 5000 ∷ 4000 ∷ 0 ∷ 0 ∷ 0 ∷ 0 ∷ 10001 ∷ 0 ∷ [])) (refused 2 7 8)
    -- pasture share: 0..10000
    ∷ row_after cow (record_bytes 4 (10 ∷ 5000 ∷ 4000 ∷ 0 ∷ 0 ∷ 0 ∷ 10000 ∷ 0 ∷ 0 ∷ [])) (going 3)
    ∷ row_after cow (record_bytes 4 (10 ∷ 5000 ∷ 4000 ∷ 0 ∷ 0 ∷ 0 ∷ 0 ∷ 0 ∷ 10000 ∷ [])) (going 3)
    ∷ row_after cow (record_bytes 4 (10 ∷ 5000 ∷ 4000 ∷ 0 ∷ 0 ∷ 0 ∷ 0 ∷ 0 ∷ 10001 ∷ [])) (refused 2 7 9)
    -- 4: its length is 20, one byte less and one more
    ∷ row_after cow (blank 19 4) (refused 2 4 0)
    ∷ row_after cow (blank 21 4) (refused 2 4 0)
    -- 6: not the first record, and under a cattle heading
    ∷ row_after [] (nitrogen 10) (refused 0 6 0)
    ∷ row_after farm (nitrogen 10) (refused 1 6 0)
    ∷ row_after farm (record_bytes 2 (1 ∷ 1 ∷ 1 ∷ []) ++ nitrogen 10) (going 3)
    ∷ row_after farm (record_bytes 2 (1 ∷ 2 ∷ 1 ∷ []) ++ nitrogen 10) (going 3)
    ∷ row_after farm (record_bytes 2 (1 ∷ 3 ∷ 1 ∷ []) ++ nitrogen 10) (going 3)
    ∷ row_after farm (record_bytes 2 (1 ∷ 4 ∷ 1 ∷ []) ++ nitrogen 10) (refused 2 6 0)
    -- 9: days over 366 with this record
    ∷ row_after cow (nitrogen 200 ++ nitrogen 166) (going 4)
    ∷ row_after cow (nitrogen 200 ++ nitrogen 167) (refused 3 9 0)
    ∷ row_after cow (nitrogen 366 ++ nitrogen 1) (refused 3 9 0)
    -- 10: shares not 10000 together
    ∷ row_after cow (record_bytes 4 (10 ∷ 20 ∷ 30 ∷ 4 ∷ 5 ∷ 0 ∷ 3333 ∷ 3333 ∷ 3334 ∷ [])) (going 3)
    ∷ row_after cow (record_bytes 4 (10 ∷ 20 ∷ 30 ∷ 4 ∷ 5 ∷ 0 ∷ 3333 ∷ 3333 ∷ 3333 ∷ [])) (refused 2 10 0)
    ∷ row_after cow (record_bytes 4 (10 ∷ 20 ∷ 30 ∷ 4 ∷ 5 ∷ 0 ∷ 3333 ∷ 3334 ∷ 3334 ∷ [])) (refused 2 10 0)
    ∷ row_after cow (record_bytes 4 (10 ∷ 20 ∷ 30 ∷ 4 ∷ 5 ∷ 0 ∷ 0 ∷ 0 ∷ 0 ∷ [])) (refused 2 10 0)
    ∷ row_after cow (record_bytes 4 (10 ∷ 20 ∷ 30 ∷ 4 ∷ 5 ∷ 0 ∷ 10000 ∷ 10000 ∷ 10000 ∷ [])) (refused 2 10 0)
    ∷ row_after cow (record_bytes 4 (10 ∷ 20 ∷ 30 ∷ 4 ∷ 5 ∷ 0 ∷ 0 ∷ 0 ∷ 10000 ∷ [])) (going 3)
    ∷ row_after cow (record_bytes 4 (10 ∷ 20 ∷ 30 ∷ 4 ∷ 5 ∷ 0 ∷ 1 ∷ 0 ∷ 10000 ∷ [])) (refused 2 10 0)
    -- 11: X below zero: 160 × feed × protein − 157 × milk × milk protein − 27000 × gain of 1, 0 and −1
    ∷ row_after cow (record_bytes 4 (10 ∷ 105 ∷ 1 ∷ 107 ∷ 1 ∷ 0 ∷ 0 ∷ 0 ∷ 10000 ∷ [])) (going 3)
    ∷ row_after cow (record_bytes 4 (10 ∷ 0 ∷ 0 ∷ 0 ∷ 0 ∷ 0 ∷ 0 ∷ 0 ∷ 10000 ∷ [])) (going 3)
    ∷ row_after cow (record_bytes 4 (10 ∷ 157 ∷ 1 ∷ 160 ∷ 1 ∷ 0 ∷ 0 ∷ 0 ∷ 10000 ∷ [])) (going 3)
    ∷ row_after cow (record_bytes 4 (10 ∷ 675 ∷ 1 ∷ 0 ∷ 0 ∷ 4 ∷ 0 ∷ 0 ∷ 10000 ∷ [])) (going 3)
    ∷ row_after cow (record_bytes 4 (10 ∷ 52 ∷ 1 ∷ 53 ∷ 1 ∷ 0 ∷ 0 ∷ 0 ∷ 10000 ∷ [])) (refused 2 11 0)
    ∷ row_after cow (record_bytes 4 (10 ∷ 0 ∷ 4000 ∷ 0 ∷ 800 ∷ 1 ∷ 0 ∷ 0 ∷ 10000 ∷ [])) (refused 2 11 0)
    ∷ []

-- exact halves
abbrev pub cattle_halves : List Row
cattle_halves =
    -- cattle excreted: 0.5 and 1.5
    row (given 1 4 (1 ∷ 25 ∷ 125 ∷ 0 ∷ 0 ∷ 0 ∷ 0 ∷ 0 ∷ 10000 ∷ [])) (0 ∷ 0 ∷ 0 ∷ 0 ∷ 0 ∷ 0 ∷ [])
    ∷ row (given 1 4 (1 ∷ 75 ∷ 125 ∷ 0 ∷ 0 ∷ 0 ∷ 0 ∷ 0 ∷ 10000 ∷ [])) (0 ∷ 0 ∷ 0 ∷ 2 ∷ 0 ∷ 0 ∷ [])
    -- direct N2O: 434.5 and 1303.5
    ∷ row (given 70 4 (1 ∷ 1250 ∷ 2500 ∷ 0 ∷ 0 ∷ 0 ∷ 8000 ∷ 2000 ∷ 0 ∷ [])) (0 ∷ 710 ∷ 0 ∷ 35000 ∷ 0 ∷ 0 ∷ [])
    ∷ row (given 70 4 (3 ∷ 1250 ∷ 2500 ∷ 0 ∷ 0 ∷ 0 ∷ 8000 ∷ 2000 ∷ 0 ∷ [])) (0 ∷ 2132 ∷ 0 ∷ 105000 ∷ 0 ∷ 0 ∷ [])
    -- indirect N2O: 60.5 and 181.5
    ∷ row (given 14 4 (1 ∷ 1250 ∷ 2500 ∷ 0 ∷ 0 ∷ 0 ∷ 5000 ∷ 5000 ∷ 0 ∷ [])) (0 ∷ 147 ∷ 0 ∷ 7000 ∷ 0 ∷ 0 ∷ [])
    ∷ row (given 14 4 (3 ∷ 1250 ∷ 2500 ∷ 0 ∷ 0 ∷ 0 ∷ 5000 ∷ 5000 ∷ 0 ∷ [])) (0 ∷ 443 ∷ 0 ∷ 21000 ∷ 0 ∷ 0 ∷ [])
    -- both: 434.5 and 258.5, then 1303.5 and 775.5
    ∷ row (given 70 4 (1 ∷ 1250 ∷ 2500 ∷ 0 ∷ 0 ∷ 0 ∷ 10000 ∷ 0 ∷ 0 ∷ [])) (0 ∷ 692 ∷ 0 ∷ 35000 ∷ 0 ∷ 0 ∷ [])
    ∷ row (given 70 4 (3 ∷ 1250 ∷ 2500 ∷ 0 ∷ 0 ∷ 0 ∷ 10000 ∷ 0 ∷ 0 ∷ [])) (0 ∷ 2080 ∷ 0 ∷ 105000 ∷ 0 ∷ 0 ∷ [])
    ∷ []
