-- An enteric record: both sides of its limits, and exact halves of its figures.
-- Assumes nothing.
use Rattle.std.specs.Prelude.{ℕ, List, [], ◌∷◌, ◌++◌}
use Rattle.codec.specs.Codec.{record_bytes}
use Rattle.grams.specs.Cases.{Row, row}
use Rattle.promises.specs.Rows.{going, refused, farm, cow, row_after, blank, given}

-- of so many days
abbrev pub enteric : ℕ → List ℕ
enteric days = record_bytes 3 (days ∷ 20 ∷ 30 ∷ [])

abbrev pub enteric_limits : List Row
enteric_limits =
    -- days: 1..366
    row_after cow (enteric 0) (refused 2 7 1)
    ∷ row_after cow (enteric 1) (going 3)
    ∷ row_after cow (enteric 366) (going 3)
    ∷ row_after cow (enteric 367) (refused 2 7 1)
    -- GE: 0..100000
    ∷ row_after cow (record_bytes 3 (10 ∷ 0 ∷ 30 ∷ [])) (going 3)
    ∷ row_after cow (record_bytes 3 (10 ∷ 100000 ∷ 30 ∷ [])) (going 3)
    ∷ row_after cow (record_bytes 3 (10 ∷ 100001 ∷ 30 ∷ [])) (refused 2 7 2)
    -- Ym: 0..2000
    ∷ row_after cow (record_bytes 3 (10 ∷ 20 ∷ 0 ∷ [])) (going 3)
    ∷ row_after cow (record_bytes 3 (10 ∷ 20 ∷ 2000 ∷ [])) (going 3)
    ∷ row_after cow (record_bytes 3 (10 ∷ 20 ∷ 2001 ∷ [])) (refused 2 7 3)
    -- 4: its length is 10, one byte less and one more
    ∷ row_after cow (blank 9 3) (refused 2 4 0)
    ∷ row_after cow (blank 11 3) (refused 2 4 0)
    -- 6: not the first record, and under a cattle heading
    ∷ row_after [] (enteric 10) (refused 0 6 0)
    ∷ row_after farm (enteric 10) (refused 1 6 0)
    ∷ row_after farm (record_bytes 2 (1 ∷ 1 ∷ 1 ∷ []) ++ enteric 10) (going 3)
    ∷ row_after farm (record_bytes 2 (1 ∷ 2 ∷ 1 ∷ []) ++ enteric 10) (going 3)
    ∷ row_after farm (record_bytes 2 (1 ∷ 3 ∷ 1 ∷ []) ++ enteric 10) (going 3)
    ∷ row_after farm (record_bytes 2 (1 ∷ 4 ∷ 1 ∷ []) ++ enteric 10) (refused 2 6 0)
    -- 9: days over 366 with this record
    ∷ row_after cow (enteric 200 ++ enteric 166) (going 4)
    ∷ row_after cow (enteric 200 ++ enteric 167) (refused 3 9 0)
    ∷ row_after cow (enteric 366 ++ enteric 1) (refused 3 9 0)
    ∷ []

-- exact halves
abbrev pub enteric_halves : List Row
enteric_halves =
    -- enteric CH4: 0.5 and 1.5
    row (given 1 3 (1 ∷ 27825 ∷ 1 ∷ [])) (0 ∷ 0 ∷ 0 ∷ 0 ∷ 0 ∷ 0 ∷ [])
    ∷ row (given 1 3 (1 ∷ 83475 ∷ 1 ∷ [])) (2 ∷ 0 ∷ 0 ∷ 0 ∷ 0 ∷ 0 ∷ [])
    ∷ []
