-- A grazing record: both sides of its limits, and exact halves of its figures.
-- Assumes nothing.
use Rattle.std.specs.Prelude.{ℕ, List, [], ◌∷◌, ◌++◌}
use Rattle.codec.specs.Codec.{record_bytes}
use Rattle.grams.specs.Cases.{Row, row}
use Rattle.promises.specs.Rows.{going, closed, refused, farm, cow, sow, row_after, blank, given}
use Rattle.promises.specs.EveryKind.Enteric.{enteric}

-- with this fraction
abbrev pub grazing : ℕ → List ℕ
grazing fraction = record_bytes 10 (3 ∷ 1 ∷ 600 ∷ fraction ∷ [])

abbrev pub grazing_limits : List Row
grazing_limits =
    -- region: 1..7
    row_after cow (record_bytes 10 (0 ∷ 2 ∷ 3 ∷ 4 ∷ [])) (refused 2 7 1)
    ∷ row_after cow (record_bytes 10 (1 ∷ 2 ∷ 3 ∷ 4 ∷ [])) (going 3)
    ∷ row_after cow (record_bytes 10 (7 ∷ 2 ∷ 3 ∷ 4 ∷ [])) (going 3)
    ∷ row_after cow (record_bytes 10 (8 ∷ 2 ∷ 3 ∷ 4 ∷ [])) (refused 2 7 1)
    -- column: 1..3
    ∷ row_after cow (record_bytes 10 (1 ∷ 0 ∷ 3 ∷ 4 ∷ [])) (refused 2 7 2)
    ∷ row_after cow (record_bytes 10 (1 ∷ 1 ∷ 3 ∷ 4 ∷ [])) (going 3)
    ∷ row_after cow (record_bytes 10 (1 ∷ 3 ∷ 3 ∷ 4 ∷ [])) (going 3)
    ∷ row_after cow (record_bytes 10 (1 ∷ 4 ∷ 3 ∷ 4 ∷ [])) (refused 2 7 2)
    -- live weight: 0..2000
    ∷ row_after cow (record_bytes 10 (1 ∷ 2 ∷ 0 ∷ 4 ∷ [])) (going 3)
    ∷ row_after cow (record_bytes 10 (1 ∷ 2 ∷ 2000 ∷ 4 ∷ [])) (going 3)
    ∷ row_after cow (record_bytes 10 (1 ∷ 2 ∷ 2001 ∷ 4 ∷ [])) (refused 2 7 3)
    -- fraction: 0..10000
    ∷ row_after cow (record_bytes 10 (1 ∷ 2 ∷ 3 ∷ 0 ∷ [])) (going 3)
    ∷ row_after cow (record_bytes 10 (1 ∷ 2 ∷ 3 ∷ 10000 ∷ [])) (going 3)
    ∷ row_after cow (record_bytes 10 (1 ∷ 2 ∷ 3 ∷ 10001 ∷ [])) (refused 2 7 4)
    -- 4: its length is 8, one byte less and one more
    ∷ row_after cow (blank 7 10) (refused 2 4 0)
    ∷ row_after cow (blank 9 10) (refused 2 4 0)
    -- 6: not the first record, and under a cattle heading
    ∷ row_after [] (grazing 10) (refused 0 6 0)
    ∷ row_after farm (grazing 10) (refused 1 6 0)
    ∷ row_after sow (grazing 10) (refused 2 6 0)
    -- 10: the fractions under a heading: 10000 together pass, one more is 10; each heading for itself; 7 before 10
    ∷ row_after cow (grazing 5000 ++ grazing 5000) (going 4)
    ∷ row_after cow (grazing 5000 ++ grazing 5001) (refused 3 10 0)
    ∷ row_after cow (grazing 10000 ++ grazing 0) (going 4)
    ∷ row_after cow (grazing 10000 ++ grazing 1) (refused 3 10 0)
    ∷ row_after cow (grazing 10000 ++ grazing 10001) (refused 3 7 4)
    ∷ row_after cow (grazing 10000 ++ enteric 366 ++ record_bytes 2 (2 ∷ 3 ∷ 1 ∷ []) ++ grazing 10000) (going 6)
    ∷ row_after cow (grazing 10000 ++ record_bytes 8 (3 ∷ [])) (closed 4)
    ∷ []

-- exact halves
abbrev pub grazing_halves : List Row
grazing_halves =
    -- grazing: 64.5 and 63.5
    row (given 1 10 (5 ∷ 2 ∷ 1 ∷ 500 ∷ [])) (0 ∷ 0 ∷ 0 ∷ 0 ∷ 0 ∷ 64 ∷ [])
    ∷ row (given 1 10 (6 ∷ 2 ∷ 1 ∷ 500 ∷ [])) (0 ∷ 0 ∷ 0 ∷ 0 ∷ 0 ∷ 64 ∷ [])
    ∷ []
