-- An energy record: both sides of its limits, and exact halves of its figures.
-- Assumes nothing.
use Rattle.std.specs.Prelude.{List, [], ◌∷◌}
use Rattle.codec.specs.Codec.{record_bytes}
use Rattle.grams.specs.Cases.{Row, row}
use Rattle.promises.specs.Rows.{going, refused, farm, row_after, blank, given}

abbrev pub energy_limits : List Row
energy_limits =
    -- source: 1..8
    row_after farm (record_bytes 6 (0 ∷ 20 ∷ 30 ∷ [])) (refused 1 7 1)
    ∷ row_after farm (record_bytes 6 (1 ∷ 20 ∷ 30 ∷ [])) (going 2)
    ∷ row_after farm (record_bytes 6 (8 ∷ 20 ∷ 30 ∷ [])) (going 2)
    ∷ row_after farm (record_bytes 6 (9 ∷ 20 ∷ 30 ∷ [])) (refused 1 7 1)
    -- amount: 0..10000000
    ∷ row_after farm (record_bytes 6 (1 ∷ 0 ∷ 30 ∷ [])) (going 2)
    ∷ row_after farm (record_bytes 6 (1 ∷ 10000000 ∷ 30 ∷ [])) (going 2)
    ∷ row_after farm (record_bytes 6 (1 ∷ 10000001 ∷ 30 ∷ [])) (refused 1 7 2)
    -- factor: 0..10000000
    ∷ row_after farm (record_bytes 6 (1 ∷ 20 ∷ 0 ∷ [])) (going 2)
    ∷ row_after farm (record_bytes 6 (1 ∷ 20 ∷ 10000000 ∷ [])) (going 2)
    ∷ row_after farm (record_bytes 6 (1 ∷ 20 ∷ 10000001 ∷ [])) (refused 1 7 3)
    -- 4: its length is 11, one byte less and one more
    ∷ row_after farm (blank 10 6) (refused 1 4 0)
    ∷ row_after farm (blank 12 6) (refused 1 4 0)
    -- 6: not the first record
    ∷ row_after [] (record_bytes 6 (1 ∷ 20 ∷ 30 ∷ [])) (refused 0 6 0)
    ∷ []

-- exact halves
abbrev pub energy_halves : List Row
energy_halves =
    -- energy: 0.5 and 1.5
    row (given 1 6 (1 ∷ 5 ∷ 1 ∷ [])) (0 ∷ 0 ∷ 0 ∷ 0 ∷ 0 ∷ 0 ∷ [])
    ∷ row (given 1 6 (1 ∷ 15 ∷ 1 ∷ [])) (0 ∷ 0 ∷ 2 ∷ 0 ∷ 0 ∷ 0 ∷ [])
    ∷ []
