-- A farm record of version 2: both sides of its limits.
-- Assumes nothing.
use Rattle.std.specs.Prelude.{List, [], ◌∷◌, replicate}
use Rattle.codec.specs.Table.{last_row}
use Rattle.codec.specs.Codec.{record_bytes}
use Rattle.grams.specs.Cases.{Row}
use Rattle.promises.specs.Rows.{going, refused, farm, row_after}

abbrev pub farm_factors_limits : List Row
farm_factors_limits =
    -- farm number: any
    row_after [] (record_bytes last_row (0 ∷ 2010 ∷ 21 ∷ 310 ∷ [])) (going 1)
    ∷ row_after [] (record_bytes last_row (4294967295 ∷ 2010 ∷ 21 ∷ 310 ∷ [])) (going 1)
    -- year: 1900..2200
    ∷ row_after [] (record_bytes last_row (7 ∷ 1899 ∷ 21 ∷ 310 ∷ [])) (refused 0 7 2)
    ∷ row_after [] (record_bytes last_row (7 ∷ 1900 ∷ 21 ∷ 310 ∷ [])) (going 1)
    ∷ row_after [] (record_bytes last_row (7 ∷ 2200 ∷ 21 ∷ 310 ∷ [])) (going 1)
    ∷ row_after [] (record_bytes last_row (7 ∷ 2201 ∷ 21 ∷ 310 ∷ [])) (refused 0 7 2)
    -- CH4 factor: 1..1000
    ∷ row_after [] (record_bytes last_row (7 ∷ 2010 ∷ 0 ∷ 310 ∷ [])) (refused 0 7 3)
    ∷ row_after [] (record_bytes last_row (7 ∷ 2010 ∷ 1 ∷ 310 ∷ [])) (going 1)
    ∷ row_after [] (record_bytes last_row (7 ∷ 2010 ∷ 1000 ∷ 310 ∷ [])) (going 1)
    ∷ row_after [] (record_bytes last_row (7 ∷ 2010 ∷ 1001 ∷ 310 ∷ [])) (refused 0 7 3)
    -- N2O factor: 1..1000
    ∷ row_after [] (record_bytes last_row (7 ∷ 2010 ∷ 21 ∷ 0 ∷ [])) (refused 0 7 4)
    ∷ row_after [] (record_bytes last_row (7 ∷ 2010 ∷ 21 ∷ 1 ∷ [])) (going 1)
    ∷ row_after [] (record_bytes last_row (7 ∷ 2010 ∷ 21 ∷ 1000 ∷ [])) (going 1)
    ∷ row_after [] (record_bytes last_row (7 ∷ 2010 ∷ 21 ∷ 1001 ∷ [])) (refused 0 7 4)
    -- its bytes, one by one; a second farm record, of either version
    ∷ row_after [] (0 ∷ 12 ∷ 2 ∷ 1 ∷ 0 ∷ 0 ∷ 0 ∷ 7 ∷ 7 ∷ 218 ∷ 0 ∷ 21 ∷ 1 ∷ 54 ∷ []) (going 1)
    ∷ row_after farm (record_bytes last_row (7 ∷ 2010 ∷ 21 ∷ 310 ∷ [])) (refused 1 6 0)
    ∷ row_after (record_bytes last_row (7 ∷ 2010 ∷ 21 ∷ 310 ∷ [])) farm (refused 1 6 0)
    -- 4: its length is 12, one byte less and one more; 9 is that of version 1
    ∷ row_after [] (0 ∷ 9 ∷ 2 ∷ 1 ∷ 0 ∷ 0 ∷ 0 ∷ 7 ∷ 7 ∷ 218 ∷ 1 ∷ []) (refused 0 4 0)
    ∷ row_after [] (0 ∷ 11 ∷ 2 ∷ 1 ∷ replicate 9 0) (refused 0 4 0)
    ∷ row_after [] (0 ∷ 13 ∷ 2 ∷ 1 ∷ replicate 11 0) (refused 0 4 0)
    ∷ []
