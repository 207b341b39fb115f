-- A farm record of version 1: both sides of its limits.
-- Assumes nothing.
use Rattle.std.specs.Prelude.{List, [], ◌∷◌}
use Rattle.codec.specs.Codec.{record_bytes}
use Rattle.grams.specs.Cases.{Row}
use Rattle.promises.specs.Rows.{going, refused, farm, cow, row_after, blank}

abbrev pub farm_limits : List Row
farm_limits =
    -- farm number: any
    row_after [] (record_bytes 1 (0 ∷ 2010 ∷ 1 ∷ [])) (going 1)
    ∷ row_after [] (record_bytes 1 (4294967295 ∷ 2010 ∷ 1 ∷ [])) (going 1)
    -- year: 1900..2200
    ∷ row_after [] (record_bytes 1 (7 ∷ 1899 ∷ 1 ∷ [])) (refused 0 7 2)
    ∷ row_after [] (record_bytes 1 (7 ∷ 1900 ∷ 1 ∷ [])) (going 1)
    ∷ row_after [] (record_bytes 1 (7 ∷ 2200 ∷ 1 ∷ [])) (going 1)
    ∷ row_after [] (record_bytes 1 (7 ∷ 2201 ∷ 1 ∷ [])) (refused 0 7 2)
    -- warming set: 1..2
    ∷ row_after [] (record_bytes 1 (7 ∷ 2010 ∷ 0 ∷ [])) (refused 0 7 3)
    ∷ row_after [] (record_bytes 1 (7 ∷ 2010 ∷ 1 ∷ [])) (going 1)
    ∷ row_after [] (record_bytes 1 (7 ∷ 2010 ∷ 2 ∷ [])) (going 1)
    ∷ row_after [] (record_bytes 1 (7 ∷ 2010 ∷ 3 ∷ [])) (refused 0 7 3)
    -- 4: its length is 9; 12 is that of version 2
    ∷ row_after [] (blank 8 1) (refused 0 4 0)
    ∷ row_after [] (blank 10 1) (refused 0 4 0)
    ∷ row_after [] (blank 12 1) (refused 0 4 0)
    -- 6: the first record is kind 1 and no other is
    ∷ row_after farm (record_bytes 1 (7 ∷ 2010 ∷ 1 ∷ [])) (refused 1 6 0)
    ∷ row_after cow (record_bytes 1 (7 ∷ 2010 ∷ 1 ∷ [])) (refused 2 6 0)
    ∷ []
