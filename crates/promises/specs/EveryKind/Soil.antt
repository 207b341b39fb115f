-- An organic soil record: both sides of its limits.
-- Assumes nothing.
use Rattle.std.specs.Prelude.{List, [], ◌∷◌}
use Rattle.codec.specs.Codec.{record_bytes}
use Rattle.grams.specs.Cases.{Row}
use Rattle.promises.specs.Rows.{going, refused, farm, row_after, blank}

abbrev pub soil_limits : List Row
soil_limits =
    -- area: 0..10000000
    row_after farm (record_bytes 7 (0 ∷ [])) (going 2)
    ∷ row_after farm (record_bytes 7 (10000000 ∷ [])) (going 2)
    ∷ row_after farm (record_bytes 7 (10000001 ∷ [])) (refused 1 7 1)
    -- 4: its length is 6, one byte less and one more
    ∷ row_after farm (blank 5 7) (refused 1 4 0)
    ∷ row_after farm (blank 7 7) (refused 1 4 0)
    -- 6: not the first record
    ∷ row_after [] (record_bytes 7 (10 ∷ [])) (refused 0 6 0)
    ∷ []
