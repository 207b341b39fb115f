-- A heading: both sides of its limits.
-- Assumes nothing.
use Rattle.std.specs.Prelude.{List, [], ◌∷◌, ◌++◌}
use Rattle.codec.specs.Codec.{record_bytes}
use Rattle.grams.specs.Cases.{Row}
use Rattle.promises.specs.Rows.{going, refused, farm, cow, row_after, blank}

abbrev pub heading_limits : List Row
heading_limits =
    -- group: 1..65535
    row_after farm (record_bytes 2 (0 ∷ 1 ∷ 1 ∷ [])) (refused 1 7 1)
    ∷ row_after farm (record_bytes 2 (1 ∷ 1 ∷ 1 ∷ [])) (going 2)
    ∷ row_after farm (record_bytes 2 (65535 ∷ 1 ∷ 1 ∷ [])) (going 2)
    -- class: 1..4
    ∷ row_after farm (record_bytes 2 (1 ∷ 0 ∷ 1 ∷ [])) (refused 1 7 2)
    ∷ row_after farm (record_bytes 2 (1 ∷ 1 ∷ 1 ∷ [])) (going 2)
    ∷ row_after farm (record_bytes 2 (1 ∷ 4 ∷ 1 ∷ [])) (going 2)
    ∷ row_after farm (record_bytes 2 (1 ∷ 5 ∷ 1 ∷ [])) (refused 1 7 2)
    -- head: 0..20000
    ∷ row_after farm (record_bytes 2 (1 ∷ 1 ∷ 0 ∷ [])) (going 2)
    ∷ row_after farm (record_bytes 2 (1 ∷ 1 ∷ 20000 ∷ [])) (going 2)
    ∷ row_after farm (record_bytes 2 (1 ∷ 1 ∷ 20001 ∷ [])) (refused 1 7 3)
    -- 4: its length is 7, one byte less and one more
    ∷ row_after farm (blank 6 2) (refused 1 4 0)
    ∷ row_after farm (blank 8 2) (refused 1 4 0)
    -- 6: not the first record
    ∷ row_after [] (record_bytes 2 (1 ∷ 1 ∷ 1 ∷ [])) (refused 0 6 0)
    -- 8: group not above the last
    ∷ row_after cow (record_bytes 2 (1 ∷ 2 ∷ 5 ∷ [])) (refused 2 8 0)
    ∷ row_after cow (record_bytes 2 (2 ∷ 2 ∷ 5 ∷ [])) (going 3)
    ∷ row_after cow (record_bytes 2 (65535 ∷ 2 ∷ 5 ∷ [])) (going 3)
    ∷ row_after farm (record_bytes 2 (500 ∷ 1 ∷ 1 ∷ []) ++ record_bytes 2 (499 ∷ 1 ∷ 1 ∷ [])) (refused 2 8 0)
    ∷ row_after farm (record_bytes 2 (65535 ∷ 1 ∷ 1 ∷ []) ++ record_bytes 2 (65535 ∷ 1 ∷ 1 ∷ [])) (refused 2 8 0)
    ∷ row_after farm (record_bytes 2 (65534 ∷ 1 ∷ 1 ∷ []) ++ record_bytes 2 (65535 ∷ 1 ∷ 1 ∷ [])) (going 3)
    ∷ []
