-- The close: both sides of its limits.
-- Assumes nothing.
use Rattle.std.specs.Prelude.{List, [], ◌∷◌}
use Rattle.codec.specs.Codec.{record_bytes}
use Rattle.grams.specs.Cases.{Row}
use Rattle.promises.specs.Rows.{closed, refused, farm, cow, row_after, blank}

abbrev pub close_limits : List Row
close_limits =
    -- 4: its length is 4, one byte more; one less is refusal 1
    row_after farm (blank 3 8) (refused 1 1 0)
    ∷ row_after farm (blank 5 8) (refused 1 4 0)
    -- 6: not the first record
    ∷ row_after [] (record_bytes 8 (0 ∷ [])) (refused 0 6 0)
    -- 12: close count wrong
    ∷ row_after farm (record_bytes 8 (0 ∷ [])) (refused 1 12 0)
    ∷ row_after farm (record_bytes 8 (1 ∷ [])) (closed 2)
    ∷ row_after farm (record_bytes 8 (2 ∷ [])) (refused 1 12 0)
    ∷ row_after cow (record_bytes 8 (1 ∷ [])) (refused 2 12 0)
    ∷ row_after cow (record_bytes 8 (2 ∷ [])) (closed 3)
    ∷ row_after cow (record_bytes 8 (3 ∷ [])) (refused 2 12 0)
    ∷ row_after cow (record_bytes 8 (65535 ∷ [])) (refused 2 12 0)
    ∷ []
