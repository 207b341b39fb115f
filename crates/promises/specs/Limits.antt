-- Document 01, "The book" and "Refusal numbers", with document 02's kinds: both sides of every limit of refusals 1 to 12; of each field of each kind
-- the first and the last good value and the ones beyond, in a file for each kind, below EveryKind; here what is no one kind's. A row has some
-- records, what stands behind them, and what the book comes to: by hand from the document, and the second program says the same.
-- Assumes nothing.
use Rattle.std.specs.Prelude.{List, [], ◌∷◌, ◌++◌}
use Rattle.codec.specs.Codec.{record_bytes}
use Rattle.grams.specs.Cases.{Row}
use Rattle.promises.specs.Rows.{nothing, going, closed, refused, farm, cow, sow, row_after, from}
use Rattle.promises.specs.EveryKind.{every_kind_limits, no_kind_lem}
use Rattle.promises.specs.EveryKind.Enteric.{enteric}
use Rattle.promises.specs.EveryKind.Cattle.{nitrogen}

-- length, version and kind (1 to 3)
abbrev pub lengths_and_kinds : List Row
lengths_and_kinds =
    -- 1: length outside 4..26, as soon as two bytes are in
    row_after [] (0 ∷ []) nothing
    ∷ row_after [] (0 ∷ 0 ∷ []) (refused 0 1 0)
    ∷ row_after [] (0 ∷ 3 ∷ []) (refused 0 1 0)
    ∷ row_after [] (0 ∷ 4 ∷ []) nothing
    ∷ row_after [] (0 ∷ 26 ∷ []) nothing
    ∷ row_after [] (0 ∷ 27 ∷ []) (refused 0 1 0)
    ∷ row_after [] (0 ∷ 255 ∷ []) (refused 0 1 0)
    ∷ row_after [] (1 ∷ 4 ∷ []) (refused 0 1 0)
    ∷ row_after farm (0 ∷ 3 ∷ []) (refused 1 1 0)
    ∷ row_after farm (0 ∷ 4 ∷ []) (going 1)
    ∷ row_after farm (0 ∷ 26 ∷ []) (going 1)
    ∷ row_after farm (0 ∷ 27 ∷ []) (refused 1 1 0)
    -- on the last byte of a record, not before
    ∷ row_after farm (0 ∷ 4 ∷ 2 ∷ 9 ∷ 0 ∷ []) (going 1)
    -- 2: neither version 1, nor version 2 of kind 1
    ∷ row_after [] (0 ∷ 9 ∷ 0 ∷ 1 ∷ 0 ∷ 0 ∷ 0 ∷ 7 ∷ 7 ∷ 218 ∷ 1 ∷ []) (refused 0 2 0)
    ∷ row_after [] (0 ∷ 12 ∷ 0 ∷ 1 ∷ 0 ∷ 0 ∷ 0 ∷ 7 ∷ 7 ∷ 218 ∷ 0 ∷ 21 ∷ 1 ∷ 54 ∷ []) (refused 0 2 0)
    ∷ row_after [] (0 ∷ 12 ∷ 3 ∷ 1 ∷ 0 ∷ 0 ∷ 0 ∷ 7 ∷ 7 ∷ 218 ∷ 0 ∷ 21 ∷ 1 ∷ 54 ∷ []) (refused 0 2 0)
    ∷ row_after farm (0 ∷ 4 ∷ 2 ∷ 0 ∷ 0 ∷ 0 ∷ []) (refused 1 2 0)
    ∷ row_after farm (0 ∷ 12 ∷ 2 ∷ 11 ∷ 0 ∷ 0 ∷ 0 ∷ 7 ∷ 7 ∷ 218 ∷ 0 ∷ 21 ∷ 1 ∷ 54 ∷ []) (refused 1 2 0)
    ∷ row_after farm (0 ∷ 6 ∷ 0 ∷ 7 ∷ 0 ∷ 0 ∷ 0 ∷ 10 ∷ []) (refused 1 2 0)
    ∷ row_after farm (0 ∷ 6 ∷ 1 ∷ 7 ∷ 0 ∷ 0 ∷ 0 ∷ 10 ∷ []) (going 2)
    ∷ row_after farm (0 ∷ 6 ∷ 2 ∷ 7 ∷ 0 ∷ 0 ∷ 0 ∷ 10 ∷ []) (refused 1 2 0)
    ∷ row_after farm (0 ∷ 6 ∷ 255 ∷ 7 ∷ 0 ∷ 0 ∷ 0 ∷ 10 ∷ []) (refused 1 2 0)
    -- 3: no kind, whatever kinds there are
    ∷ row_after farm (0 ∷ 6 ∷ 1 ∷ 0 ∷ 0 ∷ 0 ∷ 0 ∷ 10 ∷ []) (refused 1 3 0)
    ∷ row_after farm (0 ∷ 6 ∷ 1 ∷ 255 ∷ 0 ∷ 0 ∷ 0 ∷ 10 ∷ []) (refused 1 3 0)
    ∷ []

-- count, place and days of several kinds (5, 6, 9)
abbrev pub places_and_days : List Row
places_and_days =
    -- 5: 4,096 records already accepted
    from 4095 (record_bytes 7 (10 ∷ [])) (going 4096)
    ∷ from 4096 (record_bytes 7 (10 ∷ [])) (refused 4096 5 0)
    ∷ from 4095 (record_bytes 8 (4095 ∷ [])) (closed 4096)
    ∷ from 4096 (record_bytes 8 (4096 ∷ [])) (refused 4096 5 0)
    -- 6: kinds 6 and 7 do not end a heading; the last heading counts
    ∷ row_after cow (record_bytes 6 (1 ∷ 20 ∷ 30 ∷ []) ++ record_bytes 7 (10 ∷ []) ++ enteric 10) (going 5)
    ∷ row_after cow (record_bytes 2 (2 ∷ 4 ∷ 1 ∷ []) ++ enteric 10) (refused 3 6 0)
    ∷ row_after sow (record_bytes 2 (2 ∷ 3 ∷ 1 ∷ []) ++ enteric 10) (going 4)
    -- 9: each kind for itself, from zero at a new heading
    ∷ row_after cow (enteric 366 ++ nitrogen 366) (going 4)
    ∷ row_after cow (enteric 366 ++ record_bytes 2 (2 ∷ 2 ∷ 1 ∷ []) ++ enteric 366) (going 5)
    ∷ []

-- the order they are tried
abbrev pub first_told : List Row
first_told =
    -- each before the next, where a record breaks two
    row_after [] (0 ∷ 27 ∷ 2 ∷ []) (refused 0 1 0)
    ∷ row_after [] (0 ∷ 5 ∷ 1 ∷ 3 ∷ 0 ∷ 0 ∷ 0 ∷ []) (refused 0 4 0)
    ∷ from 4096 (0 ∷ 5 ∷ 1 ∷ 7 ∷ 0 ∷ 0 ∷ 0 ∷ []) (refused 4096 4 0)
    ∷ from 4096 (enteric 10) (refused 4096 5 0)
    ∷ from 4096 (record_bytes 1 (7 ∷ 2010 ∷ 1 ∷ [])) (refused 4096 5 0)
    ∷ from 4096 (record_bytes 7 (10000001 ∷ [])) (refused 4096 5 0)
    ∷ row_after farm (enteric 0) (refused 1 6 0)
    ∷ row_after farm (record_bytes 1 (7 ∷ 1899 ∷ 3 ∷ [])) (refused 1 6 0)
    ∷ row_after cow (record_bytes 2 (1 ∷ 5 ∷ 20001 ∷ [])) (refused 2 7 2)
    ∷ row_after cow (enteric 366 ++ enteric 367) (refused 3 7 1)
    ∷ row_after cow (nitrogen 366 ++ record_bytes 4 (1 ∷ 0 ∷ 0 ∷ 9 ∷ 9 ∷ 0 ∷ 0 ∷ 0 ∷ 0 ∷ [])) (refused 3 9 0)
    ∷ row_after cow (record_bytes 4 (1 ∷ 0 ∷ 0 ∷ 9 ∷ 9 ∷ 0 ∷ 0 ∷ 0 ∷ 0 ∷ [])) (refused 2 10 0)
    -- of several fields the first
    ∷ row_after farm (record_bytes 2 (0 ∷ 0 ∷ 20001 ∷ [])) (refused 1 7 1)
    ∷ row_after cow (record_bytes 3 (1 ∷ 100001 ∷ 2001 ∷ [])) (refused 2 7 2)
    ∷ row_after sow (record_bytes 5 (10 ∷ 20 ∷ 5001 ∷ 40 ∷ 50 ∷ 60 ∷ 70 ∷ 80 ∷ 90 ∷ 100 ∷ 110 ∷ 10001 ∷ [])) (refused 2 7 3)
    ∷ []

-- all of them
abbrev pub limits : List Row
limits =
    every_kind_limits
    ++ no_kind_lem
    ++ lengths_and_kinds
    ++ places_and_days
    ++ first_told
