-- A pig record: both sides of its limits, and exact halves of its figures.
-- Assumes nothing.
use Rattle.std.specs.Prelude.{ℕ, List, [], ◌∷◌, ◌++◌}
use Rattle.codec.specs.Codec.{record_bytes}
use Rattle.grams.specs.Cases.{Row, row}
use Rattle.promises.specs.Rows.{going, refused, farm, sow, row_after, blank, given}

-- of so many days
abbrev pub pig : ℕ → List ℕ
pig days = record_bytes 5 (days ∷ 20 ∷ 30 ∷ 40 ∷ 50 ∷ 60 ∷ 70 ∷ 80 ∷ 90 ∷ 100 ∷ 110 ∷ 120 ∷ [])

abbrev pub pig_limits : List Row
pig_limits =
    -- days: 1..366
    row_after sow (pig 0) (refused 2 7 1)
    ∷ row_after sow (pig 1) (going 3)
    ∷ row_after sow (pig 366) (going 3)
    ∷ row_after sow (pig 367) (refused 2 7 1)
    -- feed: 0..1000
    ∷ row_after sow (record_bytes 5 (10 ∷ 0 ∷ 30 ∷ 40 ∷ 50 ∷ 60 ∷ 70 ∷ 80 ∷ 90 ∷ 100 ∷ 110 ∷ 120 ∷ [])) (going 3)
    ∷ row_after sow (record_bytes 5 (10 ∷ 1000 ∷ 30 ∷ 40 ∷ 50 ∷ 60 ∷ 70 ∷ 80 ∷ 90 ∷ 100 ∷ 110 ∷ 120 ∷ [])) (going 3)
    ∷ row_after sow (record_bytes 5 (10 ∷ 1001 ∷ 30 ∷ 40 ∷ 50 ∷ 60 ∷ 70 ∷ 80 ∷ 90 ∷ 100 ∷ 110 ∷ 120 ∷ [])) (refused 2 7 2)
    -- VS excretion: 0..5000
    ∷ row_after sow (record_bytes 5 (10 ∷ 20 ∷ 0 ∷ 40 ∷ 50 ∷ 60 ∷ 70 ∷ 80 ∷ 90 ∷ 100 ∷ 110 ∷ 120 ∷ [])) (going 3)
    ∷ row_after sow (record_bytes 5 (10 ∷ 20 ∷ 5000 ∷ 40 ∷ 50 ∷ 60 ∷ 70 ∷ 80 ∷ 90 ∷ 100 ∷ 110 ∷ 120 ∷ [])) (going 3)
    ∷ row_after sow (record_bytes 5 (10 ∷ 20 ∷ 5001 ∷ 40 ∷ 50 ∷ 60 ∷ 70 ∷ 80 ∷ 90 ∷ 100 ∷ 110 ∷ 120 ∷ [])) (refused 2 7 3)
    -- VS factor: 0..2000
    ∷ row_after sow (record_bytes 5 (10 ∷ 20 ∷ 30 ∷ 0 ∷ 50 ∷ 60 ∷ 70 ∷ 80 ∷ 90 ∷ 100 ∷ 110 ∷ 120 ∷ [])) (going 3)
    ∷ row_after sow (record_bytes 5 (10 ∷ 20 ∷ 30 ∷ 2000 ∷ 50 ∷ 60 ∷ 70 ∷ 80 ∷ 90 ∷ 100 ∷ 110 ∷ 120 ∷ [])) (going 3)
    ∷ row_after sow (record_bytes 5 (10 ∷ 20 ∷ 30 ∷ 2001 ∷ 50 ∷ 60 ∷ 70 ∷ 80 ∷ 90 ∷ 100 ∷ 110 ∷ 120 ∷ [])) (refused 2 7 4)
    -- MCF: 0..1000
    ∷ row_after sow (record_bytes 5 (10 ∷ 20 ∷ 30 ∷ 40 ∷ 0 ∷ 60 ∷ 70 ∷ 80 ∷ 90 ∷ 100 ∷ 110 ∷ 120 ∷ [])) (going 3)
    ∷ row_after sow (record_bytes 5 (10 ∷ 20 ∷ 30 ∷ 40 ∷ 1000 ∷ 60 ∷ 70 ∷ 80 ∷ 90 ∷ 100 ∷ 110 ∷ 120 ∷ [])) (going 3)
    ∷ row_after sow (record_bytes 5 (10 ∷ 20 ∷ 30 ∷ 40 ∷ 1001 ∷ 60 ∷ 70 ∷ 80 ∷ 90 ∷ 100 ∷ 110 ∷ 120 ∷ [])) (refused 2 7 5)
    -- protein: 0..4000
    ∷ row_after sow (record_bytes 5 (10 ∷ 20 ∷ 30 ∷ 40 ∷ 50 ∷ 0 ∷ 70 ∷ 80 ∷ 90 ∷ 100 ∷ 110 ∷ 120 ∷ [])) (going 3)
    ∷ row_after sow (record_bytes 5 (10 ∷ 20 ∷ 30 ∷ 40 ∷ 50 ∷ 4000 ∷ 70 ∷ 80 ∷ 90 ∷ 100 ∷ 110 ∷ 120 ∷ [])) (going 3)
    ∷ row_after sow (record_bytes 5 (10 ∷ 20 ∷ 30 ∷ 40 ∷ 50 ∷ 4001 ∷ 70 ∷ 80 ∷ 90 ∷ 100 ∷ 110 ∷ 120 ∷ [])) (refused 2 7 6)
    -- N factor: 0..2000
    ∷ row_after sow (record_bytes 5 (10 ∷ 20 ∷ 30 ∷ 40 ∷ 50 ∷ 60 ∷ 0 ∷ 80 ∷ 90 ∷ 100 ∷ 110 ∷ 120 ∷ [])) (going 3)
    ∷ row_after sow (record_bytes 5 (10 ∷ 20 ∷ 30 ∷ 40 ∷ 50 ∷ 60 ∷ 2000 ∷ 80 ∷ 90 ∷ 100 ∷ 110 ∷ 120 ∷ [])) (going 3)
    ∷ row_after sow (record_bytes 5 (10 ∷ 20 ∷ 30 ∷ 40 ∷ 50 ∷ 60 ∷ 2001 ∷ 80 ∷ 90 ∷ 100 ∷ 110 ∷ 120 ∷ [])) (refused 2 7 7)
    -- direct EF: 0..10000
    ∷ row_after sow (record_bytes 5 (10 ∷ 20 ∷ 30 ∷ 40 ∷ 50 ∷ 60 ∷ 70 ∷ 0 ∷ 90 ∷ 100 ∷ 110 ∷ 120 ∷ [])) (going 3)
    ∷ row_after sow (record_bytes 5 (10 ∷ 20 ∷ 30 ∷ 40 ∷ 50 ∷ 60 ∷ 70 ∷ 10000 ∷ 90 ∷ 100 ∷ 110 ∷ 120 ∷ [])) (going 3)
    ∷ row_after sow (record_bytes 5 (10 ∷ 20 ∷ 30 ∷ 40 ∷ 50 ∷ 60 ∷ 70 ∷ 10001 ∷ 90 ∷ 100 ∷ 110 ∷ 120 ∷ [])) (refused 2 7 8)
    -- volatilised part: 0..1000
    ∷ row_after sow (record_bytes 5 (10 ∷ 20 ∷ 30 ∷ 40 ∷ 50 ∷ 60 ∷ 70 ∷ 80 ∷ 0 ∷ 100 ∷ 0 ∷ 120 ∷ [])) (going 3)
    ∷ row_after sow (record_bytes 5 (10 ∷ 20 ∷ 30 ∷ 40 ∷ 50 ∷ 60 ∷ 70 ∷ 80 ∷ 1000 ∷ 100 ∷ 0 ∷ 120 ∷ [])) (going 3)
    ∷ row_after sow (record_bytes 5 (10 ∷ 20 ∷ 30 ∷ 40 ∷ 50 ∷ 60 ∷ 70 ∷ 80 ∷ 1001 ∷ 100 ∷ 0 ∷ 120 ∷ [])) (refused 2 7 9)
    -- its EF: 0..10000
    ∷ row_after sow (record_bytes 5 (10 ∷ 20 ∷ 30 ∷ 40 ∷ 50 ∷ 60 ∷ 70 ∷ 80 ∷ 90 ∷ 0 ∷ 110 ∷ 120 ∷ [])) (going 3)
    ∷ row_after sow (record_bytes 5 (10 ∷ 20 ∷ 30 ∷ 40 ∷ 50 ∷ 60 ∷ 70 ∷ 80 ∷ 90 ∷ 10000 ∷ 110 ∷ 120 ∷ [])) (going 3)
    ∷ row_after sow (record_bytes 5 (10 ∷ 20 ∷ 30 ∷ 40 ∷ 50 ∷ 60 ∷ 70 ∷ 80 ∷ 90 ∷ 10001 ∷ 110 ∷ 120 ∷ [])) (refused 2 7 10)
    -- leached part: 0..1000
    ∷ row_after sow (record_bytes 5 (10 ∷ 20 ∷ 30 ∷ 40 ∷ 50 ∷ 60 ∷ 70 ∷ 80 ∷ 0 ∷ 100 ∷ 0 ∷ 120 ∷ [])) (going 3)
    ∷ row_after sow (record_bytes 5 (10 ∷ 20 ∷ 30 ∷ 40 ∷ 50 ∷ 60 ∷ 70 ∷ 80 ∷ 0 ∷ 100 ∷ 1000 ∷ 120 ∷ [])) (going 3)
    ∷ row_after sow (record_bytes 5 (10 ∷ 20 ∷ 30 ∷ 40 ∷ 50 ∷ 60 ∷ 70 ∷ 80 ∷ 0 ∷ 100 ∷ 1001 ∷ 120 ∷ [])) (refused 2 7 11)
    -- its EF: 0..10000
    ∷ row_after sow (record_bytes 5 (10 ∷ 20 ∷ 30 ∷ 40 ∷ 50 ∷ 60 ∷ 70 ∷ 80 ∷ 90 ∷ 100 ∷ 110 ∷ 0 ∷ [])) (going 3)
    ∷ row_after sow (record_bytes 5 (10 ∷ 20 ∷ 30 ∷ 40 ∷ 50 ∷ 60 ∷ 70 ∷ 80 ∷ 90 ∷ 100 ∷ 110 ∷ 10000 ∷ [])) (going 3)
    ∷ row_after sow (record_bytes 5 (10 ∷ 20 ∷ 30 ∷ 40 ∷ 50 ∷ 60 ∷ 70 ∷ 80 ∷ 90 ∷ 100 ∷ 110 ∷ 10001 ∷ [])) (refused 2 7 12)
    -- 4: its length is 26, one byte less; one more is refusal 1
    ∷ row_after sow (blank 25 5) (refused 2 4 0)
    ∷ row_after sow (blank 27 5) (refused 2 1 0)
    -- 6: not the first record, and under a pig heading
    ∷ row_after [] (pig 10) (refused 0 6 0)
    ∷ row_after farm (pig 10) (refused 1 6 0)
    ∷ row_after farm (record_bytes 2 (1 ∷ 1 ∷ 1 ∷ []) ++ pig 10) (refused 2 6 0)
    ∷ row_after farm (record_bytes 2 (1 ∷ 2 ∷ 1 ∷ []) ++ pig 10) (refused 2 6 0)
    ∷ row_after farm (record_bytes 2 (1 ∷ 3 ∷ 1 ∷ []) ++ pig 10) (refused 2 6 0)
    ∷ row_after farm (record_bytes 2 (1 ∷ 4 ∷ 1 ∷ []) ++ pig 10) (going 3)
    -- 9: days over 366 with this record
    ∷ row_after sow (pig 200 ++ pig 166) (going 4)
    ∷ row_after sow (pig 200 ++ pig 167) (refused 3 9 0)
    ∷ row_after sow (pig 366 ++ pig 1) (refused 3 9 0)
    -- 10: parts over 1000 together
    ∷ row_after sow (record_bytes 5 (10 ∷ 20 ∷ 30 ∷ 40 ∷ 50 ∷ 60 ∷ 70 ∷ 80 ∷ 600 ∷ 100 ∷ 400 ∷ 120 ∷ [])) (going 3)
    ∷ row_after sow (record_bytes 5 (10 ∷ 20 ∷ 30 ∷ 40 ∷ 50 ∷ 60 ∷ 70 ∷ 80 ∷ 600 ∷ 100 ∷ 401 ∷ 120 ∷ [])) (refused 2 10 0)
    ∷ row_after sow (record_bytes 5 (10 ∷ 20 ∷ 30 ∷ 40 ∷ 50 ∷ 60 ∷ 70 ∷ 80 ∷ 601 ∷ 100 ∷ 400 ∷ 120 ∷ [])) (refused 2 10 0)
    ∷ row_after sow (record_bytes 5 (10 ∷ 20 ∷ 30 ∷ 40 ∷ 50 ∷ 60 ∷ 70 ∷ 80 ∷ 1000 ∷ 100 ∷ 0 ∷ 120 ∷ [])) (going 3)
    ∷ row_after sow (record_bytes 5 (10 ∷ 20 ∷ 30 ∷ 40 ∷ 50 ∷ 60 ∷ 70 ∷ 80 ∷ 1000 ∷ 100 ∷ 1 ∷ 120 ∷ [])) (refused 2 10 0)
    ∷ row_after sow (record_bytes 5 (10 ∷ 20 ∷ 30 ∷ 40 ∷ 50 ∷ 60 ∷ 70 ∷ 80 ∷ 0 ∷ 100 ∷ 1000 ∷ 120 ∷ [])) (going 3)
    ∷ row_after sow (record_bytes 5 (10 ∷ 20 ∷ 30 ∷ 40 ∷ 50 ∷ 60 ∷ 70 ∷ 80 ∷ 1 ∷ 100 ∷ 1000 ∷ 120 ∷ [])) (refused 2 10 0)
    ∷ []

-- exact halves
abbrev pub pig_halves : List Row
pig_halves =
    -- pig V: 0.5 and 1.5
    row (given 20000 5 (366 ∷ 1 ∷ 500 ∷ 1 ∷ 1000 ∷ 0 ∷ 0 ∷ 0 ∷ 0 ∷ 0 ∷ 0 ∷ 0 ∷ [])) (0 ∷ 0 ∷ 0 ∷ 0 ∷ 0 ∷ 0 ∷ [])
    ∷ row (given 20000 5 (366 ∷ 3 ∷ 500 ∷ 1 ∷ 1000 ∷ 0 ∷ 0 ∷ 0 ∷ 0 ∷ 0 ∷ 0 ∷ 0 ∷ [])) (4708 ∷ 0 ∷ 0 ∷ 0 ∷ 0 ∷ 0 ∷ [])
    -- pig CH4: 100.5 and 301.5
    ∷ row (given 3125 5 (100 ∷ 1000 ∷ 1 ∷ 1 ∷ 1000 ∷ 0 ∷ 0 ∷ 0 ∷ 0 ∷ 0 ∷ 0 ∷ 0 ∷ [])) (100 ∷ 0 ∷ 0 ∷ 0 ∷ 0 ∷ 0 ∷ [])
    ∷ row (given 3125 5 (300 ∷ 1000 ∷ 1 ∷ 1 ∷ 1000 ∷ 0 ∷ 0 ∷ 0 ∷ 0 ∷ 0 ∷ 0 ∷ 0 ∷ [])) (302 ∷ 0 ∷ 0 ∷ 0 ∷ 0 ∷ 0 ∷ [])
    -- pig excreted: 10.5 and 3.5
    ∷ row (given 1 5 (3 ∷ 1000 ∷ 0 ∷ 0 ∷ 0 ∷ 3125 ∷ 10 ∷ 0 ∷ 0 ∷ 0 ∷ 0 ∷ 0 ∷ [])) (0 ∷ 0 ∷ 0 ∷ 10 ∷ 10 ∷ 0 ∷ [])
    ∷ row (given 1 5 (1 ∷ 1000 ∷ 0 ∷ 0 ∷ 0 ∷ 3125 ∷ 10 ∷ 0 ∷ 0 ∷ 0 ∷ 0 ∷ 0 ∷ [])) (0 ∷ 0 ∷ 0 ∷ 4 ∷ 4 ∷ 0 ∷ [])
    -- pig direct N2O: 16.5 and 5.5
    ∷ row (given 1 5 (1 ∷ 1000 ∷ 0 ∷ 0 ∷ 0 ∷ 3125 ∷ 1000 ∷ 3000 ∷ 0 ∷ 0 ∷ 0 ∷ 0 ∷ [])) (0 ∷ 16 ∷ 0 ∷ 350 ∷ 350 ∷ 0 ∷ [])
    ∷ row (given 1 5 (1 ∷ 1000 ∷ 0 ∷ 0 ∷ 0 ∷ 3125 ∷ 1000 ∷ 1000 ∷ 0 ∷ 0 ∷ 0 ∷ 0 ∷ [])) (0 ∷ 6 ∷ 0 ∷ 350 ∷ 350 ∷ 0 ∷ [])
    -- pig indirect N2O: 16.5 and 5.5
    ∷ row (given 1 5 (1 ∷ 1000 ∷ 0 ∷ 0 ∷ 0 ∷ 3125 ∷ 1000 ∷ 0 ∷ 200 ∷ 10000 ∷ 100 ∷ 10000 ∷ [])) (0 ∷ 16 ∷ 0 ∷ 350 ∷ 245 ∷ 0 ∷ [])
    ∷ row (given 1 5 (1 ∷ 1000 ∷ 0 ∷ 0 ∷ 0 ∷ 3125 ∷ 1000 ∷ 0 ∷ 100 ∷ 10000 ∷ 0 ∷ 0 ∷ [])) (0 ∷ 6 ∷ 0 ∷ 350 ∷ 315 ∷ 0 ∷ [])
    -- pig land: 0.5 and 1.5
    ∷ row (given 1 5 (1 ∷ 100 ∷ 0 ∷ 0 ∷ 0 ∷ 100 ∷ 1000 ∷ 0 ∷ 250 ∷ 0 ∷ 250 ∷ 0 ∷ [])) (0 ∷ 0 ∷ 0 ∷ 1 ∷ 0 ∷ 0 ∷ [])
    ∷ row (given 3 5 (1 ∷ 100 ∷ 0 ∷ 0 ∷ 0 ∷ 100 ∷ 1000 ∷ 0 ∷ 250 ∷ 0 ∷ 250 ∷ 0 ∷ [])) (0 ∷ 0 ∷ 0 ∷ 3 ∷ 2 ∷ 0 ∷ [])
    ∷ []
