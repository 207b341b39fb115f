-- A book that the law speaks of: that with every kind, its details put in another order under both of its headings. And a book that it does not
-- speak of, since it is refused: "The first of several faults in a refused book may change" (document 02, W14).
-- Assumes nothing.
use Rattle.std.specs.Prelude.{ℕ, List, [], ◌∷◌, ◌++◌, take, drop}
use Rattle.book.specs.WholeRecords.{records_of}
use Rattle.promises.specs.Paper.{opening, enteric, shares}
use Rattle.promises.specs.EveryKind.{every_kind, every_kind_lines}
use Rattle.orders.specs.InOrder.{in_order_lem}

-- ---- every kind of detail

-- the records of the book with every kind: farm and heading; enteric, energy, cattle nitrogen, grazing; a pig heading; pig, soil, tillage; the close
abbrev pub cattle_before : List (List ℕ)
cattle_before = take 2 (records_of every_kind)

abbrev pub cattle_details : List (List ℕ)
cattle_details = take 4 (drop 2 (records_of every_kind))

abbrev pub cattle_behind : List (List ℕ)
cattle_behind = drop 6 (records_of every_kind)

-- grazing first, then cattle nitrogen, then enteric and energy
abbrev pub grazing_first : List ℕ
grazing_first = 3 ∷ 2 ∷ []

-- the book with them so, its bytes record by record
abbrev pub cattle_moved : List ℕ
cattle_moved =
    -- farm 258, year 2024, warming set 2
    (0 ∷ 9 ∷ 1 ∷ 1 ∷ 0 ∷ 0 ∷ 1 ∷ 2 ∷ 7 ∷ 232 ∷ 2 ∷ [])
    -- group 258, milking, 41 head
    ++ (0 ∷ 7 ∷ 1 ∷ 2 ∷ 1 ∷ 2 ∷ 1 ∷ 0 ∷ 41 ∷ [])
    -- grazing: 5, 2, 433, 3700
    ++ (0 ∷ 8 ∷ 1 ∷ 10 ∷ 5 ∷ 2 ∷ 1 ∷ 177 ∷ 14 ∷ 116 ∷ [])
    -- cattle nitrogen: 97, 2113, 1621, 2909, 331, 17, 2300, 6100, 1600
    ++ (0 ∷ 20 ∷ 1 ∷ 4 ∷ 0 ∷ 97 ∷ 8 ∷ 65 ∷ 6 ∷ 85 ∷ 11 ∷ 93 ∷ 1 ∷ 75 ∷ 0 ∷ 17 ∷ 8 ∷ 252 ∷ 23 ∷ 212 ∷ 6 ∷ 64 ∷ [])
    -- enteric: 211, 31417, 653
    ++ (0 ∷ 10 ∷ 1 ∷ 3 ∷ 0 ∷ 211 ∷ 0 ∷ 0 ∷ 122 ∷ 185 ∷ 2 ∷ 141 ∷ [])
    -- energy: 3, 4321, 2709
    ++ (0 ∷ 11 ∷ 1 ∷ 6 ∷ 3 ∷ 0 ∷ 0 ∷ 16 ∷ 225 ∷ 0 ∷ 0 ∷ 10 ∷ 149 ∷ [])
    -- group 515, pig, 307 head
    ++ (0 ∷ 7 ∷ 1 ∷ 2 ∷ 2 ∷ 3 ∷ 4 ∷ 1 ∷ 51 ∷ [])
    -- pig: 103, 219, 1013, 1103, 211, 1811, 907, 223, 251, 1009, 127, 769
    ++ (0 ∷ 26 ∷ 1 ∷ 5 ∷ 0 ∷ 103 ∷ 0 ∷ 219 ∷ 3 ∷ 245 ∷ 4 ∷ 79 ∷ 0 ∷ 211 ∷ 7 ∷ 19 ∷ 3 ∷ 139 ∷ 0 ∷ 223 ∷ 0 ∷ 251 ∷ 3 ∷ 241 ∷ 0 ∷ 127 ∷ 3 ∷ 1 ∷ [])
    -- organic soil: 1234
    ++ (0 ∷ 6 ∷ 1 ∷ 7 ∷ 0 ∷ 0 ∷ 4 ∷ 210 ∷ [])
    -- tillage: 5, 2, 3, 12, 43210
    ++ (0 ∷ 11 ∷ 1 ∷ 9 ∷ 5 ∷ 2 ∷ 3 ∷ 0 ∷ 12 ∷ 0 ∷ 0 ∷ 168 ∷ 202 ∷ [])
    -- close
    ++ (0 ∷ 4 ∷ 1 ∷ 8 ∷ 0 ∷ 10 ∷ [])

-- under the pig heading tillage goes first, then the pig record and soil
abbrev pub pig_before : List (List ℕ)
pig_before = take 7 (records_of cattle_moved)

abbrev pub pig_details : List (List ℕ)
pig_details = take 3 (drop 7 (records_of cattle_moved))

abbrev pub pig_behind : List (List ℕ)
pig_behind = drop 10 (records_of cattle_moved)

abbrev pub tillage_first : List ℕ
tillage_first = 2 ∷ []

-- the lines of the book with both runs so: those of the book with every kind, the first four in the order of their records, the subtotal of group
-- 258, the three of the pig heading in theirs, the subtotal of group 515 and the total
abbrev pub moved_lines_lem : List (List ℕ)
moved_lines_lem =
    in_order_lem grazing_first (take 4 every_kind_lines)
    ++ (take 1 (drop 4 every_kind_lines) ++ (in_order_lem tillage_first (take 3 (drop 5 every_kind_lines)) ++ drop 8 every_kind_lines))

-- ---- two faults

-- an enteric record of no days (7, field 1), and cattle shares that are 9999 together (10)
abbrev pub days_first : List ℕ
days_first = opening ++ (enteric 0 ++ shares 7999)

abbrev pub shares_first : List ℕ
shares_first = opening ++ (shares 7999 ++ enteric 0)
