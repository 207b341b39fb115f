-- Document 01, "Figures to meet": the cases P1 to P12 as one table, with P6 (as document 02, W3, changes it) and P7 in their parts; the sample
-- book, and a book that closes below zero.
-- Assumes nothing.
use Rattle.std.specs.Prelude.{ℕ, ◌-◌, List, [], ◌∷◌, ◌++◌}
use Rattle.codec.specs.Codec.{record_bytes}
use Rattle.line_bytes.specs.Lines.{line_bytes_lem, total_bytes}
use Rattle.grams.specs.Cattle as cattle
use Rattle.grams.specs.Pig as pig
use Rattle.grams.specs.declared.cattle.CattleRation.{CattleRation}
use Rattle.grams.specs.declared.pig.PigRation.{PigRation}
use Rattle.grams.specs.Cases.{Row, row, cases}
use Rattle.account.specs.Figures.{cattle_ration, pig_ration}
use Rattle.account.specs.declared.Account.{Account}
use Rattle.book.specs.State.{no_record_yet}
use Rattle.book.specs.Run.{run}
use Rattle.book.specs.Way.{Part}

-- what a book has come to: stage, records accepted, and the refusal's code, record number and field
abbrev pub verdict_of : Account → List ℕ
verdict_of a = a.stage ∷ a.records ∷ a.refusal.code ∷ a.refusal.accepted ∷ a.refusal.field ∷ []

abbrev pub verdict : List ℕ → List ℕ
verdict xs = verdict_of (run no_record_yet xs).state.account

-- a farm and one milking cow
abbrev pub opening : List ℕ
opening = record_bytes 1 (7 ∷ 2010 ∷ 1 ∷ []) ++ record_bytes 2 (1 ∷ 1 ∷ 1 ∷ [])

-- an enteric record of so many days
abbrev pub enteric : ℕ → List ℕ
enteric days = record_bytes 3 (days ∷ 30000 ∷ 650 ∷ [])

-- a cattle nitrogen record with a liquid share, beside a solid one of 2000
abbrev pub shares : ℕ → List ℕ
shares liquid = record_bytes 4 (365 ∷ 2000 ∷ 1600 ∷ 3000 ∷ 320 ∷ 0 ∷ 2000 ∷ liquid ∷ 0 ∷ [])

-- P6's record and P7's, by their values
abbrev pub p6 : CattleRation
p6 = cattle_ration (365 ∷ 2000 ∷ 1600 ∷ 3000 ∷ 320 ∷ 0 ∷ 2000 ∷ 8000 ∷ 0 ∷ [])

abbrev pub p7 : PigRation
p7 = pig_ration (100 ∷ 200 ∷ 1000 ∷ 1000 ∷ 200 ∷ 1800 ∷ 1000 ∷ 200 ∷ 250 ∷ 1000 ∷ 0 ∷ 0 ∷ [])

-- P6 with 10 head and P7 with 100, in parts. P6: X, excreted, direct and indirect N2O; P7: V, CH4, N, direct and indirect N2O, land
abbrev pub parts : List Row
parts =
    row ((cattle.fed_of p6 - cattle.kept_of p6) ∷ []) (361280000 ∷ [])
    ∷ row (cattle.excreted_of 361280000 10 365 ∷ []) (1318672 ∷ [])
    ∷ row ((cattle.direct_of 1318672 2000 8000).0 ∷ (cattle.indirect_of 1318672 2000 8000).0 ∷ []) (16370 ∷ 12392 ∷ [])
    ∷ row (pig.record_solids p7 ∷ pig.ch4_of 200000 200 100 100 ∷ []) (200000 ∷ 128640 ∷ [])
    ∷ row (pig.record_nitrogen p7 100 ∷ []) (403200 ∷ [])
    ∷ row ((pig.direct_of 403200 200).0 ∷ (pig.indirect_of 403200 250 1000 0 0).0 ∷ []) (1267 ∷ 1584 ∷ [])
    ∷ row (pig.land_of 403200 250 0 ∷ []) (302400 ∷ [])
    ∷ []

-- P1 to P9, then P10: days 366 passes, 0 is refusal 7 field 1; P11: shares 10000 pass, 9999 is 10; P12: length 3 and 27 are 1
abbrev pub paper : List Row
paper =
    cases
    ++ parts
    ++ row (verdict (opening ++ enteric 366)) (1 ∷ 3 ∷ 0 ∷ 0 ∷ 0 ∷ [])
    ∷ row (verdict (opening ++ enteric 0)) (3 ∷ 2 ∷ 7 ∷ 2 ∷ 1 ∷ [])
    ∷ row (verdict (opening ++ shares 8000)) (1 ∷ 3 ∷ 0 ∷ 0 ∷ 0 ∷ [])
    ∷ row (verdict (opening ++ shares 7999)) (3 ∷ 2 ∷ 10 ∷ 2 ∷ 0 ∷ [])
    ∷ row (verdict (0 ∷ 3 ∷ [])) (3 ∷ 0 ∷ 1 ∷ 0 ∷ 0 ∷ [])
    ∷ row (verdict (0 ∷ 27 ∷ [])) (3 ∷ 0 ∷ 1 ∷ 0 ∷ 0 ∷ [])
    ∷ []

-- the sample book: its bytes as document 01 prints them, record by record
abbrev pub sample : List ℕ
sample =
    (0 ∷ 9 ∷ 1 ∷ 1 ∷ 0 ∷ 0 ∷ 0 ∷ 7 ∷ 7 ∷ 218 ∷ 1 ∷ [])
    ++ (0 ∷ 7 ∷ 1 ∷ 2 ∷ 0 ∷ 12 ∷ 1 ∷ 0 ∷ 40 ∷ [])
    ++ (0 ∷ 10 ∷ 1 ∷ 3 ∷ 0 ∷ 31 ∷ 0 ∷ 0 ∷ 117 ∷ 48 ∷ 2 ∷ 138 ∷ [])
    ++ (0 ∷ 11 ∷ 1 ∷ 6 ∷ 1 ∷ 0 ∷ 0 ∷ 0 ∷ 125 ∷ 0 ∷ 1 ∷ 17 ∷ 112 ∷ [])
    ++ (0 ∷ 10 ∷ 1 ∷ 3 ∷ 0 ∷ 28 ∷ 0 ∷ 0 ∷ 117 ∷ 48 ∷ 2 ∷ 138 ∷ [])
    ++ (0 ∷ 4 ∷ 1 ∷ 8 ∷ 0 ∷ 5 ∷ [])

-- its lines, the subtotal of group 12 before the total
abbrev pub sample_lines : List (List ℕ)
sample_lines =
    line_bytes_lem 3 12 (434501 ∷ 0 ∷ 0 ∷ 0 ∷ 0 ∷ 0 ∷ [])
    ∷ line_bytes_lem 6 0 (0 ∷ 0 ∷ 875000 ∷ 0 ∷ 0 ∷ 0 ∷ [])
    ∷ line_bytes_lem 3 12 (392453 ∷ 0 ∷ 0 ∷ 0 ∷ 0 ∷ 0 ∷ [])
    ∷ line_bytes_lem 16 12 (826954 ∷ 0 ∷ 0 ∷ 0 ∷ 0 ∷ 0 ∷ [])
    ∷ total_bytes (826954 ∷ 0 ∷ 875000 ∷ 0 ∷ 0 ∷ 0 ∷ []) 18241034
    ∷ []

-- the sample book in five parts, with buffers that are too small at first
abbrev pub five_parts : List Part
five_parts =
    record { offered = 25; room = 0 }
    ∷ record { offered = 7; room = 53 }
    ∷ record { offered = 30; room = 60 }
    ∷ record { offered = 100; room = 108 }
    ∷ record { offered = 100; room = 116 }
    ∷ []

-- a book that closes below zero: a farm in set 1, a change of tillage (1, 1, 1, 1, 10000000), the close
abbrev pub credit : List ℕ
credit =
    (0 ∷ 9 ∷ 1 ∷ 1 ∷ 0 ∷ 0 ∷ 0 ∷ 7 ∷ 7 ∷ 218 ∷ 1 ∷ [])
    ++ (0 ∷ 11 ∷ 1 ∷ 9 ∷ 1 ∷ 1 ∷ 1 ∷ 0 ∷ 1 ∷ 0 ∷ 152 ∷ 150 ∷ 128 ∷ [])
    ++ (0 ∷ 4 ∷ 1 ∷ 8 ∷ 0 ∷ 2 ∷ [])

-- its lines: CO2, their sum and CO2e are −13559333333
abbrev pub credit_lines : List (List ℕ)
credit_lines =
    ((0 ∷ 52 ∷ 1 ∷ 9 ∷ 0 ∷ 0 ∷ []) ++ (0 ∷ 0 ∷ 0 ∷ 0 ∷ 0 ∷ 0 ∷ 0 ∷ 0 ∷ []) ++ (0 ∷ 0 ∷ 0 ∷ 0 ∷ 0 ∷ 0 ∷ 0 ∷ 0 ∷ [])
    ++ (255 ∷ 255 ∷ 255 ∷ 252 ∷ 215 ∷ 204 ∷ 254 ∷ 43 ∷ []) ++ (0 ∷ 0 ∷ 0 ∷ 0 ∷ 0 ∷ 0 ∷ 0 ∷ 0 ∷ []) ++ (0 ∷ 0 ∷ 0 ∷ 0 ∷ 0 ∷ 0 ∷ 0 ∷ 0 ∷ []) ++ (0 ∷ 0 ∷ 0 ∷ 0 ∷ 0 ∷ 0 ∷ 0 ∷ 0 ∷ []))
    ∷ ((0 ∷ 60 ∷ 1 ∷ 8 ∷ 0 ∷ 0 ∷ []) ++ (0 ∷ 0 ∷ 0 ∷ 0 ∷ 0 ∷ 0 ∷ 0 ∷ 0 ∷ []) ++ (0 ∷ 0 ∷ 0 ∷ 0 ∷ 0 ∷ 0 ∷ 0 ∷ 0 ∷ [])
    ++ (255 ∷ 255 ∷ 255 ∷ 252 ∷ 215 ∷ 204 ∷ 254 ∷ 43 ∷ []) ++ (0 ∷ 0 ∷ 0 ∷ 0 ∷ 0 ∷ 0 ∷ 0 ∷ 0 ∷ []) ++ (0 ∷ 0 ∷ 0 ∷ 0 ∷ 0 ∷ 0 ∷ 0 ∷ 0 ∷ [])
    ++ (0 ∷ 0 ∷ 0 ∷ 0 ∷ 0 ∷ 0 ∷ 0 ∷ 0 ∷ []) ++ (255 ∷ 255 ∷ 255 ∷ 252 ∷ 215 ∷ 204 ∷ 254 ∷ 43 ∷ []))
    ∷ []
