-- Document 01, "A state holds: ..", with what document 02 has brought to it (W2, W7, W10, W11): each clause at its end and beside it, which is
-- refusal 13. A row has a state, number by number, and what a call with no bytes answers: 13 outside the ranges; else 17 (More), 0 (Closed) or the
-- refusal stored. By hand from the documents.
-- Assumes nothing.
use Rattle.std.specs.Prelude.{ℕ, ◌-◌, List, [], ◌∷◌, ◌++◌, length, replicate, set}
use Rattle.grams.specs.Cases.{Row, row}
use Rattle.account.specs.Account.{account_by}
use Rattle.book.specs.Call.{numbers, call}

-- ---- states, number by number, from place 0 on: stage, records; the CH4 and the N2O factor (2, 3); group, class, head (4 to 6); the days of
-- kinds 3, 4 and 5, the grazed fraction (7 to 10); the subtotal's CH4, N2O, excreted and land nitrogen (11 to 14); the sums' CH4, N2O, CO2,
-- excreted and land nitrogen, grazing (15 to 20); the refusal's code, record number, field (21 to 23)

-- no record yet
abbrev pub new : List ℕ
new = replicate 24 0

-- open, with the farm record
abbrev pub begun : List ℕ
begun = 1 ∷ 1 ∷ 21 ∷ 310 ∷ replicate 20 0

-- with a second record, no heading
abbrev pub unheaded : List ℕ
unheaded = 1 ∷ 2 ∷ 21 ∷ 310 ∷ replicate 20 0

-- with a heading
abbrev pub headed : List ℕ
headed = 1 ∷ 2 ∷ 21 ∷ 310 ∷ 7 ∷ 1 ∷ 40 ∷ replicate 17 0

-- closed
abbrev pub done : List ℕ
done = 2 ∷ 2 ∷ 21 ∷ 310 ∷ replicate 20 0

-- refused at the second record, by 6
abbrev pub refused : List ℕ
refused = 3 ∷ 1 ∷ 21 ∷ 310 ∷ (replicate 17 0 ++ (6 ∷ 1 ∷ 0 ∷ []))

-- these, with another number at a place
abbrev pub but : ℕ → ℕ → List ℕ → List ℕ
but place number v = set v place number

-- ---- rows

-- these numbers, with the held bytes in their places and how many of them are held
abbrev pub placed : List ℕ → List ℕ → ℕ → List ℕ → Row
placed v held count told = row (numbers (call (record { account = account_by (λ w n. n) v; held = held; count = count }) [] 0).answer) told

-- nothing held: open, closed, refused, and outside the ranges
abbrev pub more : List ℕ → Row
more v = placed v (replicate 27 0) 0 (17 ∷ [])

abbrev pub shut : List ℕ → Row
shut v = placed v (replicate 27 0) 0 (0 ∷ [])

abbrev pub stopped : List ℕ → ℕ → ℕ → ℕ → Row
stopped v code records field = placed v (replicate 27 0) 0 (code ∷ records ∷ field ∷ [])

abbrev pub thirteen : List ℕ → Row
thirteen v = placed v (replicate 27 0) 0 (13 ∷ 0 ∷ 0 ∷ [])

-- these bytes held, open or outside the ranges
abbrev pub holds : List ℕ → List ℕ → Row
holds v h = placed v (h ++ replicate (27 - length h) 0) (length h) (17 ∷ [])

abbrev pub holds_not : List ℕ → List ℕ → Row
holds_not v h = placed v (h ++ replicate (27 - length h) 0) (length h) (13 ∷ 0 ∷ 0 ∷ [])

-- ---- the clauses

-- stage and records
abbrev pub stages_and_records : List Row
stages_and_records =
    -- stage 0 to 3
    more new
    ∷ more begun
    ∷ shut done
    ∷ stopped refused 6 1 0
    ∷ thirteen (but 0 4 new)
    ∷ thirteen (but 0 4 begun)
    -- no records in stage 0, from 1 in stage 1, from 2 in stage 2; in stage 3 any
    ∷ thirteen (but 0 0 begun)
    ∷ thirteen (but 0 1 new)
    ∷ thirteen (but 0 2 new)
    ∷ thirteen (but 1 1 done)
    ∷ stopped (but 0 3 (but 21 6 new)) 6 0 0
    -- records to 4096
    ∷ more (but 1 4096 begun)
    ∷ thirteen (but 1 4097 begun)
    ∷ shut (but 1 4096 done)
    ∷ thirteen (but 1 4097 done)
    ∷ stopped (but 1 4096 (but 22 4096 refused)) 6 4096 0
    ∷ thirteen (but 1 4097 (but 22 4097 refused))
    ∷ []

-- the two warming factors (W11)
abbrev pub factors : List Row
factors =
    -- CH4 factor: 1..1000, 0 exactly with no records
    thirteen (but 2 0 begun)
    ∷ more (but 2 1 begun)
    ∷ more (but 2 1000 begun)
    ∷ thirteen (but 2 1001 begun)
    ∷ thirteen (but 2 1 new)
    -- N2O factor: 1..1000, 0 exactly with no records
    ∷ thirteen (but 3 0 begun)
    ∷ more (but 3 1 begun)
    ∷ more (but 3 1000 begun)
    ∷ thirteen (but 3 1001 begun)
    ∷ thirteen (but 3 1 new)
    ∷ thirteen (but 2 21 (but 3 310 new))
    ∷ thirteen (but 2 0 (but 3 0 done))
    ∷ []

-- heading, day sums and grazed fraction (W10)
abbrev pub headings : List Row
headings =
    -- group 1..65535, class 1..4, head 0..20000
    thirteen (but 4 0 headed)
    ∷ more (but 4 1 headed)
    ∷ more (but 4 65535 headed)
    ∷ thirteen (but 4 65536 headed)
    ∷ thirteen (but 5 0 headed)
    ∷ more (but 5 1 headed)
    ∷ more (but 5 4 headed)
    ∷ thirteen (but 5 5 headed)
    ∷ more (but 6 0 headed)
    ∷ more (but 6 20000 headed)
    ∷ thirteen (but 6 20001 headed)
    -- a heading only with 2 records or more
    ∷ more headed
    ∷ thirteen (but 1 1 headed)
    -- three day sums to 366, the grazed fraction to 10000
    ∷ more (but 7 366 headed)
    ∷ thirteen (but 7 367 headed)
    ∷ more (but 8 366 headed)
    ∷ thirteen (but 8 367 headed)
    ∷ more (but 9 366 headed)
    ∷ thirteen (but 9 367 headed)
    ∷ more (but 10 10000 headed)
    ∷ thirteen (but 10 10001 headed)
    -- all zero where there is no heading
    ∷ more unheaded
    ∷ thirteen (but 4 1 unheaded)
    ∷ thirteen (but 5 1 unheaded)
    ∷ thirteen (but 6 1 unheaded)
    ∷ thirteen (but 7 1 unheaded)
    ∷ thirteen (but 8 1 unheaded)
    ∷ thirteen (but 9 1 unheaded)
    ∷ thirteen (but 10 1 unheaded)
    ∷ []

-- sums (W7, W10) and subtotal (W2)
abbrev pub grams : List Row
grams =
    -- 2 records: CH4, excreted and land nitrogen and grazing to 2 × 10^11, N2O to 2 × 10^10
    more (but 15 200000000000 unheaded)
    ∷ thirteen (but 15 200000000001 unheaded)
    ∷ more (but 18 200000000000 unheaded)
    ∷ thirteen (but 18 200000000001 unheaded)
    ∷ more (but 19 200000000000 unheaded)
    ∷ thirteen (but 19 200000000001 unheaded)
    ∷ more (but 20 200000000000 unheaded)
    ∷ thirteen (but 20 200000000001 unheaded)
    ∷ more (but 16 20000000000 unheaded)
    ∷ thirteen (but 16 20000000001 unheaded)
    -- CO2 to 2 × 10^13 above zero and as much below it, where its number is 2^64 less the amount
    ∷ more (but 17 20000000000000 unheaded)
    ∷ thirteen (but 17 20000000000001 unheaded)
    ∷ more (but 17 18446724073709551616 unheaded)
    ∷ thirteen (but 17 18446724073709551615 unheaded)
    -- no records: no grams
    ∷ thirteen (but 15 1 new)
    ∷ thirteen (but 16 1 new)
    ∷ thirteen (but 17 1 new)
    ∷ thirteen (but 18 1 new)
    ∷ thirteen (but 19 1 new)
    ∷ thirteen (but 20 1 new)
    ∷ thirteen (but 17 18446744073709551615 new)
    -- the subtotal as the sums
    ∷ more (but 11 200000000000 headed)
    ∷ thirteen (but 11 200000000001 headed)
    ∷ more (but 13 200000000000 headed)
    ∷ thirteen (but 13 200000000001 headed)
    ∷ more (but 14 200000000000 headed)
    ∷ thirteen (but 14 200000000001 headed)
    ∷ more (but 12 20000000000 headed)
    ∷ thirteen (but 12 20000000001 headed)
    -- zero without a heading
    ∷ thirteen (but 11 1 unheaded)
    ∷ thirteen (but 12 1 unheaded)
    ∷ thirteen (but 13 1 unheaded)
    ∷ thirteen (but 14 1 unheaded)
    ∷ []

-- the refusal: in stage 3, otherwise zeros
abbrev pub refusals : List Row
refusals =
    -- code 1..12
    thirteen (but 21 0 refused)
    ∷ stopped (but 21 1 refused) 1 1 0
    ∷ stopped (but 21 12 refused) 12 1 0
    ∷ thirteen (but 21 13 refused)
    -- record number equal to records accepted
    ∷ thirteen (but 22 0 refused)
    ∷ thirteen (but 22 2 refused)
    -- field 1..12 for code 7, else 0
    ∷ thirteen (but 21 7 refused)
    ∷ stopped (but 21 7 (but 23 1 refused)) 7 1 1
    ∷ stopped (but 21 7 (but 23 12 refused)) 7 1 12
    ∷ thirteen (but 21 7 (but 23 13 refused))
    ∷ thirteen (but 23 1 refused)
    ∷ thirteen (but 21 8 (but 23 1 refused))
    -- otherwise zeros
    ∷ thirteen (but 21 1 new)
    ∷ thirteen (but 22 1 new)
    ∷ thirteen (but 23 1 new)
    ∷ thirteen (but 21 1 begun)
    ∷ thirteen (but 22 1 begun)
    ∷ thirteen (but 23 1 begun)
    ∷ thirteen (but 21 1 done)
    ∷ thirteen (but 22 1 done)
    ∷ thirteen (but 23 1 done)
    ∷ []

-- held bytes
abbrev pub held_bytes : List Row
held_bytes =
    -- of an unfinished record: from two held on, their length is 4..26
    holds new (0 ∷ [])
    ∷ holds begun (255 ∷ [])
    ∷ holds_not begun (0 ∷ 3 ∷ [])
    ∷ holds begun (0 ∷ 4 ∷ [])
    ∷ holds begun (0 ∷ 26 ∷ [])
    ∷ holds_not begun (0 ∷ 27 ∷ [])
    ∷ holds_not begun (1 ∷ 4 ∷ [])
    -- not yet fulfilled
    ∷ holds begun (0 ∷ 4 ∷ 1 ∷ 8 ∷ 0 ∷ [])
    ∷ holds_not begun (0 ∷ 4 ∷ 1 ∷ 8 ∷ 0 ∷ 1 ∷ [])
    ∷ holds begun (0 ∷ 26 ∷ replicate 25 1)
    ∷ holds_not begun (0 ∷ 25 ∷ replicate 25 1)
    -- up to 27 in 27 places
    ∷ holds_not begun (0 ∷ 26 ∷ replicate 26 1)
    ∷ placed begun (replicate 26 0) 0 (13 ∷ 0 ∷ 0 ∷ [])
    ∷ placed begun (replicate 27 0) 0 (17 ∷ [])
    ∷ placed begun (replicate 28 0) 0 (13 ∷ 0 ∷ 0 ∷ [])
    ∷ placed begun (0 ∷ 26 ∷ replicate 25 1) 28 (13 ∷ 0 ∷ 0 ∷ [])
    -- unused places zero
    ∷ placed begun (1 ∷ replicate 26 0) 0 (13 ∷ 0 ∷ 0 ∷ [])
    ∷ placed begun (1 ∷ replicate 26 0) 1 (17 ∷ [])
    ∷ placed begun (0 ∷ 4 ∷ replicate 24 0 ++ (1 ∷ [])) 2 (13 ∷ 0 ∷ 0 ∷ [])
    -- none in stages 2 and 3
    ∷ holds_not done (0 ∷ [])
    ∷ holds_not refused (0 ∷ [])
    ∷ []

-- all of them
abbrev pub state_limits : List Row
state_limits = stages_and_records ++ (factors ++ (headings ++ (grams ++ (refusals ++ (held_bytes)))))
