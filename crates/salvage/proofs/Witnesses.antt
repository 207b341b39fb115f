-- The premises of the promises are met. A damaged book, computed: a ration of no days, a heading of a wrong version with a ration and grazing
-- under it, a close that counts wrong, and a farm record behind it. And a right book, which comes back as it is.
-- Assumes nothing.
use Prim.Native.Nat.{ℕ}
use mathlib.Core.Path.{◌≡◌, refl}
use mathlib.Core.List.{List, [], ◌∷◌, ◌++◌}
use native.Mathlib.Omega.{arith}
use Rattle.codec.specs.Table.{table, size}
use Rattle.codec.specs.Codec.{val_at, be, values_at, bytes_of, first_bad, record_bytes, Bytes}
use Rattle.codec.proofs.BigEndian.{bytes-append}
use Rattle.codec.proofs.Round.{record-whole}
use Rattle.account.specs.Sorts.{sort_of}
use Rattle.account.specs.Judge.{in_place_lem, first, accepted, judge}
use Rattle.account.specs.Line.{joined}
use Rattle.book.specs.Front.{front}
use Rattle.book.specs.WholeRecords.{records_by, records_of}
use Rattle.book.specs.State.{no_record_yet}
use Rattle.book.specs.Run.{book_by, book, run}
use Rattle.salvage.specs.declared.Unsaved.TheVariants.{NoFarm, NoRoom}
use Rattle.salvage.specs.Salvage.{dropped_by, found, list_of, farm_among, numbers, refusing, saving, answering, salvage_of}
use Rattle.salvage.specs.declared.how_far.Ending.TheVariants.{AtEnd, AtClose, NoLength, NotWhole}
use Rattle.salvage.specs.HowFar.{reached, end_of}
use Rattle.salvage.specs.Promised.{under_headings, details}

-- ---- a damaged book

abbrev farm : List ℕ
farm = 0 ∷ 9 ∷ 1 ∷ 1 ∷ 0 ∷ 0 ∷ 0 ∷ 7 ∷ 7 ∷ 218 ∷ 1 ∷ []

-- a heading of that version
abbrev heading : ℕ → List ℕ
heading version = 0 ∷ 7 ∷ version ∷ 2 ∷ 0 ∷ 12 ∷ 1 ∷ 0 ∷ 40 ∷ []

-- a ration of so many days
abbrev ration : ℕ → List ℕ
ration days = 0 ∷ 10 ∷ 1 ∷ 3 ∷ 0 ∷ days ∷ 0 ∷ 0 ∷ 117 ∷ 48 ∷ 2 ∷ 138 ∷ []

abbrev energy : List ℕ
energy = 0 ∷ 11 ∷ 1 ∷ 6 ∷ 1 ∷ 0 ∷ 0 ∷ 0 ∷ 125 ∷ 0 ∷ 1 ∷ 17 ∷ 112 ∷ []

-- a hectare in zone 1, of medium texture, in the tenth year of the third change
abbrev tillage : List ℕ
tillage = 0 ∷ 11 ∷ 1 ∷ 9 ∷ 1 ∷ 2 ∷ 3 ∷ 0 ∷ 10 ∷ 0 ∷ 0 ∷ 0 ∷ 100 ∷ []

-- cows of 600 kg in the third region, half of the year's intake
abbrev grazing : List ℕ
grazing = 0 ∷ 8 ∷ 1 ∷ 10 ∷ 3 ∷ 1 ∷ 2 ∷ 88 ∷ 19 ∷ 136 ∷ []

abbrev close : ℕ → List ℕ
close count = 0 ∷ 4 ∷ 1 ∷ 8 ∷ 0 ∷ count ∷ []

-- an entry of the list
abbrev entry : ℕ → ℕ → List ℕ
entry number code = 0 ∷ 0 ∷ 0 ∷ 0 ∷ 0 ∷ 0 ∷ 0 ∷ number ∷ code ∷ []

abbrev damaged : List ℕ
damaged = joined (farm ∷ heading 1 ∷ ration 31 ∷ ration 0 ∷ energy ∷ heading 2 ∷ ration 28 ∷ grazing ∷ tillage ∷ close 9 ∷ farm ∷ [])

abbrev clean : List ℕ
clean = joined (farm ∷ heading 1 ∷ ration 31 ∷ energy ∷ tillage ∷ close 5 ∷ [])

-- it is saved, what salvaged-accepted and heading-kept ask: a dropped heading takes its ration and its grazing along, not the farm's
-- change of tillage
pub damaged-saved : salvage_of damaged 64 36 ≡ saving clean (joined (entry 3 7 ∷ entry 5 2 ∷ entry 6 6 ∷ entry 7 6 ∷ []))
unfolding salvage_of answering found records_of records_by front val_at dropped_by first judge accepted sort_of table size values_at first_bad in_place_lem
    list_of farm_among be bytes_of record_bytes
damaged-saved = refl

-- its reading ends at the close, and the farm record after it is not read
pub damaged-end : end_of damaged ≡ record { at = 101; why = AtClose; unread = 11 }
unfolding end_of reached found records_of records_by front val_at dropped_by first judge accepted sort_of table size values_at first_bad in_place_lem
damaged-end = refl

-- a length that no record has, a record that is not whole, and the end of the bytes
pub other-ends : (end_of (farm ++ (0 ∷ 93 ∷ 7 ∷ [])) ≡ record { at = 11; why = NoLength 93; unread = 3 })
    × ((end_of (farm ++ (0 ∷ 9 ∷ [])) ≡ record { at = 11; why = NotWhole; unread = 2 }) × (end_of farm ≡ record { at = 11; why = AtEnd; unread = 0 }))
unfolding end_of reached found records_of records_by front val_at dropped_by first judge accepted sort_of table size values_at first_bad in_place_lem
other-ends = (refl, (refl, refl))

-- there is a detail for heading-kept to speak of
pub detail-kept : details (under_headings [] (records_of clean)) ≡ record { detail = ration 31; heading = heading 1 } ∷ []
unfolding records_of records_by front val_at under_headings details sort_of
detail-kept = refl

-- a byte less of room
pub damaged-16 : (salvage_of damaged 63 36 ≡ refusing NoRoom) × (salvage_of damaged 64 35 ≡ refusing NoRoom)
unfolding salvage_of answering found records_of records_by front val_at dropped_by first judge accepted sort_of table size values_at first_bad in_place_lem
    list_of farm_among be bytes_of record_bytes
damaged-16 = (refl, refl)

-- no farm record, and no room either
pub no-farm-19 : salvage_of (joined (heading 1 ∷ close 1 ∷ [])) 0 0 ≡ refusing NoFarm
unfolding salvage_of answering found records_of records_by front val_at dropped_by first judge accepted sort_of table size values_at first_bad in_place_lem
    farm_among
no-farm-19 = refl

-- the paper's numbers of both
pub paper-codes : (numbers (refusing NoRoom).answer ≡ 16 ∷ []) × (numbers (refusing NoFarm).answer ≡ 19 ∷ [])
paper-codes = (refl, refl)

-- ---- farm records of version 2

-- one with those bytes of its CH4 factor
abbrev factors : ℕ → ℕ → List ℕ
factors ch4 ch4' = 0 ∷ 12 ∷ 2 ∷ 1 ∷ 0 ∷ 0 ∷ 0 ∷ 7 ∷ 7 ∷ 218 ∷ ch4 ∷ ch4' ∷ 1 ∷ 54 ∷ []

-- a factor of 1001 is dropped by 7, the farm record behind it is kept, and a second one is out of its place
pub factors-saved : salvage_of (joined (factors 3 233 ∷ factors 0 21 ∷ farm ∷ close 1 ∷ [])) 20 18
    ≡ saving (joined (factors 0 21 ∷ close 1 ∷ [])) (joined (entry 0 7 ∷ entry 2 6 ∷ []))
unfolding salvage_of answering found records_of records_by front val_at dropped_by first judge accepted sort_of table size values_at first_bad in_place_lem
    list_of farm_among be bytes_of record_bytes
factors-saved = refl

-- ---- a right book

abbrev right : List ℕ
right = record_bytes 1 (7 ∷ 2010 ∷ 1 ∷ []) ++ record_bytes 8 (1 ∷ [])

-- what untouched asks: bytes, closed by rule 2 with nothing left
pub right-bytes : Bytes right
right-bytes =
    bytes-append (record_bytes 1 (7 ∷ 2010 ∷ 1 ∷ [])) (record_bytes 8 (1 ∷ [])) (record-whole 1 (7 ∷ 2010 ∷ 1 ∷ []) (omega arith)).bytes
    (record-whole 8 (1 ∷ []) (omega arith)).bytes

pub right-closed : ((run no_record_yet right).state.account.stage ≡ 2) × ((run no_record_yet right).left ≡ [])
unfolding run book book_by front val_at first judge accepted sort_of table size values_at first_bad in_place_lem be bytes_of record_bytes
right-closed = (refl, refl)
