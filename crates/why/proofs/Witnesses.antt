-- Books of which each sort of answer is given: computed from the definitions. 5 wants 4,096 records, and is tried with the program alone.
-- Assumes nothing.
use Prim.Native.Nat.{ℕ, ◌+◌}
use mathlib.Core.Path.{◌≡◌, refl}
use mathlib.Core.List.{List, [], ◌∷◌, ◌++◌}
use mathlib.Core.Bool.{true, false}
use Rattle.std.specs.Prelude.{Some, None}
use Rattle.codec.specs.Table.{table, size}
use Rattle.codec.specs.Codec.{val_at, values_at, first_bad}
use Rattle.grams.specs.Cattle.{below_zero}
use Rattle.account.specs.Sorts.{sort_of}
use Rattle.account.specs.Line.{joined}
use Rattle.account.specs.Judge.{in_place_lem, first, accepted, judge}
use Rattle.account.specs.Compared.{values_compared, compared}
use Rattle.book.specs.Front.{front}
use Rattle.book.specs.WholeRecords.{records_by, records_of}
use Rattle.book.specs.Run.{book_by, book, run}
use Rattle.why.specs.declared.Verdict.{Verdict}
use Rattle.why.specs.declared.Verdict.TheVariants.{Accepted, Missing, NextLength, Refused}
use Rattle.why.specs.Why.{why_by, why_of}

-- a farm record of that version, with the length of version 1
abbrev short_farm : ℕ → List ℕ
short_farm version = 0 ∷ 9 ∷ version ∷ 1 ∷ 0 ∷ 0 ∷ 0 ∷ 7 ∷ 7 ∷ 218 ∷ 1 ∷ []

abbrev farm : List ℕ
farm = short_farm 1

-- one of version 2, with those bytes of its factors
abbrev factors : ℕ → ℕ → ℕ → ℕ → List ℕ
factors ch4 ch4' n2o n2o' = 0 ∷ 12 ∷ 2 ∷ 1 ∷ 0 ∷ 0 ∷ 0 ∷ 7 ∷ 7 ∷ 218 ∷ ch4 ∷ ch4' ∷ n2o ∷ n2o' ∷ []

-- a heading of that version, kind byte, group and class
abbrev heading : ℕ → ℕ → ℕ → ℕ → List ℕ
heading version kind group class = 0 ∷ 7 ∷ version ∷ kind ∷ 0 ∷ group ∷ class ∷ 0 ∷ 40 ∷ []

-- a ration of so many days
abbrev ration : ℕ → List ℕ
ration days = 0 ∷ 10 ∷ 1 ∷ 3 ∷ 0 ∷ days ∷ 0 ∷ 0 ∷ 117 ∷ 48 ∷ 2 ∷ 138 ∷ []

-- a hectare in zone 1, of medium texture
abbrev tillage : ℕ → ℕ → List ℕ
tillage change years = 0 ∷ 11 ∷ 1 ∷ 9 ∷ 1 ∷ 2 ∷ change ∷ 0 ∷ years ∷ 0 ∷ 0 ∷ 0 ∷ 100 ∷ []

-- so much of the year, 5000 and a little, by cows in that region
abbrev grazing : ℕ → ℕ → List ℕ
grazing region more = 0 ∷ 8 ∷ 1 ∷ 10 ∷ region ∷ 1 ∷ 2 ∷ 88 ∷ 19 ∷ (136 + more) ∷ []

abbrev close : ℕ → List ℕ
close count = 0 ∷ 4 ∷ 1 ∷ 8 ∷ 0 ∷ count ∷ []

-- a heading, and a book that begins with a farm and a heading
abbrev headed : List (List ℕ) → List ℕ
headed rs = joined (farm ∷ heading 1 2 12 1 ∷ rs)

-- refused by that number, in the record with that number, whose bytes and field are those, of that kind and row, after a heading of that group,
-- comparing those numbers
abbrev told_of : ℕ → ℕ → ℕ → ℕ → ℕ → ℕ → ℕ → ℕ → ℕ → ℕ → Verdict
told_of code number from to field kind row group value limit =
    Refused (record {
      code = code;
      number = number;
      first = from;
      last = to;
      field = field;
      kind = kind;
      row = row;
      group = group;
      compares = Some (record { value = value; limit = limit });
    })

-- the same, the kind being the row: before any heading, and after that of group 12
abbrev told : ℕ → ℕ → ℕ → ℕ → ℕ → ℕ → ℕ → ℕ → Verdict
told code number from to field kind value limit = told_of code number from to field kind kind 0 value limit

abbrev in_group : ℕ → ℕ → ℕ → ℕ → ℕ → ℕ → ℕ → ℕ → Verdict
in_group code number from to field kind value limit = told_of code number from to field kind kind 12 value limit

pub right-accepted : why_of (joined (farm ∷ close 1 ∷ [])) ≡ Accepted 17 false
unfolding why_of why_by run book book_by front val_at first judge accepted sort_of table size values_at first_bad in_place_lem
right-accepted = refl

-- a byte after the close
pub more-accepted : why_of (joined (farm ∷ close 1 ∷ (7 ∷ []) ∷ [])) ≡ Accepted 17 true
unfolding why_of why_by run book book_by front val_at first judge accepted sort_of table size values_at first_bad in_place_lem
more-accepted = refl

pub factors-accepted : why_of (joined (factors 0 21 1 54 ∷ close 1 ∷ [])) ≡ Accepted 20 false
unfolding why_of why_by run book book_by front val_at first judge accepted sort_of table size values_at first_bad in_place_lem
factors-accepted = refl

pub cut-missing : why_of (farm ++ (0 ∷ 4 ∷ 1 ∷ [])) ≡ Missing 3
unfolding why_of why_by run book book_by front val_at first judge accepted sort_of table size values_at first_bad in_place_lem
cut-missing = refl

pub cut-length : (why_of farm ≡ NextLength) × (why_of (farm ++ (0 ∷ [])) ≡ NextLength) × (why_of [] ≡ NextLength)
unfolding why_of why_by run book book_by front val_at first judge accepted sort_of table size values_at first_bad in_place_lem
cut-length = (refl, refl, refl)

pub broken-1 : (why_of (farm ++ (0 ∷ 3 ∷ [])) ≡ told 1 1 11 12 0 0 3 4) × (why_of (farm ++ (0 ∷ 27 ∷ 5 ∷ [])) ≡ told 1 1 11 12 0 0 27 26)
unfolding why_of why_by run book book_by front val_at first judge accepted sort_of table size values_at first_bad in_place_lem records_of records_by
    compared
broken-1 = (refl, refl)

-- a version of 3; and of a heading one of 2
pub broken-2 : (why_of (joined (farm ∷ heading 3 2 12 1 ∷ [])) ≡ told 2 1 11 19 0 2 3 1)
    × (why_of (joined (farm ∷ heading 2 2 12 1 ∷ [])) ≡ told 2 1 11 19 0 2 2 1)
unfolding why_of why_by run book book_by front val_at first judge accepted sort_of table size values_at first_bad in_place_lem records_of records_by
    compared
broken-2 = (refl, refl)

-- that of a farm record is below 1 or above 2
pub broken-2-farm : (why_of (short_farm 0) ≡ told 2 0 0 10 0 1 0 1) × (why_of (short_farm 3) ≡ told 2 0 0 10 0 1 3 2)
unfolding why_of why_by run book book_by front val_at first judge accepted sort_of table size values_at first_bad in_place_lem records_of records_by
    compared
broken-2-farm = (refl, refl)

pub broken-3 : (why_of (joined (farm ∷ heading 1 0 12 1 ∷ [])) ≡ told 3 1 11 19 0 0 0 1)
    × (why_of (joined (farm ∷ heading 1 11 12 1 ∷ [])) ≡ told 3 1 11 19 0 11 11 10)
unfolding why_of why_by run book book_by front val_at first judge accepted sort_of table size values_at first_bad in_place_lem records_of records_by
    compared
broken-3 = (refl, refl)

pub broken-4 : why_of (joined (farm ∷ heading 1 3 12 1 ∷ [])) ≡ told 4 1 11 19 0 3 7 10
unfolding why_of why_by run book book_by front val_at first judge accepted sort_of table size values_at first_bad in_place_lem records_of records_by
    compared
broken-4 = refl

-- version 2 with the length of version 1
pub broken-4-farm : why_of (short_farm 2) ≡ told_of 4 0 0 10 0 1 11 0 9 12
unfolding why_of why_by run book book_by front val_at first judge accepted sort_of table size values_at first_bad in_place_lem records_of records_by
    compared
broken-4-farm = refl

-- below and above a range, a ration's days, a heading's class, the change and the years of a change of tillage, and the region of grazing
pub broken-7 : (why_of (headed (ration 0 ∷ [])) ≡ in_group 7 2 20 31 1 3 0 1)
    × (why_of (joined (farm ∷ heading 1 2 12 9 ∷ [])) ≡ told 7 1 11 19 2 2 9 4)
    × (why_of (joined (farm ∷ tillage 7 10 ∷ [])) ≡ told 7 1 11 23 3 9 7 6)
    × (why_of (joined (farm ∷ tillage 6 0 ∷ [])) ≡ told 7 1 11 23 4 9 0 1)
    × (why_of (headed (grazing 8 0 ∷ [])) ≡ in_group 7 2 20 29 1 10 8 7)
unfolding why_of why_by run book book_by front val_at first judge accepted sort_of table size values_at first_bad in_place_lem records_of records_by
    compared values_compared
broken-7 = (refl, refl, refl, refl, refl)

-- a CH4 factor of 0 and one of 1001, an N2O factor of 0 and one of 1001
pub broken-7-farm : (why_of (factors 0 0 1 54) ≡ told_of 7 0 0 13 3 1 11 0 0 1)
    × (why_of (factors 3 233 1 54) ≡ told_of 7 0 0 13 3 1 11 0 1001 1000)
    × (why_of (factors 0 21 0 0) ≡ told_of 7 0 0 13 4 1 11 0 0 1)
    × (why_of (factors 0 21 3 233) ≡ told_of 7 0 0 13 4 1 11 0 1001 1000)
unfolding why_of why_by run book book_by front val_at first judge accepted sort_of table size values_at first_bad in_place_lem records_of records_by
    compared values_compared
broken-7-farm = (refl, refl, refl, refl)

pub broken-8 : why_of (headed (heading 1 2 12 1 ∷ [])) ≡ in_group 8 2 20 28 0 2 12 12
unfolding why_of why_by run book book_by front val_at first judge accepted sort_of table size values_at first_bad in_place_lem records_of records_by
    compared values_compared
broken-8 = refl

pub broken-9 : why_of (headed (ration 200 ∷ ration 167 ∷ [])) ≡ in_group 9 3 32 43 0 3 367 366
unfolding why_of why_by run book book_by front val_at first judge accepted sort_of table size values_at first_bad in_place_lem records_of records_by
    compared values_compared
broken-9 = refl

pub broken-12 : why_of (headed (close 5 ∷ [])) ≡ in_group 12 2 20 25 0 8 5 2
unfolding why_of why_by run book book_by front val_at first judge accepted sort_of table size values_at first_bad in_place_lem records_of records_by
    compared values_compared
broken-12 = refl

-- no numbers: out of its place
pub broken-6 : why_of (joined (farm ∷ ration 31 ∷ []))
    ≡ Refused (record { code = 6; number = 1; first = 11; last = 22; field = 0; kind = 3; row = 3; group = 0; compares = None })
unfolding why_of why_by run book book_by front val_at first judge accepted sort_of table size values_at first_bad in_place_lem records_of records_by
    compared values_compared
broken-6 = refl

-- cattle nitrogen: days, feed, protein, milk, milk protein, gain (two bytes each), then the shares
abbrev cattle : ℕ → ℕ → List ℕ
cattle gain solid =
    0 ∷ 20 ∷ 1 ∷ 4 ∷ 0 ∷ 30 ∷ 0 ∷ 0 ∷ 0 ∷ 0 ∷ 0 ∷ 0 ∷ 0 ∷ 0 ∷ 0 ∷ gain ∷ 0 ∷ solid ∷ 39 ∷ 15 ∷ 0 ∷ 0 ∷ []

pub broken-10 : why_of (headed (cattle 0 2 ∷ [])) ≡ in_group 10 2 20 41 0 4 10001 10000
unfolding why_of why_by run book book_by front val_at first judge accepted sort_of table size values_at first_bad in_place_lem records_of records_by
    compared values_compared
broken-10 = refl

-- the fractions of two records come to more than the whole
pub broken-10-grazed : why_of (headed (grazing 3 0 ∷ grazing 3 1 ∷ [])) ≡ in_group 10 3 30 39 0 10 10001 10000
unfolding why_of why_by run book book_by front val_at first judge accepted sort_of table size values_at first_bad in_place_lem records_of records_by
    compared values_compared
broken-10-grazed = refl

pub broken-11 : why_of (headed (cattle 1 1 ∷ []))
    ≡ Refused (record { code = 11; number = 2; first = 20; last = 41; field = 0; kind = 4; row = 4; group = 12; compares = None })
unfolding why_of why_by run book book_by front val_at first judge accepted sort_of table size values_at first_bad in_place_lem records_of records_by
    compared values_compared below_zero
broken-11 = refl
