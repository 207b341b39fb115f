-- Worked lines for people, and that the numbers of the rules beside 7 and 10 are whole ones: no row has the field whose decimals and unit they take.
-- Assumes nothing.
use Prim.Native.Nat.{ℕ, zero, suc}
use mathlib.Core.Path.{◌≡◌, refl}
use mathlib.Core.List.{List, [], ◌∷◌, ◌++◌}
use mathlib.Core.Bool.{true, false}
use lib.ListN.{replicate}
use Rattle.std.specs.Prelude.{Some}
use Rattle.base.specs.Bytes.{index_of, index_after}
use Rattle.typed_words.specs.Words.{nth_part}
use Rattle.printing.specs.Ascii.{ascii}
use Rattle.printing.specs.Decimal.{digits_by, decimal, last_digits, without_last, pointed}
use Rattle.account.specs.Sorts.{sort_of}
use Rattle.names.specs.Names.{kind_table, field_table, decimals_table, decimals_at, unit_table, unit_text, sentence_table, sentence}
use Rattle.why.specs.declared.Reason.{Reason}
use Rattle.why.specs.Remarks.{where_text, subject_table, compared_text, reason_text, lack_text, closed_text}

-- refused by that number, of a record of that kind after that heading, comparing those numbers
abbrev because : ℕ → ℕ → ℕ → ℕ → ℕ → ℕ → Reason
because code field kind group value limit =
    record {
      code = code;
      number = 2;
      first = 20;
      last = 31;
      field = field;
      kind = kind;
      row = kind;
      group = group;
      compares = Some (record { value = value; limit = limit });
    }

-- a value with its unit
ym : reason_text (because 7 3 3 12 22666 2000) ≡ ascii "record 2 (enteric, group 12): Ym is 226.66 per cent; it must be at most 20.00\n"
unfolding reason_text where_text compared_text subject_table kind_table field_table decimals_table unit_table sort_of nth_part index_of index_after
    decimal digits_by pointed last_digits without_last
ym = refl

-- the farm's own records have no group
amount : reason_text (because 7 2 6 12 10000001 10000000)
    ≡ ascii "record 2 (energy): amount is 1000000.1 units; it must be at most 1000000.0\n"
unfolding reason_text where_text compared_text subject_table kind_table field_table decimals_table unit_table sort_of nth_part index_of index_after
    decimal digits_by pointed last_digits without_last
amount = refl

-- sums, of cattle, a pig and grazing
shares : reason_text (because 10 0 4 12 9000 10000)
    ≡ ascii "record 2 (cattle, group 12): the sum of the shares is 90.00 per cent; it must be 100.00\n"
unfolding reason_text where_text compared_text subject_table kind_table field_table decimals_table unit_table sort_of nth_part index_of index_after
    decimal digits_by pointed last_digits without_last
shares = refl

parts : reason_text (because 10 0 5 12 1100 1000)
    ≡ ascii "record 2 (pig, group 12): the sum of the volatilised and leached parts is 1.100; it must be at most 1.000\n"
unfolding reason_text where_text compared_text subject_table kind_table field_table decimals_table unit_table sort_of nth_part index_of index_after
    decimal digits_by pointed last_digits without_last
parts = refl

fractions : reason_text (because 10 0 10 12 11000 10000)
    ≡ ascii "record 2 (grazing, group 12): the sum of fractions with this record is 110.00 per cent; it must be at most 100.00\n"
unfolding reason_text where_text compared_text subject_table kind_table field_table decimals_table unit_table sort_of nth_part index_of index_after
    decimal digits_by pointed last_digits without_last
fractions = refl

-- whole numbers
days : reason_text (because 9 0 3 12 381 366)
    ≡ ascii "record 2 (enteric, group 12): the sum of days with this record is 381; it must be at most 366\n"
unfolding reason_text where_text compared_text subject_table kind_table field_table decimals_table unit_table sort_of nth_part index_of index_after
    decimal digits_by pointed last_digits without_last
days = refl

ends : (lack_text 1 ≡ ascii "the book ends inside a record, which needs 1 more byte\n")
    × (lack_text 5 ≡ ascii "the book ends inside a record, which needs 5 more bytes\n")
    × (closed_text 69 true ≡ ascii "the book is right and closed; bytes stand after its close, from byte 69 on, and change nothing\n")
    × (closed_text 69 false ≡ ascii "the book is right and closed\n")
unfolding lack_text closed_text decimal digits_by
ends = (refl, refl, refl, refl)

-- ---- no row has a thirteenth field

decimals12 : ℕ → List ℕ
decimals12 zero = []
decimals12 (suc n) = decimals_at n 12 ∷ decimals12 n

units12 : ℕ → List ℕ
units12 zero = []
units12 (suc n) = unit_text n 12 ++ units12 n

whole_numbers : (decimals12 13 ≡ replicate 13 0) × (units12 13 ≡ [])
unfolding decimals12 units12 decimals_table unit_table nth_part index_of index_after
whole_numbers = (refl, refl)

-- the sentences of the numbers stand where the numbers say
numbers-told : (sentence 0 ≡ ascii "closed") × (sentence 8 ≡ ascii "the group number must be above that of the heading before")
    × (sentence 2 ≡ ascii "the version is not 1, nor 2 of a farm record")
    × (sentence 22 ≡ ascii "the book is closed already")
    × (sentence 19 ≡ ascii "no such number")
    × (sentence 23 ≡ ascii "the bytes are no run of whole lines, as the herd desk gives them: for a book use bin/sheet")
    × (sentence 24 ≡ ascii "no such number")
    × (sentence 1000 ≡ ascii "no such number")
unfolding sentence sentence_table nth_part index_of index_after
numbers-told = (refl, refl, refl, refl, refl, refl, refl, refl)
