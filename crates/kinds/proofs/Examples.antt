-- Theorem: the table is comma-separated text of thirteen columns. Each row, of each field of each row of the table of kinds, has twelve commas, no
-- quote, and its one line end last; the whole fits the program's buffer. And rows as they are printed.
-- Assumes nothing.
use Prim.Native.Nat.{ℕ, zero, suc, ◌+◌, ◌-◌, ◌≤◌}
use mathlib.Core.Path.{◌≡◌, refl}
use mathlib.Core.Bool.{Bool, true, ◌&&◌}
use mathlib.Core.List.{List, [], ◌∷◌}
use lib.ListN.{length, drop}
use lib.Dec.{T, eqb, leb, leb→le}
use Rattle.base.specs.Choice.{pick}
use Rattle.base.specs.Bytes.{index_of, index_after}
use Rattle.codec.specs.Table.{table, fields, last_row}
use Rattle.typed_words.specs.Words.{nth_part, nth_word, leading_of, same_text_lem}
use Rattle.printing.specs.Ascii.{ascii}
use Rattle.printing.specs.Decimal.{digits_by, decimal, without_last, last_digits, pointed}
use Rattle.names.specs.Names.{kind_table, field_table, choice_table, decimals_table, unit_table, help_table}
use Rattle.names.specs.Usual.{usual_table}
use Rattle.kinds.specs.Kinds.{choices_from, field_text, fields_from, rows_from, kinds_text}

-- how often the byte b stands in a text
unfoldable pub count : ℕ → List ℕ → ℕ
count b [] = 0
count b (x ∷ xs) = pick (eqb x b) 1 0 + count b xs

-- thirteen columns, no quote, and one line end, the last two bytes
abbrev pub is_row : List ℕ → Bool
is_row text =
    eqb (count 44 text) 12 && (eqb (count 34 text) 0
    && (eqb (count 13 text) 1 && (eqb (count 10 text) 1 && same_text_lem (drop (length text - 2) text) (ascii "\r\n"))))

-- n fields of a row from i on
unfoldable pub are_rows : ℕ → ℕ → ℕ → Bool
are_rows zero i row = true
are_rows (suc n) i row = is_row (field_text row i) && are_rows n (suc i) row

-- n rows from `row` on
unfoldable pub all_rows : ℕ → ℕ → Bool
all_rows zero row = true
all_rows (suc n) row = are_rows (length (fields row)) 0 row && all_rows n (suc row)

pub thirteen-columns : T (all_rows last_row 1)
unfolding count same_text_lem are_rows all_rows table nth_part nth_word leading_of index_of index_after digits_by decimal without_last last_digits pointed kind_table
    field_table choice_table decimals_table unit_table usual_table help_table choices_from
thirteen-columns = tt

short : T (leb (length kinds_text) 8192)
unfolding kinds_text rows_from fields_from table nth_part nth_word leading_of index_of index_after digits_by decimal without_last last_digits pointed kind_table
    field_table choice_table decimals_table unit_table usual_table help_table choices_from
short = tt

pub kinds-fit : length kinds_text ≤ 8192
kinds-fit = leb→le (length kinds_text) 8192 short

as-printed : (field_text 2 1 ≡ ascii "2,2,1,heading,2,class,0,1,4,,milking|dry|heifer|pig,,what animals the group has\r\n")
    × (field_text 3 1 ≡ ascii "3,3,1,enteric,2,GE,2,0.00,1000.00,MJ,,milking 100 650|dry 60 400|heifer 15 350,gross energy a head and day\r\n")
    × (field_text 11 3 ≡ ascii "11,1,2,farm,4,N2O factor,0,1,1000,,,,CO2e of a kg of N2O\r\n")
unfolding table nth_part nth_word leading_of index_of index_after digits_by decimal without_last last_digits pointed kind_table field_table choice_table
    decimals_table unit_table usual_table help_table choices_from
as-printed = (refl, refl, refl)
