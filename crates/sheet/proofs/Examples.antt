-- Worked rows of document 02, W13 and of the decisions on it: what is taken, and what is refused by 20 and by 21.
use Prim.Native.Nat.{ℕ}
use mathlib.Core.Path.{◌≡◌, refl}
use mathlib.Core.List.{List, [], ◌∷◌, ◌++◌}
use Rattle.codec.specs.Codec.{bytes_hold, val_at, values_at, be, bytes_of}
use Rattle.printing.specs.Decimal.{digits_by, decimal, signed}
use Rattle.sheet.specs.Numbers.{digits, positive, unsigned, unsigned_cell, signed_cell}
use Rattle.line_bytes.specs.Lines.{line_fields, numbers_bytes, is_line}
use Rattle.line_rows.specs.Rows.{line_numbers, columns_text, row_text, line_row}
use Rattle.sheet.specs.Rows.{highest_of, columns, starts_with, read_cell, read_row}
use Rattle.sheet.specs.declared.Refusal.TheVariants.{WrongForm, OutsideField}
use Rattle.sheet.specs.Sheets.{item, wrong, line_item, row_item}

-- a line of kind 3, group 7, CH4 10, CO2 -1
line : List ℕ
line =
    0 ∷ 52 ∷ 1 ∷ 3 ∷ 0 ∷ 7
    ∷ 0 ∷ 0 ∷ 0 ∷ 0 ∷ 0 ∷ 0 ∷ 0 ∷ 10
    ∷ 0 ∷ 0 ∷ 0 ∷ 0 ∷ 0 ∷ 0 ∷ 0 ∷ 0
    ∷ 255 ∷ 255 ∷ 255 ∷ 255 ∷ 255 ∷ 255 ∷ 255 ∷ 255
    ∷ 0 ∷ 0 ∷ 0 ∷ 0 ∷ 0 ∷ 0 ∷ 0 ∷ 0
    ∷ 0 ∷ 0 ∷ 0 ∷ 0 ∷ 0 ∷ 0 ∷ 0 ∷ 0
    ∷ 0 ∷ 0 ∷ 0 ∷ 0 ∷ 0 ∷ 0 ∷ 0 ∷ 0
    ∷ []

-- "3,7,10,0,-1,0,0,0," and CRLF
row : List ℕ
row = 51 ∷ 44 ∷ 55 ∷ 44 ∷ 49 ∷ 48 ∷ 44 ∷ 48 ∷ 44 ∷ 45 ∷ 49 ∷ 44 ∷ 48 ∷ 44 ∷ 48 ∷ 44 ∷ 48 ∷ 44 ∷ 13 ∷ 10 ∷ []

exported : line_item line ≡ item row []
unfolding line row line_item line_row line_numbers is_line val_at values_at line_fields row_text columns_text signed decimal digits_by
exported = refl

imported : row_item row ≡ item line []
unfolding line row row_item read_row columns line_fields highest_of bytes_hold read_cell unsigned_cell signed_cell unsigned positive digits starts_with
    numbers_bytes bytes_of be
imported = refl

-- a row whose CO2 column, or whose last, is the text t
co2 : List ℕ → List ℕ
co2 t = 51 ∷ 44 ∷ 55 ∷ 44 ∷ 48 ∷ 44 ∷ 48 ∷ 44 ∷ (t ++ (44 ∷ 48 ∷ 44 ∷ 48 ∷ 44 ∷ 48 ∷ 44 ∷ 13 ∷ 10 ∷ []))

-- "-0", "00" and "+1" are no numbers
minus-zero : row_item (co2 (45 ∷ 48 ∷ [])) ≡ wrong WrongForm
unfolding co2 row_item read_row columns line_fields highest_of bytes_hold read_cell unsigned_cell signed_cell unsigned positive digits starts_with
minus-zero = refl

two-zeros : row_item (co2 (48 ∷ 48 ∷ [])) ≡ wrong WrongForm
unfolding co2 row_item read_row columns line_fields highest_of bytes_hold read_cell unsigned_cell signed_cell unsigned positive digits starts_with
two-zeros = refl

plus_one : row_item (co2 (43 ∷ 49 ∷ [])) ≡ wrong WrongForm
unfolding co2 row_item read_row columns line_fields highest_of bytes_hold read_cell unsigned_cell signed_cell unsigned positive digits starts_with
plus_one = refl

-- 9223372036854775808 is outside, and with a minus sign inside
too-high : row_item (co2 (decimal 9223372036854775808)) ≡ wrong OutsideField
unfolding co2 row_item read_row columns line_fields highest_of bytes_hold read_cell unsigned_cell signed_cell unsigned positive digits starts_with
    decimal digits_by
too-high = refl
