-- A line record as a row of text, in two forms.
-- The lister's, document 01, "Figures to meet": "a text line per line record: kind, group, the five figures, and for kind 8
-- CO2e .., one space between."
-- A sheet's, document 02, W13: "comma-separated text after RFC 4180, CRLF after every row, no quotes, header
-- `kind,group,ch4,n2o,co2,excreted,land,grazing,co2e`, the last column empty but on kind 8."
-- Document 02, W7: "CO2 figures, their sum and CO2e become signed, eight bytes in two's complement."
-- Document 02, W10: "Lines and the state gain it as a sixth figure, .., before CO2e in the total".
use Rattle.std.specs.Prelude.{ℕ, zero, suc, ◌+◌, ◌*◌, List, [], ◌∷◌, ◌++◌, Bool, true, false, ◌||◌, length, drop, ltb, eqb}
use Rattle.base.specs.Choice.{pick}
use Rattle.base.specs.Signed.{signed_of}
use Rattle.codec.specs.Codec.{values_at}
use Rattle.line_bytes.specs.Lines.{figure_count, total_size, is_total, front_size, front_fields}
use Rattle.printing.specs.Ascii.{ascii}
use Rattle.printing.specs.Decimal.{decimal, signed}
use Rattle.line_rows.specs.declared.Form.{Form}
use Rattle.line_rows.specs.declared.Form.TheVariants.{Listing, Sheet}

-- what is printed of the line record at the front: all its values but the first two, which are its length and its version
unfoldable pub line_numbers : List ℕ → List ℕ
line_numbers xs = drop 2 (values_at (front_fields xs) xs 0)

-- the columns of the signed figures, counted from 0: CO2, and kind 8's CO2e, which stands after kind, group and the figures
abbrev pub is_signed : ℕ → Bool
is_signed column = eqb column 4 || eqb column (2 + figure_count)

-- the number of a column as text
abbrev pub column_text : ℕ → ℕ → List ℕ
column_text column v = pick (is_signed column) (signed (signed_of v)) (decimal v)

-- what stands between two columns: a blank, or a comma
abbrev pub between : Form → ℕ
between Listing = 32
between Sheet = 44

-- the numbers from a column on, each with what stands between
unfoldable pub columns_text : Form → ℕ → List ℕ → List ℕ
columns_text form column [] = []
columns_text form column (v ∷ vs) = (between form ∷ column_text column v) ++ columns_text form (suc column) vs

-- what ends a row: a newline, or CRLF; a sheet's last column, CO2e, is empty but in the close's line
abbrev pub ending : Form → Bool → List ℕ
ending Listing total = ascii "\n"
ending Sheet true = ascii "\r\n"
ending Sheet false = ascii ",\r\n"

-- the row of a line record's numbers
unfoldable pub row_text : Form → Bool → List ℕ → List ℕ
row_text form total [] = ending form total
row_text form total (v ∷ vs) = column_text 0 v ++ (columns_text form 1 vs ++ ending form total)

-- the row of the line record at the front
unfoldable pub line_row : Form → List ℕ → List ℕ
line_row form xs = row_text form (is_total xs) (line_numbers xs)

-- the most bytes of a row: four for each byte of a line
abbrev pub row_most : ℕ
row_most = 4 * total_size

-- a row for each line record, of at most n that stand whole in the bytes
unfoldable pub rows_by : Form → ℕ → List ℕ → List ℕ
rows_by form zero xs = []
rows_by form (suc n) xs = pick (ltb (length xs) (front_size xs)) [] (line_row form xs ++ rows_by form n (drop (front_size xs) xs))

-- a row for each line record: there are no more of them than bytes
unfoldable pub rows_text : Form → List ℕ → List ℕ
rows_text form xs = rows_by form (suc (length xs)) xs

-- the names of the figures and of CO2e: a sheet's columns, and for people, a line each
abbrev pub figure_columns : List ℕ
figure_columns = ascii "ch4,n2o,co2,excreted,land,grazing,co2e"

unfoldable pub figure_names : List ℕ
figure_names = ascii "CH4\nN2O\nCO2\nN excreted\nN for land\ngrazing CO2e\nCO2e"

-- the names of a sheet's columns
abbrev pub column_names : List ℕ
column_names = ascii "kind,group," ++ figure_columns

-- what stands before the rows: of a sheet the names of its columns
unfoldable pub header : Form → List ℕ
header Listing = []
header Sheet = column_names ++ ascii "\r\n"

-- a sheet's form, in words
abbrev pub sheet_form : List ℕ
sheet_form =
    ascii "first the row "
    ++ (column_names
    ++ ascii ", then rows of nine columns, no leading zeros, the last empty but on kind 8; CRLF after each")
