-- Document 02, W13: a row of the sheet, read off a text. "Export a run of lines as comma-separated text after RFC 4180, CRLF after every
-- row, no quotes, header `kind,group,ch4,n2o,co2,excreted,land,grazing,co2e`, the last column empty but on kind 8." How a row is written stands in
-- line_rows.
use Rattle.std.specs.Prelude.{ℕ, suc, ◌+◌, ◌-◌, Bool, true, false, ◌&&◌, List, [], ◌∷◌, ◌++◌, length, drop, eqb}
use Rattle.base.specs.Choice.{pick}
use Rattle.codec.specs.declared.Field.{Field}
use Rattle.codec.specs.Codec.{bytes_hold}
use Rattle.line_bytes.specs.Lines.{figure, figure_count, line_fields}
use Rattle.line_rows.specs.Rows.{is_signed}
use Rattle.sheet.specs.declared.rows.Column.{Column}
use Rattle.sheet.specs.Numbers.{half, Cell, unsigned_cell, signed_cell, empty_cell}

-- ---- the columns

abbrev pub column : ℕ → ℕ → Bool → Bool → Column
column width highest signed last = record { width = width; highest = highest; signed = signed; last = last }

-- the highest number of a column: that of its bytes; a signed one goes half as far
unfoldable pub highest_of : Bool → ℕ → ℕ
highest_of signed width = pick signed (half - 1) (bytes_hold width - 1)

-- how many there are: kind, group, the figures and CO2e
abbrev pub column_count : ℕ
column_count = 3 + figure_count

-- the column of a field of a line, by its place
abbrev pub column_of : ℕ → Field → Column
column_of j f = column f.0 (highest_of (is_signed j) f.0) (is_signed j) (eqb j (column_count - 1))

abbrev pub columns_from : ℕ → List Field → List Column
columns_from j [] = []
columns_from j (f ∷ fs) = column_of j f ∷ columns_from (suc j) fs

-- no number
abbrev pub empty : Column
empty = column 0 0 false true

-- kind, group and the figures of a line, and CO2e, which is empty but on kind 8
unfoldable pub columns : ℕ → List Column
columns kind = columns_from 0 (drop 2 line_fields) ++ (pick (eqb kind 8) (column_of (column_count - 1) figure) empty ∷ [])

-- a comma after a column, CRLF after the last
abbrev pub column_end : Bool → List ℕ
column_end true = 13 ∷ 10 ∷ []
column_end false = 44 ∷ []

-- ---- a row read

-- s begins with the text e
unfoldable pub starts_with : List ℕ → List ℕ → Bool
starts_with [] s = true
starts_with (x ∷ e) [] = false
starts_with (x ∷ e) (b ∷ s) = eqb x b && starts_with e s

-- a column's number read off the front of a text
unfoldable pub read_cell : Column → List ℕ → Cell
read_cell c s = pick (eqb c.width 0) (empty_cell s) (pick c.signed (signed_cell c.highest s) (unsigned_cell c.highest s))

-- and what stands after it
abbrev pub ended : List ℕ → Cell → Cell
ended e k = record { good = k.good && starts_with e k.rest; fits = k.fits; value = k.value; rest = drop (length e) k.rest }

abbrev pub read_column : Column → List ℕ → Cell
read_column c s = ended (column_end c.last) (read_cell c s)

-- the columns are all of the form; their numbers are all inside their fields; the values; what stands after the row
pub record Row : Type 0 where
  pub good : Bool
  pub fits : Bool
  pub values : List ℕ
  pub rest : List ℕ

abbrev pub and_then : Cell → Row → Row
and_then k r = record { good = k.good && r.good; fits = k.fits && r.fits; values = k.value ∷ r.values; rest = r.rest }

unfoldable pub read_row : List Column → List ℕ → Row
read_row [] s = record { good = true; fits = true; values = []; rest = s }
read_row (c ∷ cs) s = and_then (read_column c s) (read_row cs (read_column c s).rest)

-- the kind of the row that s begins with; 0 where the first column has no number of one byte
abbrev pub kind_in : List ℕ → ℕ
kind_in s = (unsigned_cell 255 s).value

-- the row that s begins with, read by the columns of its kind
abbrev pub row_in : List ℕ → Row
row_in s = read_row (columns (kind_in s)) s
