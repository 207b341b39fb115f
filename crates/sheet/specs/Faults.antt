-- Where a sheet is not of its form, for people: the row, the column that differs first from a sheet's, what stands there, what is wrong, and what to
-- do. All of it over the bytes of the text and the row of refusal 20.
use Rattle.std.specs.Prelude.{ℕ, zero, suc, ◌+◌, ◌-◌, Bool, true, false, ◌&&◌, ◌||◌, List, [], ◌∷◌, ◌++◌, length, get_or, take, eqb}
use Rattle.base.specs.Choice.{pick}
use Rattle.line_rows.specs.Rows.{column_names}
use Rattle.printing.specs.Ascii.{ascii}
use Rattle.printing.specs.Decimal.{decimal}
use Rattle.names.specs.Names.{shown}
use Rattle.sheet.specs.declared.rows.Column.{Column}
use Rattle.sheet.specs.declared.faults.Fault.{Fault}
use Rattle.sheet.specs.declared.faults.Fault.TheVariants.{Mark, Quotes, Semicolons, FeedAlone, NoEnd, Header, Number, Total, NoTotal}
use Rattle.sheet.specs.Numbers.{first}
use Rattle.sheet.specs.Rows.{empty, columns, column_count, starts_with, read_cell, read_column, kind_in}

-- ---- places in a text

-- what stands after the first n bytes b of a text
unfoldable pub after_marks : ℕ → ℕ → List ℕ → List ℕ
after_marks b n [] = []
after_marks b n (x ∷ s) = pick (eqb n 0) (x ∷ s) (after_marks b (pick (eqb x b) (n - 1) n) s)

-- a cell ends before a comma or a line's end; a line before its end
abbrev pub ends : Bool → ℕ → Bool
ends cell x = (cell && eqb x 44) || (eqb x 13 || eqb x 10)

-- how many bytes the cell, or the line, at the front of a text has
unfoldable pub part_length_lem : Bool → List ℕ → ℕ
part_length_lem cell [] = 0
part_length_lem cell (x ∷ s) = pick (ends cell x) 0 (1 + part_length_lem cell s)

abbrev pub part_at : Bool → List ℕ → List ℕ
part_at cell s = take (part_length_lem cell s) s

-- the byte b stands in a text
unfoldable pub has : ℕ → List ℕ → Bool
has b [] = false
has b (x ∷ s) = eqb x b || has b s

-- ---- what is wrong

-- of the first row, with which s begins: a byte order mark, quotes, semicolons, the right names with a line feed alone or with no line end; else it
-- is no header
unfoldable pub first_fault : List ℕ → Fault
first_fault s =
    pick (starts_with (239 ∷ 187 ∷ 191 ∷ []) s) Mark
    (pick (has 34 (part_at false s)) Quotes
    (pick (has 59 (part_at false s)) Semicolons
    (pick (starts_with column_names s && eqb (get_or s (length column_names) 0) 10) FeedAlone
    (pick (starts_with column_names s && eqb (length s) (length column_names)) NoEnd Header))))

-- of a cell of the last column, with which s begins: a line feed alone after what is right, or no line end; else it is empty, or a number
unfoldable pub last_fault : Column → List ℕ → Fault
last_fault c s =
    pick ((read_cell c s).good && eqb (first (read_cell c s).rest) 10) FeedAlone
    (pick ((read_cell c s).good && eqb (length (read_cell c s).rest) 0) NoEnd (pick (eqb c.width 0) NoTotal Total))

-- of a cell of the column c, with which s begins: quotes, semicolons; else by the column
unfoldable pub cell_fault : Column → List ℕ → Fault
cell_fault c s =
    pick (has 34 (part_at true s)) Quotes
    (pick (has 59 (part_at true s)) Semicolons
    (pick c.last (last_fault c s) Number))

-- what is said of it
abbrev pub words : Fault → List ℕ
words Mark = ascii "a byte order mark stands before the sheet: save it as CSV without one, not as CSV UTF-8"
words Quotes = ascii "cells have no quotes, and here are some: save it as CSV without quotes"
words Semicolons = ascii "cells are separated by commas, and here are semicolons: save it as CSV with commas"
words FeedAlone = ascii "the row ends in a line feed alone: save it as CSV with CRLF, the line ends of Windows"
words NoEnd = ascii "the last row has no line end: each row ends in CRLF, the last one too"
words Header = ascii "the first row has to be " ++ column_names
words Number = ascii "expected a whole number without leading zeros (co2 may have a minus sign), then a comma"
words Total = ascii "expected a whole number without leading zeros, perhaps with a minus sign, then the end of the row"
words NoTotal = ascii "expected nothing before the end of the row: only a row of kind 8 has a co2e"

-- ---- where it is

-- the jth column of a row of a kind
abbrev pub column_at : ℕ → ℕ → Column
column_at kind j = get_or (columns kind) j empty

-- the name of the jth
abbrev pub column_name : ℕ → List ℕ
column_name j = part_at true (after_marks 44 j column_names)

-- a column, and the text from its cell on
pub record Place : Type 0 where
  pub column : ℕ
  pub rest : List ℕ

-- the first of n columns from j on that is not of the form; where all are, the one after them
unfoldable pub bad_by : ℕ → ℕ → ℕ → List ℕ → Place
bad_by zero kind j s = record { column = j; rest = s }
bad_by (suc n) kind j s =
    pick (read_column (column_at kind j) s).good (bad_by n kind (suc j) (read_column (column_at kind j) s).rest) (record { column = j; rest = s })

-- of the row that s begins with
abbrev pub bad_in : List ℕ → Place
bad_in s = bad_by (column_count - 1) (kind_in s) 0 s

-- ---- the sentence

abbrev pub first_text : List ℕ → List ℕ
first_text text = ascii "row 1: " ++ (words (first_fault text) ++ ascii "\n")

-- of the cell at a place in a row of that kind
abbrev pub place_text : ℕ → Place → List ℕ
place_text kind p =
    ascii ", column "
    ++ (column_name p.column
    ++ (ascii ": \""
    ++ (shown (part_at true p.rest) ++ (ascii "\": " ++ (words (cell_fault (column_at kind p.column) p.rest) ++ ascii "\n")))))

-- of a row whose text begins with s
abbrev pub row_fault_text : ℕ → List ℕ → List ℕ
row_fault_text row s = ascii "row " ++ (decimal row ++ place_text (kind_in s) (bad_in s))

-- of the text and the row of its refusal
abbrev pub fault_text : List ℕ → ℕ → List ℕ
fault_text text row = pick (eqb row 1) (first_text text) (row_fault_text row (after_marks 10 (row - 1) text))
