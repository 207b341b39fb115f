-- A book as a table of its records, for programs that list them: comma-separated text in the form of document 02's W13 (CRLF after every row, no
-- quotes), a row for each accepted record in the book's order, with the line that `retype` prints and the figures of its own line. A subtotal is a
-- row of its own before the record that gives it.
-- Assumes nothing.
use Rattle.std.specs.Prelude.{ℕ, suc, ◌+◌, ◌-◌, ◌*◌, List, [], ◌∷◌, ◌++◌, false, ◌&&◌, length, get_or, take, drop, replicate, leb, ltb, eqb}
use Rattle.base.specs.Choice.{pick}
use Rattle.printing.specs.Ascii.{ascii}
use Rattle.printing.specs.Decimal.{decimal}
use Rattle.names.specs.Names.{kind_name}
use Rattle.codec.specs.Codec.{values_at}
use Rattle.line_bytes.specs.Lines.{figure_count, line_fields, line_size, subtotal_kind, is_total, front_size}
use Rattle.line_rows.specs.declared.Form.TheVariants.{Sheet}
use Rattle.line_rows.specs.Rows.{line_numbers, columns_text, ending, figure_columns}
use Rattle.account.specs.declared.Account.{Account}
use Rattle.account.specs.Range.{account_in_range}
use Rattle.account.specs.Sorts.{sort_of, by_sort}
use Rattle.account.specs.Judge.{record_row, values_of}
use Rattle.walk.specs.Walk.{Entry, entries_after, entries_of}
use Rattle.retype.specs.Typed.{values_typed}
use Rattle.retype.specs.Book.{Retyping, typed_by, line_most}

-- the names of the columns
abbrev pub header : List ℕ
header = ascii "record,first,last,name,group,typed," ++ (figure_columns ++ ascii "\r\n")

-- ---- the lines of a record

-- the bytes of the subtotal that a record's lines begin with, 0 where they begin with none
unfoldable pub subtotal_size : List ℕ → ℕ
subtotal_size lines = pick (leb line_size (length lines) && eqb (get_or lines 3 0) subtotal_kind) line_size 0

abbrev pub subtotal_in : List ℕ → List ℕ
subtotal_in lines = take (subtotal_size lines) lines

-- the record's own line, after it
abbrev pub own_in : List ℕ → List ℕ
own_in lines = drop (subtotal_size lines) lines

-- ---- cells

-- an empty cell for each figure and for CO2e
abbrev pub empty_text : List ℕ
empty_text = replicate (figure_count + 1) 44 ++ ascii "\r\n"

-- the figures of a line as a sheet has them, from ch4 on; empty cells where there is no line
unfoldable pub figures_text : List ℕ → List ℕ
figures_text line =
    pick (ltb (length line) (front_size line)) empty_text
    (columns_text Sheet 2 (drop 2 (line_numbers line)) ++ ending Sheet (is_total line))

-- the group that a line bears, its fourth value; empty where there is no line
unfoldable pub group_in : List ℕ → List ℕ
group_in line = pick (ltb (length line) line_size) [] (decimal (get_or (values_at line_fields line 0) 3 0))

-- the group of a record of a row: a heading's own, of a detail of the group its line's; the farm's own records have none
abbrev pub group_text : ℕ → ℕ → List ℕ → List ℕ
group_text row own line = by_sort (sort_of row) [] (decimal own) (group_in line) [] []

-- the number of a record, its first and its last byte
abbrev pub place_text : ℕ → ℕ → ℕ → List ℕ
place_text number first last = decimal number ++ (44 ∷ (decimal first ++ (44 ∷ decimal last)))

-- the line that `retype` prints for a record, without its line feed
abbrev pub typed_text : List ℕ → List ℕ
typed_text r = kind_name (record_row r) ++ values_typed (record_row r) 0 (values_of r)

-- ---- rows

-- a row, and the line whose figures stand in it; `place` is the text of the three cells record, first and last
pub record Row : Type 0 where
  pub place : List ℕ
  pub name : List ℕ
  pub group : List ℕ
  pub typed : List ℕ
  pub line : List ℕ

abbrev pub row_text : Row → List ℕ
row_text x = x.place ++ (44 ∷ (x.name ++ (44 ∷ (x.group ++ (44 ∷ (x.typed ++ figures_text x.line))))))

-- the row of a subtotal
abbrev pub subtotal_row : List ℕ → Row
subtotal_row line = record { place = ascii ",,"; name = ascii "subtotal"; group = group_in line; typed = []; line = line }

-- the row of a record, by its number, first and last byte, row of the table of kinds, own group where it is a heading, typed line, and line
abbrev pub row_with : ℕ → ℕ → ℕ → ℕ → ℕ → List ℕ → List ℕ → Row
row_with number first last row own typed line =
    record { place = place_text number first last; name = kind_name row; group = group_text row own line; typed = typed; line = line }

-- that of the record r with this number and first byte, which gives this line or none
abbrev pub own_row : ℕ → ℕ → List ℕ → List ℕ → Row
own_row number first r line = row_with number first (first + length r - 1) (record_row r) (get_or (values_of r) 0 0) (typed_text r) line

-- a record's own row, after that of the subtotal where its lines begin with one
unfoldable pub after_subtotal : List ℕ → Row → List Row
after_subtotal lines own = pick (eqb (subtotal_size lines) 0) (own ∷ []) (subtotal_row (subtotal_in lines) ∷ own ∷ [])

-- the rows of an accepted record
abbrev pub entry_rows : ℕ → ℕ → Entry → List Row
entry_rows number first e = after_subtotal e.lines (own_row number first e.bytes (own_in e.lines))

-- the rows of accepted records, one after the other, the first with this number and first byte
unfoldable pub rows_from : ℕ → ℕ → List Entry → List Row
rows_from number first [] = []
rows_from number first (e ∷ es) = entry_rows number first e ++ rows_from (suc number) (first + length e.bytes) es

unfoldable pub text_of : List Row → List ℕ
text_of [] = []
text_of (x ∷ xs) = row_text x ++ text_of xs

-- the rows of a book
unfoldable pub table_of : List ℕ → List Row
table_of book = rows_from 0 0 (entries_of book)

-- the lines whose figures stand in rows, one after the other
unfoldable pub lines_in : List Row → List ℕ
lines_in [] = []
lines_in (x ∷ xs) = x.line ++ lines_in xs

-- the typed cells of rows that are not empty, a line feed after each
unfoldable pub typed_in : List Row → List ℕ
typed_in [] = []
typed_in (x ∷ xs) = pick (eqb (length x.typed) 0) (typed_in xs) (x.typed ++ (10 ∷ typed_in xs))

-- ---- some of its rows

-- what x gives, with another text
abbrev pub with_text : Retyping → List ℕ → Retyping
with_text x text = record { account = x.account; taken = x.taken; text = text; more = x.more }

-- the first n accepted records of a book from its byte `at` on, after the account a: what `retype` gives of them, with their rows for typed lines
unfoldable pub rows_by : ℕ → Account → ℕ → List ℕ → Retyping
rows_by n a at book =
    with_text (typed_by n a (drop at book)) (text_of (rows_from a.records at (take n (entries_after a (drop at book)))))

-- an account outside its ranges is that of no book, and after a book's end there is nothing: no rows
abbrev pub rows_after : ℕ → Account → ℕ → List ℕ → Retyping
rows_after n a at book =
    pick (account_in_range a && leb at (length book)) (rows_by n a at book) (record { account = a; taken = 0; text = []; more = false })

-- ---- the most bytes of it

-- a number has at most 20 bytes, and a comma before it
abbrev pub number_most : ℕ
number_most = 21

-- the figures of a line, or the empty cells, and CRLF
abbrev pub figures_most : ℕ
figures_most = (figure_count + 1) * number_most + 2

-- a subtotal's row: `,,,subtotal`, the group, a comma, the figures
abbrev pub subtotal_most : ℕ
subtotal_most = 11 + number_most + 1 + figures_most

-- a record's own: three numbers, a name of 7 bytes with a comma on either side, the group, a comma, the typed line, the figures
abbrev pub own_most : ℕ
own_most = 3 * number_most + 8 + number_most + line_most + figures_most

abbrev pub rows_most : ℕ
rows_most = subtotal_most + own_most
