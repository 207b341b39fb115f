-- The table of many books, as comma-separated text (CRLF after each row, no quotes): the header, a row for each file in the order given, and last the
-- row `all` with how many are closed and the sums over them.
use Rattle.std.specs.Prelude.{ℕ, suc, Bool, not, ◌&&◌, ◌||◌, List, [], ◌∷◌, ◌++◌, drop, ◌==◌}
use Rattle.std.specs.List.{list_all}
use Rattle.base.specs.Choice.{pick}
use Rattle.line_rows.specs.declared.Form.TheVariants.{Sheet}
use Rattle.line_rows.specs.Rows.{is_signed, column_text, header}
use Rattle.printing.specs.Ascii.{ascii}
use Rattle.printing.specs.Decimal.{decimal}
use Rattle.table.specs.declared.Seen.{Seen}
use Rattle.table.specs.declared.State.{State}
use Rattle.table.specs.declared.State.TheVariants.{Unreadable, Unfinished, Closed, Refused}
use Rattle.table.specs.declared.sums.Sum.{Sum}
use Rattle.table.specs.declared.sums.Totals.{Totals}
use Rattle.table.specs.Seen.{is_closed}
use Rattle.table.specs.Sums.{fits}

-- ---- the cells

-- the figures' columns have the names that they have in a sheet, after its `kind,group`
abbrev pub header_text : List ℕ
header_text = ascii "file,farm,year,state,records" ++ drop 10 (header Sheet)

-- farm and year, where the farm record was accepted: it is the first
abbrev pub farm_text : Seen → List ℕ
farm_text s = pick (s.records == 0) (ascii ",,") (ascii "," ++ (decimal s.farm ++ (ascii "," ++ decimal s.year)))

abbrev pub word_of : State → List ℕ
word_of Unreadable = ascii "unreadable"
word_of Unfinished = ascii "unfinished"
word_of Closed = ascii "closed"
word_of (Refused code) = ascii "refused " ++ decimal code

abbrev pub state_text : Seen → List ℕ
state_text s = word_of s.state

-- the records accepted, where the file could be read
abbrev pub count_of : State → ℕ → List ℕ
count_of Unreadable records = []
count_of Unfinished records = decimal records
count_of Closed records = decimal records
count_of (Refused code) records = decimal records

abbrev pub records_text : Seen → List ℕ
records_text s = count_of s.state s.records

-- the number of a column as a sheet has it, or an empty cell
abbrev pub cell_text : Bool → ℕ → ℕ → List ℕ
cell_text shown column v = ascii "," ++ pick shown (column_text column v) []

-- the numbers from a column on
unfoldable pub cells_text : Bool → ℕ → List ℕ → List ℕ
cells_text shown column [] = []
cells_text shown column (v ∷ vs) = cell_text shown column v ++ cells_text shown (suc column) vs

-- the sums from a column on, each empty where it does not fit
unfoldable pub sums_text : ℕ → List Sum → List ℕ
sums_text column [] = []
sums_text column (s ∷ ss) = cell_text (fits (is_signed column) s) column s.low ++ sums_text (suc column) ss

-- ---- the rows

-- the figures of a closed book, from CH4 on, and the end of the row
abbrev pub figures_text : Seen → List ℕ
figures_text s = cells_text (is_closed s) 2 (drop 2 s.numbers) ++ ascii "\r\n"

-- of a file
unfoldable pub row_text : List ℕ → Seen → List ℕ
row_text name s = name ++ (farm_text s ++ (ascii "," ++ (state_text s ++ (ascii "," ++ (records_text s ++ figures_text s)))))

-- the last
unfoldable pub last_text : Totals → List ℕ
last_text t = ascii "all,,,," ++ (decimal t.closed ++ (sums_text 2 (drop 2 t.sums) ++ ascii "\r\n"))

-- ---- the names of files

-- no comma, no quote, no line end
abbrev pub is_plain : ℕ → Bool
is_plain b = not ((b == 44 || b == 34) || (b == 13 || b == 10))

-- a name that can stand in a cell
abbrev pub is_name : List ℕ → Bool
is_name name = list_all is_plain name

-- what is said of one that can't
abbrev pub wrong_name_text : List ℕ → List ℕ
wrong_name_text name = ascii "the name " ++ (name ++ ascii " has a comma, a quote or a line end, for which the table has no place: rename the file\n")

abbrev pub no_file_text : List ℕ
no_file_text = ascii "no book is named\n"

-- `0` where all are closed and everything was written, else `1`
abbrev pub status_byte : Bool → Bool → ℕ
status_byte closed written = pick (closed && written) 48 49
