-- The table of kinds for machines, as comma-separated text (CRLF after each row, no quotes): a row for each field of each row of the table of kinds,
-- its range in the unit that people say. It has what forms, help and completions need, so that none of them lists kinds by itself.
use Rattle.std.specs.Prelude.{ℕ, zero, suc, ◌+◌, ◌-◌, List, [], ◌++◌, length}
use Rattle.base.specs.Choice.{pick}
use Rattle.codec.specs.Table.{last_row, fields, field_at, row_kind, row_version}
use Rattle.printing.specs.Ascii.{ascii}
use Rattle.printing.specs.Decimal.{decimal, pointed}
use Rattle.names.specs.Names.{kind_name, label_of, decimals_at, unit_of, is_choice, choice_word, help_of}
use Rattle.names.specs.Usual.{usual_ranges}

abbrev pub header : List ℕ
header = ascii "row,kind,version,name,field,label,decimals,lowest,highest,unit,choices,usual,help\r\n"

-- the words of a choice for n numbers from v on, with a bar before each
unfoldable pub choices_from : ℕ → ℕ → ℕ → ℕ → List ℕ
choices_from zero v row i = []
choices_from (suc n) v row i = (ascii "|" ++ choice_word row i v) ++ choices_from n (suc v) row i

-- all words of a choice, with a bar between; nothing for any other field
abbrev pub choices_text : ℕ → ℕ → List ℕ
choices_text row i = pick (is_choice row i) (choice_word row i 1 ++ choices_from ((field_at row i).2 - 1) 2 row i) []

-- a cell after the first, with the comma before it
abbrev pub next : List ℕ → List ℕ
next text = ascii "," ++ text

-- what a row of the table begins with: its number, the kind byte and the version of its records, and the kind's name
abbrev pub row_text : ℕ → List ℕ
row_text row = decimal row ++ (next (decimal (row_kind row)) ++ (next (decimal (row_version row)) ++ next (kind_name row)))

-- field i, counted from 0 and printed from 1: its name, its decimals, from and to
abbrev pub range_text : ℕ → ℕ → List ℕ
range_text row i =
    next (decimal (i + 1))
    ++ (next (label_of row i)
    ++ (next (decimal (decimals_at row i))
    ++ (next (pointed (decimals_at row i) (field_at row i).1) ++ next (pointed (decimals_at row i) (field_at row i).2))))

-- its unit, its words, which values are usual, and what it is
abbrev pub words_text : ℕ → ℕ → List ℕ
words_text row i = next (unit_of row i) ++ (next (choices_text row i) ++ (next (usual_ranges row i) ++ (next (help_of row i) ++ ascii "\r\n")))

abbrev pub field_text : ℕ → ℕ → List ℕ
field_text row i = row_text row ++ (range_text row i ++ words_text row i)

-- n fields of a row from i on
unfoldable pub fields_from : ℕ → ℕ → ℕ → List ℕ
fields_from zero i row = []
fields_from (suc n) i row = field_text row i ++ fields_from n (suc i) row

-- n rows from `row` on
unfoldable pub rows_from : ℕ → ℕ → List ℕ
rows_from zero row = []
rows_from (suc n) row = fields_from (length (fields row)) 0 row ++ rows_from n (suc row)

-- the whole table
unfoldable pub kinds_text : List ℕ
kinds_text = header ++ rows_from last_row 1
