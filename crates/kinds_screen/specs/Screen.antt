-- The kinds on one screen: for each row of the table a line as it is typed, and below it what each of its values is, with range and unit.
use Rattle.std.specs.Prelude.{ℕ, zero, suc, ◌-◌, List, [], ◌++◌, length}
use Rattle.codec.specs.Table.{last_row, fields}
use Rattle.typed_words.specs.Words.{nth_part}
use Rattle.printing.specs.Ascii.{ascii}
use Rattle.names.specs.Names.{field_name, expected}

-- a line as it is typed for each row, from 0, which is no kind
unfoldable pub example_table : List ℕ
example_table =
    ascii "\n"
    ++ ascii "farm 7 2010 1\n"
    ++ ascii "heading 12 milking 40\n"
    ++ ascii "enteric 31 300 6.5\n"
    ++ ascii "cattle 365 20 16 30 3.2 0 20 80 0\n"
    ++ ascii "pig 365 2.5 0.08 1 0.2 18 1 0.002 0.25 0.01 0 0\n"
    ++ ascii "energy 1 12.5 70000\n"
    ++ ascii "soil 12.5\n"
    ++ ascii "close\n"
    ++ ascii "tillage mixedwood-plains medium intensive-to-no 3 40\n"
    ++ ascii "grazing ontario cows 600 50\n"
    ++ ascii "farm 7 2010 28 265"

abbrev pub example_of : ℕ → List ℕ
example_of row = nth_part 10 row example_table

-- field i, counted from 0: its name, then from, to and unit, or the words of a choice
abbrev pub field_text : ℕ → ℕ → List ℕ
field_text row i = field_name row i ++ expected row i

-- n fields from i on, with a semicolon before each
unfoldable pub fields_from : ℕ → ℕ → ℕ → List ℕ
fields_from zero i row = []
fields_from (suc n) i row = (ascii ";" ++ field_text row i) ++ fields_from n (suc i) row

-- all fields of a row, with a semicolon between
abbrev pub fields_text : ℕ → List ℕ
fields_text row = field_text row 0 ++ fields_from (length (fields row) - 1) 1 row

-- a row: the line as it is typed, and its fields below it
abbrev pub row_text : ℕ → List ℕ
row_text row = example_of row ++ (ascii "\n   " ++ (fields_text row ++ ascii "\n"))

-- n rows from `row` on
unfoldable pub rows_from : ℕ → ℕ → List ℕ
rows_from zero row = []
rows_from (suc n) row = row_text row ++ rows_from n (suc row)

-- the screen
unfoldable pub screen_text : List ℕ
screen_text = ascii "Each kind as it is typed, then its values in order.\n" ++ rows_from last_row 1
