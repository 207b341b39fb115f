-- A record in words: alone with all its values, or a pair of the same row with the values that changed, in the units that people say; then the
-- figures of its own line, alone or where they differ.
-- Assumes nothing.
use Rattle.std.specs.Prelude.{ℕ, zero, suc, List, [], ◌∷◌, ◌++◌, Bool, true, false, ◌||◌, not, length, get_or, eqb}
use Rattle.base.specs.Choice.{pick}
use Rattle.codec.specs.Table.{fields}
use Rattle.account.specs.Judge.{record_row}
use Rattle.line_bytes.specs.Lines.{figure_count}
use Rattle.printing.specs.Ascii.{ascii}
use Rattle.printing.specs.Decimal.{decimal}
use Rattle.names.specs.Names.{kind_name, label_of, value_text, unit_text}
use Rattle.promises.specs.WholeLines.{is_detail}
use Rattle.walk.specs.Walk.{Entry}
use Rattle.compare.specs.Records.{same, values_in}
use Rattle.compare.specs.Figures.{figures_text}

-- ---- values

-- what a value is now
abbrev pub other_text : Bool → ℕ → ℕ → ℕ → List ℕ
other_text alone row i w = pick alone [] (ascii ", now " ++ value_text row i w)

-- a value with its name and unit, and what it is now
unfoldable pub field_text : Bool → ℕ → ℕ → ℕ → ℕ → List ℕ
field_text alone row i v w = label_of row i ++ (ascii " " ++ (value_text row i v ++ (unit_text row i ++ other_text alone row i w)))

-- a value is told where its record is alone, else where it changed
abbrev pub is_told : Bool → ℕ → ℕ → Bool
is_told alone v w = alone || not (eqb v w)

abbrev pub between_text : Bool → List ℕ
between_text any = pick any (ascii "; ") []

-- with a semicolon before it where there is one before
unfoldable pub next_text : Bool → Bool → ℕ → ℕ → ℕ → ℕ → List ℕ
next_text any alone row i v w = pick (is_told alone v w) (between_text any ++ field_text alone row i v w) []

-- n fields from i on, of the values vs in the old record and ws in the new one
unfoldable pub fields_from : ℕ → Bool → Bool → ℕ → ℕ → List ℕ → List ℕ → List ℕ
fields_from zero any alone row i vs ws = []
fields_from (suc n) any alone row i vs ws =
    next_text any alone row i (get_or vs i 0) (get_or ws i 0)
    ++ fields_from n (any || is_told alone (get_or vs i 0) (get_or ws i 0)) alone row (suc i) vs ws

-- the kind of a record
abbrev pub row_text : ℕ → List ℕ
row_text row = ascii ", " ++ (kind_name row ++ ascii ": ")

-- the kind of the record r and its values, alone or with those of the record s
unfoldable pub values_text : Bool → List ℕ → List ℕ → List ℕ
values_text alone r s =
    row_text (record_row r) ++ (fields_from (length (fields (record_row r))) false alone (record_row r) 0 (values_in r) (values_in s) ++ ascii "\n")

-- ---- records

-- which book
abbrev pub word_of : Bool → List ℕ
word_of new = pick new (ascii "new") (ascii "old")

-- the line of a detail; a heading's line is the subtotal of the group before it, and a farm record has none
abbrev pub own_line_lem : List ℕ → List ℕ → List ℕ
own_line_lem r lines = pick (is_detail r) lines []

-- the book and the number of a record
abbrev pub numbered_text : Bool → ℕ → List ℕ
numbered_text new i = word_of new ++ (ascii " record " ++ decimal i)

-- record number i of a book, alone
unfoldable pub alone_text : Bool → ℕ → List ℕ → List ℕ → List ℕ
alone_text new i r lines =
    numbered_text new i
    ++ (values_text true r r ++ figures_text figure_count true (own_line_lem r lines) (own_line_lem r lines))

-- two numbers: the second where it is another
abbrev pub both_text : ℕ → ℕ → List ℕ
both_text i j = ascii "record " ++ (decimal i ++ pick (eqb i j) [] (ascii ", now " ++ decimal j))

-- record i of the old book, which is record j of the new one with other values
unfoldable pub changed_text : ℕ → List ℕ → List ℕ → ℕ → List ℕ → List ℕ → List ℕ
changed_text i r lines j s lines' =
    both_text i j ++ (values_text false r s ++ figures_text figure_count false (own_line_lem r lines) (own_line_lem s lines'))

-- a pair: nothing of the same record; of the same row a changed one; else either alone
unfoldable pub pair_text : ℕ → List ℕ → List ℕ → ℕ → List ℕ → List ℕ → List ℕ
pair_text i r lines j s lines' =
    pick (same r s) []
    (pick (eqb (record_row r) (record_row s)) (changed_text i r lines j s lines') (alone_text false i r lines ++ alone_text true j s lines'))

-- the next record of a book, alone, and the next pair; nothing where there is none
abbrev pub first_alone : Bool → ℕ → List Entry → List ℕ
first_alone new i [] = []
first_alone new i (e ∷ es) = alone_text new i e.bytes e.lines

abbrev pub first_pair : ℕ → List Entry → ℕ → List Entry → List ℕ
first_pair i [] j ns = []
first_pair i (e ∷ es) j [] = []
first_pair i (e ∷ es) j (n ∷ ns) = pair_text i e.bytes e.lines j n.bytes n.lines
