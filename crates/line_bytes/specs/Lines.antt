-- Document 01, "Lines, calls and state": the two sorts of line, their fields as data and their bytes.
-- Assumes nothing.
use Rattle.std.specs.Prelude.{ℕ, ◌+◌, ◌-◌, ◌*◌, Bool, ◌&&◌, ◌||◌, List, [], ◌∷◌, ◌++◌, leb, eqb, get_or, length, drop, replicate}
use Rattle.base.specs.Choice.{pick}
use Rattle.codec.specs.declared.Field.{Field}
use Rattle.codec.specs.Table.{field, last_kind}
use Rattle.codec.specs.Codec.{val_at, bytes_of}

-- a figure of a line: grams, or the word of signed grams
abbrev pub figure : Field
figure = field 8 0 18446744073709551615

-- how many a line has: CH4, N2O, CO2, excreted N, land N, CO2e of grazing
abbrev pub figure_count : ℕ
figure_count = 6

-- the bytes of a line: two of its length, version, kind, two of the group, eight of each figure
abbrev pub line_size : ℕ
line_size = 6 + 8 * figure_count

-- the close's line has CO2e too
abbrev pub total_size : ℕ
total_size = line_size + 8

-- the most that one record gives: a subtotal and the close's line
abbrev pub lines_most : ℕ
lines_most = line_size + total_size

-- a line's length counts what follows it
abbrev pub line_length : ℕ
line_length = line_size - 2

abbrev pub total_length : ℕ
total_length = total_size - 2

-- the kind of a group's subtotal, a line that no record has the kind of
abbrev pub subtotal_kind : ℕ
subtotal_kind = 16

-- a line but the close's: length, version, kind, group, then the figures. Its kind is a detail's, 3 to 7, 9 or 10, or the subtotal's
unfoldable pub line_fields : List Field
line_fields = field 2 line_length line_length ∷ field 1 1 1 ∷ field 1 3 subtotal_kind ∷ field 2 0 65535 ∷ replicate figure_count figure

-- the close's line: length, version, kind 8, group 0, the sums of the figures, CO2e
unfoldable pub total_fields : List Field
total_fields = field 2 total_length total_length ∷ field 1 1 1 ∷ field 1 8 8 ∷ field 2 0 0 ∷ replicate (figure_count + 1) figure

-- a line of a detail or a subtotal, of version 1
abbrev pub line_values : ℕ → ℕ → List ℕ → List ℕ
line_values kind group figures = line_length ∷ 1 ∷ kind ∷ group ∷ figures

unfoldable pub line_bytes_lem : ℕ → ℕ → List ℕ → List ℕ
line_bytes_lem kind group figures = bytes_of line_fields (line_values kind group figures) 0

-- the close's line, of version 1
abbrev pub total_values : List ℕ → ℕ → List ℕ
total_values sums co2e = total_length ∷ 1 ∷ 8 ∷ 0 ∷ (sums ++ (co2e ∷ []))

unfoldable pub total_bytes : List ℕ → ℕ → List ℕ
total_bytes sums co2e = bytes_of total_fields (total_values sums co2e) 0

-- the line at the front of some bytes is the close's: its kind is 8
abbrev pub is_total : List ℕ → Bool
is_total xs = eqb (get_or xs 3 0) 8

-- the bytes and the fields of a line of a kind
abbrev pub size_of_kind : ℕ → ℕ
size_of_kind kind = pick (eqb kind 8) total_size line_size

abbrev pub fields_of_kind : ℕ → List Field
fields_of_kind kind = pick (eqb kind 8) total_fields line_fields

-- the bytes of the line at the front of xs
abbrev pub front_size : List ℕ → ℕ
front_size xs = size_of_kind (get_or xs 3 0)

-- the fields of the line at the front of xs
abbrev pub front_fields : List ℕ → List Field
front_fields xs = fields_of_kind (get_or xs 3 0)

-- ---- any line, of this book or another (document 02, W13: "A line's kind is 3 to 10 or 16.")

abbrev pub is_line_kind : ℕ → Bool
is_line_kind k = (leb 3 k && leb k last_kind) || eqb k subtotal_kind

-- the bytes of a line's number by its place, counted from 0: kind, group, then the figures
abbrev pub number_width : ℕ → ℕ
number_width place = (get_or (drop 2 total_fields) place figure).0

-- the bytes of a line from its numbers: kind, group and the figures, in the close's line CO2e too
unfoldable pub numbers_bytes : ℕ → List ℕ → List ℕ
numbers_bytes kind vs = bytes_of (fields_of_kind kind) ((size_of_kind kind - 2) ∷ 1 ∷ vs) 0

-- xs begins with a whole line
unfoldable pub is_line : List ℕ → Bool
is_line xs = ((leb (front_size xs) (length xs) && eqb (val_at xs 0 2) (front_size xs - 2)) && eqb (get_or xs 2 0) 1) && is_line_kind (get_or xs 3 0)
