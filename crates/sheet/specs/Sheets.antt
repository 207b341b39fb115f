-- Document 02, W13: whole sheets. "Refusals: 20, text not of this form, with the row, header 1; 21, a number outside its field; 23, bytes to
-- export that are no run of whole lines; 16, no room. Reading goes by row, 20 before 21, and 16 is last. Each writes nothing."
use Rattle.std.specs.Prelude.{Result, Ok, Err, ℕ, zero, suc, ◌&&◌, List, [], ◌∷◌, ◌++◌, length, drop, leb}
use Rattle.base.specs.Choice.{pick}
use Rattle.line_bytes.specs.Lines.{front_size, is_line_kind, numbers_bytes, is_line}
use Rattle.line_rows.specs.declared.Form.TheVariants.{Sheet}
use Rattle.line_rows.specs.Rows.{line_row, header}
use Rattle.sheet.specs.declared.Refusal.{Refusal}
use Rattle.sheet.specs.declared.Refusal.TheVariants.{Full, WrongForm, OutsideField, NoLines}
use Rattle.sheet.specs.declared.Refused.{Refused}
use Rattle.sheet.specs.declared.Numbered.{Numbered}
use Rattle.sheet.specs.Rows.{starts_with, Row, kind_in, row_in}

-- the number of a refusal
abbrev pub code_of : Refusal → ℕ
code_of Full = 16
code_of WrongForm = 20
code_of OutsideField = 21
code_of NoLines = 23

-- a refusal by its number, with its row
abbrev pub numbered_of : Refused → Numbered
numbered_of r = record { code = code_of r.why; row = r.row }

-- ---- one after the other, in either direction

-- what the front of some bytes becomes, and what stands after it; or the refusal
pub data Item : Type 0 where
  item : List ℕ → List ℕ → Item
  wrong : Refusal → Item

-- what all of them become; or the refusal, and its row
pub data Made : Type 0 where
  made : List ℕ → Made
  refused : Refusal → ℕ → Made

-- with p in front
abbrev pub before : List ℕ → Made → Made
before p (made t) = made (p ++ t)
before p (refused why row) = refused why row

-- an item, then what is made of the bytes after it
abbrev pub goes_on_lem : Item → ℕ → (List ℕ → Made) → Made
goes_on_lem (item p r) row next = before p (next r)
goes_on_lem (wrong why) row next = refused why row

-- at most n items up to the end of s, the first in this row
unfoldable pub each_by : (List ℕ → Item) → ℕ → ℕ → List ℕ → Made
each_by f zero row s = refused Full row
each_by f (suc n) row [] = made []
each_by f (suc n) row (b ∷ s) = goes_on_lem (f (b ∷ s)) row (each_by f n (suc row))

-- there are no more of them than bytes
abbrev pub each : (List ℕ → Item) → ℕ → List ℕ → Made
each f row s = each_by f (suc (length s)) row s

-- ---- lines to text

-- a line as its row
unfoldable pub line_item : List ℕ → Item
line_item s = pick (is_line s) (item (line_row Sheet s) (drop (front_size s) s)) (wrong NoLines)

-- 23 has no row
abbrev pub no_row : Made → Made
no_row (made t) = made t
no_row (refused why row) = refused why 0

-- a row for each line
unfoldable pub rows_of : List ℕ → Made
rows_of lines = no_row (each line_item 0 lines)

unfoldable pub export_of : List ℕ → Made
export_of lines = before (header Sheet) (rows_of lines)

-- ---- text to lines

-- the row that s begins with as a line
abbrev pub row_as : ℕ → Row → Item
row_as kind r = pick r.good (pick (r.fits && is_line_kind kind) (item (numbers_bytes kind r.values) r.rest) (wrong OutsideField)) (wrong WrongForm)

unfoldable pub row_item : List ℕ → Item
row_item s = row_as (kind_in s) (row_in s)

unfoldable pub import_of : List ℕ → Made
import_of text = pick (starts_with (header Sheet) text) (each row_item 2 (drop (length (header Sheet)) text)) (refused WrongForm 1)

-- ---- into a buffer

-- this paper's number and values for each answer: 0 and the bytes written, or the refusal's number with its row, 0 where it has none
abbrev pub numbers : Result ℕ Refused → List ℕ
numbers (Ok n) = 0 ∷ n ∷ []
numbers (Err r) = code_of r.why ∷ r.row ∷ []

-- that there is no room for it, which has no row
abbrev pub no_room : Refused
no_room = record { why = Full; row = 0 }

-- the answer with a buffer of so many bytes
unfoldable pub answer : Made → ℕ → Result ℕ Refused
answer (made t) room = pick (leb (length t) room) (Ok (length t)) (Err no_room)
answer (refused why row) room = Err (record { why = why; row = row })

-- the buffer afterwards
unfoldable pub buffer : Made → List ℕ → List ℕ
buffer (made t) out = pick (leb (length t) (length out)) (t ++ drop (length t) out) out
buffer (refused why row) out = out
