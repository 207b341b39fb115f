-- Document 01, "Figures to meet": "The lister reads a book on standard input and prints a text line per line record: kind, group, the five
-- figures, and for kind 8 CO2e; then `closed`, `unfinished`, or `refused` with code, records, field, one space between."
-- Document 02, W13: "Members open their figures in a spreadsheet." The rows of a sheet come from a book in the same way.
use Rattle.std.specs.Prelude.{ℕ, ◌/◌, ◌≡◌, List, [], ◌∷◌, ◌++◌, take, drop, ltb, leb}
use Rattle.base.specs.Choice.{pick}
use Rattle.line_rows.specs.declared.Form.{Form}
use Rattle.line_rows.specs.declared.Form.TheVariants.{Listing}
use Rattle.line_rows.specs.Rows.{line_row, row_most, rows_text, header}
use Rattle.printing.specs.Decimal.{Put}
use Rattle.last_word.specs.LastWord.{end_text}
use Rattle.book.specs.declared.State.{State}
use Rattle.book.specs.State.{no_record_yet}
use Rattle.book.specs.Run.{run}
use Rattle.book.specs.Call.{Call, call}
use Rattle.book.specs.Way.{Part, way}
use Rattle.lister.specs.declared.Listed.{Listed}

-- a text line per line record, as the lister prints them
abbrev pub lines_text : List ℕ → List ℕ
lines_text xs = rows_text Listing xs

-- ---- a whole book

-- the rows of line records, one after the other
unfoldable pub text_of : Form → List (List ℕ) → List ℕ
text_of form [] = []
text_of form (l ∷ ls) = line_row form l ++ text_of form ls

-- what is printed for a run from a state: the row of each line that rule 2 gives, then the last word
abbrev pub listing_from : State → List ℕ → List ℕ
listing_from s xs = text_of Listing (run s xs).lines ++ end_text (run s xs).state.account

-- what is printed for a book
abbrev pub listing_of : List ℕ → List ℕ
listing_of xs = listing_from no_record_yet xs

-- ---- a book in parts

-- the rows that calls give, one for each part
unfoldable pub rows_on_lem : Form → State → List ℕ → List Part → List ℕ
rows_on_lem form s xs [] = []
rows_on_lem form s xs (p ∷ ps) =
    rows_text form (call s (take p.offered xs) p.room).bytes
    ++ rows_on_lem form (call s (take p.offered xs) p.room).state (drop (call s (take p.offered xs) p.room).taken xs) ps

-- what calls print: the rows of each one's lines, and the last word by the state that they reach
abbrev pub printed : State → List ℕ → List Part → List ℕ
printed s xs ps = rows_on_lem Listing s xs ps ++ end_text (way s xs ps).state.account

-- the lines' room where their rows have n bytes: four for each of theirs
abbrev pub line_room : ℕ → ℕ
line_room n = pick (ltb n 65536) (n / 4) 16384

-- what stands before the rows, where the buffer has room for a row
abbrev pub head_text : Form → ℕ → List ℕ
head_text form room = pick (leb row_most room) (header form) []

-- r is what a call gives, with the rows of its lines at the front of the buffer
pub record Lists (form : Form) (c : Call) (out out' : List ℕ) (r : Listed) : Type 0 where
  pub state : r.state ≡ c.state
  pub taken : r.taken ≡ c.taken
  pub text : Put out out' 0 (rows_text form c.bytes) r.written
