-- For the contracts of src/numbers, rows and lines, and of what import adds up (src/lib): what the code holds of a number, a column and a row read at
-- an index of the text. A reader of the promises can pass this file over.
use Rattle.std.specs.Prelude.{◌≡◌, ℕ, ◌+◌, ◌≤◌, ◌<◌, Bool, true, false, List, [], length, drop, leb, ltb, Option, Some, None, Result, Ok, Err}
use Rattle.base.specs.Choice.{pick}
use Rattle.line_bytes.specs.Lines.{numbers_bytes}
use Rattle.sheet.specs.declared.numbers.CellFault.{CellFault}
use Rattle.sheet.specs.declared.numbers.CellFault.TheVariants.{Malformed, Outside}
use Rattle.sheet.specs.declared.numbers.Read.{Read}
use Rattle.sheet.specs.declared.rows.Column.{Column}
use Rattle.sheet.specs.declared.rows.RowRead.{RowRead}
use Rattle.sheet.specs.declared.rows.BadRow.{BadRow}
use Rattle.sheet.specs.declared.Refusal.{Refusal}
use Rattle.sheet.specs.declared.Refusal.TheVariants.{WrongForm, OutsideField}
use Rattle.sheet.specs.declared.Refused.{Refused}
use Rattle.sheet.specs.Numbers.{half, full, Number, Cell}
use Rattle.sheet.specs.Rows.{column_count, Row}
use Rattle.sheet.specs.declared.faults.Spot.{Spot}
use Rattle.sheet.specs.Faults.{Place}
use Rattle.sheet.specs.Sheets.{item, wrong, Made, made, refused, row_item, no_room}

-- a number in 64 bits, where they hold it
abbrev pub held : ℕ → Option ℕ
held w = pick (ltb w full) (Some w) None

-- a number that is of the form and fits, or what is wrong with it
abbrev pub result_of : Bool → Bool → ℕ → Result ℕ CellFault
result_of good fits value = pick good (pick fits (Ok value) (Err Outside)) (Err Malformed)

-- of a number in 64 bits, and of a cell
abbrev pub in_bits : Number → Result ℕ CellFault
in_bits n = result_of n.good (ltb n.value full) n.value

abbrev pub number_of : Cell → Result ℕ CellFault
number_of k = result_of k.good k.fits k.value

-- whether what was read is of the form
abbrev pub is_formed : Result ℕ CellFault → Bool
is_formed (Ok v) = true
is_formed (Err Malformed) = false
is_formed (Err Outside) = true

-- r is the number n, read in the text
pub record IsRun (text : List ℕ) (n : Number) (r : Read) : Type 0 where
  pub number : r.number ≡ in_bits n
  pub rest : drop r.end text ≡ n.rest
  pub inside : r.end ≤ length text

-- r is the cell k, read in the text
pub record IsRead (text : List ℕ) (k : Cell) (r : Read) : Type 0 where
  pub number : r.number ≡ number_of k
  pub rest : drop r.end text ≡ k.rest
  pub inside : r.end ≤ length text

-- r is what was read in the text of the row k of this kind, whether it is of the form or not
pub record IsRowRead (text : List ℕ) (kind : ℕ) (k : Row) (r : RowRead) : Type 0 where
  pub kinds : r.kind ≡ kind
  pub values : r.values ≡ k.values
  pub rest : drop r.end text ≡ k.rest
  pub inside : r.end ≤ length text

-- what is wrong with the row k
abbrev pub IsFault : Row → CellFault → Type 0
IsFault k Malformed = k.good ≡ false
IsFault k Outside = (k.good ≡ true) × (k.fits ≡ false)

-- r is the row k of this kind, of the form and with numbers that all fit, read in the text
pub record IsWhole (text : List ℕ) (kind : ℕ) (k : Row) (r : RowRead) : Type 0 where
  pub good : k.good ≡ true
  pub fits : k.fits ≡ true
  pub read : IsRowRead text kind k r

-- b is what is wrong with the row k of this kind, and what was read of it in the text
pub record IsBadRow (text : List ℕ) (kind : ℕ) (k : Row) (b : BadRow) : Type 0 where
  pub fault : IsFault k b.fault
  pub fits : b.fits ≡ k.fits
  pub read : IsRowRead text kind k b.read

-- the row k of this kind, read in the text, or what is wrong with it
abbrev pub IsRow : List ℕ → ℕ → Row → Result RowRead BadRow → Type 0
IsRow text kind k (Ok r) = IsWhole text kind k r
IsRow text kind k (Err b) = IsBadRow text kind k b

-- what a row is refused for
abbrev pub refusal_of : CellFault → Refusal
refusal_of Malformed = WrongForm
refusal_of Outside = OutsideField

-- r is the row that s begins with, with its line
pub record IsLine (text s : List ℕ) (r : RowRead) : Type 0 where
  pub line : row_item s ≡ item (numbers_bytes r.kind r.values) (drop r.end text)
  pub inside : r.end ≤ length text
  pub shorter : length (drop r.end text) < length s

-- the row that s begins with, or its refusal
abbrev pub IsLineRow : List ℕ → List ℕ → Result RowRead Refusal → Type 0
IsLineRow text s (Ok r) = IsLine text s r
IsLineRow text s (Err why) = row_item s ≡ wrong why

-- a count of bytes up to the room, or none where it is past it
abbrev pub total_of : ℕ → ℕ → Option ℕ
total_of room k = pick (ltb room k) None (Some k)

-- a count with so many bytes more: one that is past the room stays so
abbrev pub more_bytes : Option ℕ → ℕ → ℕ → Option ℕ
more_bytes None size room = None
more_bytes (Some n) size room = total_of room (n + size)

-- the answer where k bytes come before what is made
abbrev pub answer_after : ℕ → Made → ℕ → Result ℕ Refused
answer_after k (made t) room = pick (leb (k + length t) room) (Ok (k + length t)) (Err no_room)
answer_after k (refused why row) room = Err (record { why = why; row = row })

-- the bytes made, none where it is refused
abbrev pub made_of : Made → List ℕ
made_of (made t) = t
made_of (refused why row) = []

-- r is the place p in the row of this kind with which the text begins
pub record IsSpot (text : List ℕ) (kind : ℕ) (p : Place) (r : Spot) : Type 0 where
  pub kinds : r.kind ≡ kind
  pub column : r.column ≡ p.column
  pub rest : drop r.at text ≡ p.rest
  pub inside : r.at ≤ length text
  pub few : r.column < column_count

-- what the code asks of a column
pub record Fair (c : Column) : Type 0 where
  pub narrow : c.width ≤ 8
  pub lower : c.signed ≡ true → c.highest < half
