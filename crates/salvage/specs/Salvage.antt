-- Document 02, W5: "Make a salvage tool that writes a clean book and a list of what was dropped". It is one fold over the whole records of the
-- damaged bytes, with the account of the kept ones; what a record would get is the reader's own list of refusals.
-- Assumes nothing.
use Rattle.std.specs.Prelude.{ℕ, ◌+◌, ◌≤◌, List, [], ◌∷◌, ◌++◌, Bool, false, ◌&&◌, ◌||◌, not, Result, Ok, Err, length, drop, ltb, leb, eqb}
use Rattle.base.specs.Choice.{pick}
use Rattle.codec.specs.Codec.{be, record_bytes}
use Rattle.account.specs.declared.Account.{Account}
use Rattle.account.specs.Sorts.{is_of_group}
use Rattle.account.specs.Account.{no_record}
use Rattle.account.specs.Judge.{kind_byte, first, refusals, judge}
use Rattle.account.specs.Line.{joined}
use Rattle.book.specs.WholeRecords.{records_of}
use Rattle.salvage.specs.declared.Reading.{Reading}
use Rattle.salvage.specs.declared.Lengths.{Lengths}
use Rattle.salvage.specs.declared.Unsaved.{Unsaved}
use Rattle.salvage.specs.declared.Unsaved.TheVariants.{NoFarm, NoRoom}

-- ---- what becomes of one record

-- the number that the record r would get, "read after the kept ones", whose account is a; 0 where it would be accepted
abbrev pub would_get : Account → List ℕ → ℕ
would_get a r = first (refusals a r)

-- n is one of lowest to highest
abbrev pub one_of : ℕ → ℕ → ℕ → Bool
one_of lowest highest n = leb lowest n && leb n highest

-- why a record of kind byte k that would get the number c is dropped, in the order it is tried; lost: the last record of kind byte 2 was dropped
abbrev pub drops : ℕ → ℕ → Bool → List (Bool × ℕ)
drops c k lost =
    -- "A record that would get any of 2 to 4 .."
    (one_of 2 4 c, c)
    -- "If a record of kind byte 2 is dropped, so is every kind 3, 4 and 5 record up to the next kept heading, listed with 6 unless 2 to 4 comes
    -- first.", and kind 10 (W10: "It needs a cattle heading, with which W5 drops it."): the details of a group
    ∷ (lost && is_of_group k, 6)
    -- ".. or 6 to 11, read after the kept ones, is dropped."
    ∷ (one_of 6 11 c, c)
    ∷ []

-- the number with which r is dropped, 0 where it is not
unfoldable pub dropped_by : Reading → List ℕ → ℕ
dropped_by s r = first (drops (would_get s.account r) (kind_byte r) s.lost)

-- "a close that none of these drops, .., or 4,095 kept records end the reading"
abbrev pub ends : Reading → List ℕ → Bool
ends s r = leb 4095 s.account.records || (eqb (kind_byte r) 8 && eqb (dropped_by s r) 0)

-- ---- the reading

-- before any record
abbrev pub start : Reading
start = record { account = no_record; lost = false; heading = 0; number = 0 }

-- after r: a kept record is in the account; of a record of kind byte 2 it is noted whether it was dropped, and its number; the next number is one
-- higher
abbrev pub reading_after : Reading → List ℕ → Reading
reading_after s r =
    record {
      account = pick (eqb (dropped_by s r) 0) (judge s.account r).account s.account;
      lost = pick (eqb (kind_byte r) 2) (not (eqb (dropped_by s r) 0)) s.lost;
      heading = pick (eqb (kind_byte r) 2) s.number s.heading;
      number = s.number + 1;
    }

-- "a list of what was dropped: record number in the damaged book from 0 (8 bytes) and code (1)"
pub record Entry : Type 0 where
  pub number : ℕ
  pub code : ℕ

-- the kept records and the list of the dropped ones, each in order
pub record Found : Type 0 where
  pub kept : List (List ℕ)
  pub dropped : List Entry

abbrev pub nothing : Found
nothing = record { kept = []; dropped = [] }

-- the record r of that number first, dropped by that code or, with code 0, kept; then what comes behind it
abbrev pub with : ℕ → ℕ → List ℕ → Found → Found
with code number r behind =
    record {
      kept = pick (eqb code 0) (r ∷ behind.kept) behind.kept;
      dropped = pick (eqb code 0) behind.dropped (record { number = number; code = code } ∷ behind.dropped);
    }

-- what is found in the records rs, going on from a reading
unfoldable pub found : Reading → List (List ℕ) → Found
found s [] = nothing
found s (r ∷ rs) = pick (ends s r) nothing (with (dropped_by s r) s.number r (found (reading_after s r) rs))

-- what is found in the bytes xs: "Code 1, .. the end of the bytes .. end the reading, unlisted" too, since their whole records end there
abbrev pub found_in : Reading → List ℕ → Found
found_in s xs = found s (records_of xs)

-- ---- the clean book and the list

-- the clean book: the kept records, "and a right close is written", which has the count of those before it
abbrev pub book_of : List (List ℕ) → List ℕ
book_of kept = joined kept ++ record_bytes 8 (length kept ∷ [])

-- an entry of the list: "record number .. (8 bytes) and code (1)"
abbrev pub entry_bytes : Entry → List ℕ
entry_bytes e = be 8 e.number ++ be 1 e.code

unfoldable pub list_of : List Entry → List ℕ
list_of [] = []
list_of (e ∷ es) = entry_bytes e ++ list_of es

-- a farm record, of either version, is among them
unfoldable pub farm_among : List (List ℕ) → Bool
farm_among [] = false
farm_among (r ∷ rs) = eqb (kind_byte r) 1 || farm_among rs

-- "19, no farm record among those kept; 16, no room for book or list"
abbrev pub number_of : Unsaved → ℕ
number_of NoFarm = 19
number_of NoRoom = 16

-- this paper's number and values for each answer: 0 and both lengths, or the number of the refusal
abbrev pub numbers : Result Lengths Unsaved → List ℕ
numbers (Ok l) = 0 ∷ l.book ∷ l.list ∷ []
numbers (Err why) = number_of why ∷ []

-- what the tool gives: its answer, the bytes of the clean book and those of the list
pub record Salvage : Type 0 where
  pub answer : Result Lengths Unsaved
  pub book : List ℕ
  pub list : List ℕ

-- "Both write nothing."
abbrev pub refusing : Unsaved → Salvage
refusing why = record { answer = Err why; book = []; list = [] }

-- saved, with both lengths
abbrev pub saving : List ℕ → List ℕ → Salvage
saving book list = record { answer = Ok (record { book = length book; list = length list }); book = book; list = list }

-- "Refusals: 19, no farm record among those kept; 16, no room for book or list, tried last."
unfoldable pub answering : Found → ℕ → ℕ → Salvage
answering f book_room_lem list_room_lem =
    pick (not (farm_among f.kept)) (refusing NoFarm)
    (pick (ltb book_room_lem (length (book_of f.kept)) || ltb list_room_lem (length (list_of f.dropped))) (refusing NoRoom)
    (saving (book_of f.kept) (list_of f.dropped)))

-- the salvage of the damaged bytes, for two buffers of so much room
unfoldable pub salvage_of : List ℕ → ℕ → ℕ → Salvage
salvage_of damaged book_room_lem list_room_lem = answering (found_in start damaged) book_room_lem list_room_lem

-- bytes go to the start of a buffer, and past them it stays
abbrev pub saved_in : List ℕ → List ℕ → List ℕ
saved_in bytes buffer = bytes ++ drop (length bytes) buffer

-- what a caller gets who lends a buffer for the book and one for the list: the answer, and either buffer afterwards
abbrev pub answer_for : List ℕ → List ℕ → List ℕ → Result Lengths Unsaved
answer_for damaged book list = (salvage_of damaged (length book) (length list)).answer

abbrev pub book_after : List ℕ → List ℕ → List ℕ → List ℕ
book_after damaged book list = saved_in (salvage_of damaged (length book) (length list)).book book

abbrev pub list_after : List ℕ → List ℕ → List ℕ → List ℕ
list_after damaged book list = saved_in (salvage_of damaged (length book) (length list)).list list

-- what is written lies inside buffers of so many bytes
abbrev pub Inside : Result Lengths Unsaved → ℕ → ℕ → Type 0
Inside (Ok l) book_room_lem list_room_lem = (l.book ≤ book_room_lem) × (l.list ≤ list_room_lem)
Inside (Err why) book_room_lem list_room_lem = Unit {0}
