-- How far the reading of a damaged book goes, and what ends it: document 02, W5, "Code 1, a close that none of these drops, the end of the bytes, or
-- 4,095 kept records end the reading".
-- Assumes nothing.
use Rattle.std.specs.Prelude.{ℕ, ◌+◌, ◌-◌, min, List, [], ◌∷◌, Bool, false, ◌&&◌, not, length, take, drop, ltb, leb, eqb}
use Rattle.base.specs.Choice.{pick}
use Rattle.codec.specs.Codec.{val_at}
use Rattle.account.specs.Judge.{kind_byte}
use Rattle.account.specs.Line.{joined}
use Rattle.book.specs.Front.{Front, unfinished, bad_length, whole, need, bad, front}
use Rattle.walk.specs.Walk.{record_at}
use Rattle.book.specs.WholeRecords.{records_of}
use Rattle.salvage.specs.declared.Reading.{Reading}
use Rattle.salvage.specs.declared.how_far.Ending.{Ending}
use Rattle.salvage.specs.declared.how_far.Ending.TheVariants.{AtEnd, AtClose, Full, NoLength, NotWhole}
use Rattle.salvage.specs.declared.how_far.ReadingEnd.{ReadingEnd}
use Rattle.salvage.specs.Salvage.{dropped_by, ends, reading_after, start, found_in}
use Rattle.salvage.specs.Promised.{read_by}

-- ---- how far it goes

-- it goes on: what stands at the front of xs is a whole record that does not end it
abbrev pub goes_on_lem : Front → Reading → List ℕ → Bool
goes_on_lem unfinished s xs = false
goes_on_lem bad_length s xs = false
goes_on_lem whole s xs = not (ends s (record_at xs))

-- the reading at which the one of the records rs ends, going on from s
unfoldable pub reached : Reading → List (List ℕ) → Reading
reached s [] = s
reached s (r ∷ rs) = pick (ends s r) s (reached (reading_after s r) rs)

-- the reading at which the one of the bytes xs ends
abbrev pub reached_in : Reading → List ℕ → Reading
reached_in s xs = reached s (records_of xs)

-- the bytes of xs that are read: those of the records that are kept or listed
abbrev pub bytes_read : Reading → List ℕ → ℕ
bytes_read s xs = length (joined (take (read_by (found_in s xs)) (records_of xs)))

-- ---- what ends it

-- the bytes of "a close that none of these drops" at the front of xs; 0 where there is none
abbrev pub close_bytes : Front → Reading → List ℕ → ℕ
close_bytes unfinished s xs = 0
close_bytes bad_length s xs = 0
close_bytes whole s xs = pick (eqb (kind_byte (record_at xs)) 8 && eqb (dropped_by s (record_at xs)) 0) (need xs) 0

-- which end it is, by the bytes xs that were not read and the close at their front: of several the first. Code 1 goes with the length, which two
-- bytes make; what is left is the end of the bytes inside a record.
abbrev pub ending_at : Reading → List ℕ → ℕ → Ending
ending_at s xs close =
    pick (eqb (length xs) 0) AtEnd
    (pick (ltb 0 close) AtClose
    (pick (leb 4095 s.account.records) Full
    (pick (leb 2 (length xs) && bad xs) (NoLength (val_at xs 0 2)) NotWhole)))

-- the end of a reading: the byte where the record begins that ended it, why it did, and how many bytes were not read; a close that ends it is read
abbrev pub end_at : Reading → ℕ → List ℕ → ReadingEnd
end_at s at xs =
    let close = close_bytes (front xs) s xs in
    record { at = at; why = ending_at s xs close; unread = length xs - close }

-- of a damaged book
unfoldable pub end_of : List ℕ → ReadingEnd
end_of xs = end_at (reached_in start xs) (bytes_read start xs) (drop (bytes_read start xs) xs)

-- n more bytes stand after those that were looked at; a count that is full stays
abbrev pub followed_by : ReadingEnd → ℕ → ReadingEnd
followed_by e n = record { at = e.at; why = e.why; unread = min (e.unread + n) 18446744073709551615 }

-- all was read: the last byte is one of a record that was kept or listed, or of the close
abbrev pub all_read_lem : ReadingEnd → Bool
all_read_lem e = eqb e.unread 0
