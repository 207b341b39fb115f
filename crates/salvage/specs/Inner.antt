-- The contracts of the inner functions, in parts. A reader of the promises can pass this file over: no public contract cites it.
-- Assumes nothing.
use Rattle.std.specs.Prelude.{ℕ, ◌+◌, ◌≤◌, ◌<◌, ◌≡◌, List, [], ◌∷◌, ◌++◌, Option, Some, None, length, take, drop, eqb, true, false}
use Rattle.base.specs.Choice.{pick}
use Rattle.codec.specs.Codec.{record_bytes}
use Rattle.account.specs.Range.{AccountInRange}
use Rattle.account.specs.Judge.{kind_byte, judge}
use Rattle.account.specs.Line.{joined}
use Rattle.book.specs.Front.{need, front}
use Rattle.book.specs.WholeRecords.{Ready, records_of}
use Rattle.walk.specs.Walk.{record_at}
use Rattle.salvage.specs.declared.Reading.{Reading}
use Rattle.salvage.specs.declared.turns.Seen.{Seen}
use Rattle.salvage.specs.declared.turns.Turn.{Turn}
use Rattle.salvage.specs.declared.how_far.Reached.{Reached}
use Rattle.salvage.specs.declared.passes.Sizes.{Sizes}
use Rattle.salvage.specs.Salvage.{dropped_by, reading_after, start, Found, nothing, with, found_in, entry_bytes, book_of}
use Rattle.salvage.specs.HowFar.{goes_on_lem, reached_in, bytes_read}
use Rattle.salvage.specs.Lines.{dropped_text, words_for}

-- the account of the kept records is that of an open book, and the last heading stands before the next record
pub record Open (s : Reading) : Type 0 where
  pub range : AccountInRange s.account
  pub early : s.account.stage < 2
  pub headed : s.heading ≤ s.number

-- the number that drops a record, 0 where none does, as the code has it
abbrev pub as_told : ℕ → Option ℕ
as_told code = pick (eqb code 0) None (Some code)

-- one thing for a kept record, another for a dropped one
abbrev pub by_told : {A : Type 0} → Option ℕ → A → A → A
by_told None kept dropped = kept
by_told (Some code) kept dropped = dropped

-- v is the record that lies whole at the front of xs, seen after the reading s; with no bytes there is none
pub record Sees (s : Reading) (xs : List ℕ) (v : Seen) : Type 0 where
  pub ready : Ready xs v.size
  pub inside : v.size ≤ length xs
  pub kind : 0 < v.size → v.kind ≡ kind_byte (take v.size xs)
  pub code : 0 < v.size → v.code ≡ as_told (dropped_by s (take v.size xs))
  pub account : 0 < v.size → v.account ≡ (judge s.account (take v.size xs)).account

-- t is one record of xs: its bytes, the number that drops it, and the reading behind it; with no bytes the reading ends
pub record Turned (s : Reading) (xs : List ℕ) (t : Turn) : Type 0 where
  pub stops : t.n ≡ 0 → goes_on_lem (front xs) s xs ≡ false
  pub on : 0 < t.n → goes_on_lem (front xs) s xs ≡ true
  pub size : 0 < t.n → t.n ≡ need xs
  pub code_is : 0 < t.n → t.code ≡ as_told (dropped_by s (record_at xs))
  pub next-is : 0 < t.n → t.next ≡ reading_after s (record_at xs)
  pub inside : t.n ≤ length xs
  pub most : t.n ≤ 28
  pub ended : t.n ≡ 0 → found_in s xs ≡ nothing
  pub first_of : 0 < t.n → records_of xs ≡ take t.n xs ∷ records_of (drop t.n xs)
  pub goes : 0 < t.n → found_in s xs ≡ with (dropped_by s (record_at xs)) s.number (take t.n xs) (found_in t.next (drop t.n xs))
  pub opened : Open t.next
  pub number : 0 < t.n → t.next.number ≡ s.number + 1
  pub records : 0 < t.n → t.next.account.records ≡ s.account.records + pick (eqb (dropped_by s (record_at xs)) 0) 1 0

-- the bytes of the clean book that are still to come: records found, and the close with the count of all kept
abbrev pub book_from : Reading → Found → List ℕ
book_from s f = joined f.kept ++ record_bytes 8 ((s.account.records + length f.kept) ∷ [])

-- the bytes of the list for a record of that number: none with code 0
abbrev pub note_of : ℕ → ℕ → List ℕ
note_of code number = pick (eqb code 0) [] (entry_bytes (record { number = number; code = code }))

abbrev pub note_told : Option ℕ → ℕ → List ℕ
note_told None number = []
note_told (Some code) number = entry_bytes (record { number = number; code = code })

-- the line of a record of that kind byte: none where it is kept
abbrev pub line_told : Reading → ℕ → Option ℕ → List ℕ
line_told s kind None = []
line_told s kind (Some code) = dropped_text s.number code (words_for s kind code)

-- how much there is: kept records, bytes of the clean book, entries of the list
pub record Measured (f : Found) (m : Sizes) : Type 0 where
  pub kept : m.kept ≡ length f.kept
  pub book : m.book ≡ length (book_of f.kept)
  pub dropped : m.dropped ≡ length f.dropped

-- r is where the reading of xs ends
pub record Reaches (xs : List ℕ) (r : Reached) : Type 0 where
  pub reading : r.reading ≡ reached_in start xs
  pub at : r.at ≡ bytes_read start xs
  pub within : r.at ≤ length xs
  pub opened : Open r.reading
