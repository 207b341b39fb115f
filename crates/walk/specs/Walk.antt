-- One walk over a book's records, by which every tool goes: the next record after an account, its bytes, what it does and the lines that it gives, or
-- why there is none; and the records that are accepted one after the other.
-- Assumes nothing.
use Rattle.std.specs.Prelude.{ℕ, List, [], ◌∷◌, Bool, ◌&&◌, not, length, take, drop, ltb, eqb}
use Rattle.base.specs.Choice.{pick}
use Rattle.account.specs.declared.Account.{Account}
use Rattle.account.specs.Account.{no_record, refused}
use Rattle.account.specs.Judge.{judge}
use Rattle.account.specs.Line.{joined}
use Rattle.walk.specs.declared.Found.{Found}
use Rattle.walk.specs.declared.Found.TheVariants.{Record, Unfinished, BadLength, Ended}
use Rattle.walk.specs.declared.Next.{Next}
use Rattle.book.specs.Front.{Front, unfinished, bad_length, whole, need, front}
use Rattle.book.specs.WholeRecords.{records_of}
use Rattle.book.specs.State.{holding}
use Rattle.book.specs.Run.{Run, then, ended, book}

-- ---- the next record

-- the record that lies whole at the front of xs
abbrev pub record_at : List ℕ → List ℕ
record_at xs = take (need xs) xs

-- the bytes of the lines that the record r gives after the account a
abbrev pub lines_of : Account → List ℕ → List ℕ
lines_of a r = joined (judge a r).lines

-- no record, and the account that is left
abbrev pub none_but : Found → Account → Next
none_but found a = record { found = found; size = 0; account = a; written = 0 }

-- by what stands at the front of xs: an unfinished record changes nothing, a bad length is refusal 1, a whole record is judged
abbrev pub at_front : Front → Account → List ℕ → Next
at_front unfinished a xs = none_but Unfinished a
at_front bad_length a xs = none_but BadLength (refused a 1 0)
at_front whole a xs =
    record { found = Record; size = need xs; account = (judge a (record_at xs)).account; written = length (lines_of a (record_at xs)) }

-- the next record of xs after the account a; a closed or refused book has none
unfoldable pub next_of : Account → List ℕ → Next
next_of a xs = pick (ltb a.stage 2) (at_front (front xs) a xs) (none_but Ended a)

-- the bytes of its lines
abbrev pub lines_at : Front → Account → List ℕ → List ℕ
lines_at unfinished a xs = []
lines_at bad_length a xs = []
lines_at whole a xs = lines_of a (record_at xs)

unfoldable pub lines_next : Account → List ℕ → List ℕ
lines_next a xs = pick (ltb a.stage 2) (lines_at (front xs) a xs) []

-- ---- the accepted records

-- the record r is accepted after the account a: the book is open before it, and not refused after it
abbrev pub accepts : Account → List ℕ → Bool
accepts a r = ltb a.stage 2 && not (eqb (judge a r).account.stage 3)

-- an accepted record, and the bytes of its lines
pub record Entry : Type 0 where
  pub bytes : List ℕ
  pub lines : List ℕ

abbrev pub entry_of : Account → List ℕ → Entry
entry_of a r = record { bytes = r; lines = lines_of a r }

-- the records of entries
unfoldable pub records_in : List Entry → List (List ℕ)
records_in [] = []
records_in (e ∷ es) = e.bytes ∷ records_in es

-- the first of the records rs that are accepted, up to one that is not, a being the account before them
unfoldable pub entries_from : Account → List (List ℕ) → List Entry
entries_from a [] = []
entries_from a (r ∷ rs) = pick (accepts a r) (entry_of a r ∷ entries_from (judge a r).account rs) []

-- those of the bytes xs after the account a
abbrev pub entries_after : Account → List ℕ → List Entry
entries_after a xs = entries_from a (records_of xs)

-- those of a book
abbrev pub entries_of : List ℕ → List Entry
entries_of xs = entries_after no_record xs

-- ---- the reader's way by the walk

-- what a run gives, by what the walk finds at the front of xs: a record's lines and then what the bytes after it give; an unfinished record is
-- held; a bad length takes two bytes; an ended book takes nothing
abbrev pub run_by : Found → Account → List ℕ → Run
run_by Record a xs = then (judge a (record_at xs)).lines (book (judge a (record_at xs)).account (drop (need xs) xs))
run_by Unfinished a xs = record { state = holding a xs; lines = []; left = [] }
run_by BadLength a xs = record { state = holding (refused a 1 0) []; lines = []; left = drop 2 xs }
run_by Ended a xs = ended a xs
