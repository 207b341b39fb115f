-- What the table shows of a book: where it ended, how many records were accepted, its farm record, and its total line.
-- Assumes nothing.
use Rattle.std.specs.Prelude.{◌≡◌, ℕ, ◌+◌, Bool, true, false, List, [], ◌∷◌, length, replicate, ◌==◌, nat_lt, slice_index}
use Rattle.base.specs.Choice.{pick}
use Rattle.codec.specs.Table.{fields, size}
use Rattle.codec.specs.Codec.{values_at}
use Rattle.line_bytes.specs.Lines.{figure_count}
use Rattle.line_rows.specs.Rows.{line_numbers}
use Rattle.account.specs.declared.Account.{Account}
use Rattle.account.specs.Account.{no_record}
use Rattle.account.specs.Sorts.{is_farm}
use Rattle.account.specs.Judge.{record_row, values_of}
use Rattle.account.specs.Line.{total_of}
use Rattle.book.specs.State.{no_record_yet}
use Rattle.book.specs.Run.{run}
use Rattle.walk.specs.Walk.{record_at, accepts}
use Rattle.table.specs.declared.Seen.{Seen}
use Rattle.table.specs.declared.State.{State}
use Rattle.table.specs.declared.State.TheVariants.{Unreadable, Unfinished, Closed, Refused}

-- the account that a book comes to: what stands after a close or a refusal changes nothing
abbrev pub end_of : List ℕ → Account
end_of book = (run no_record_yet book).state.account

-- the values of the farm record with which a book begins; farm number and year are the first of either version. None, as zeros, of fewer bytes
abbrev pub farm_values : List ℕ → List ℕ
farm_values book = pick (nat_lt (length book) (4 + size (fields 1))) (0 ∷ 0 ∷ 0 ∷ []) (values_at (fields 1) book 4)

-- of a book that could be read, by the account a that it comes to: the numbers are those of the total line of that account, kind, group and figures
abbrev pub state_of : Account → State
state_of a = pick (a.stage == 2) Closed (pick (a.stage == 3) (Refused a.refusal.code) Unfinished)

abbrev pub seen_by : Account → List ℕ → Seen
seen_by a book =
    record {
      state = state_of a;
      records = a.records;
      farm = slice_index (farm_values book) 0;
      year = slice_index (farm_values book) 1;
      numbers = line_numbers (total_of a);
    }

unfoldable pub seen_of : List ℕ → Seen
seen_of book = seen_by (end_of book) book

-- what is promised of farm number and year: the first record is a farm record that is accepted, and they are its own
pub record FarmShown (book : List ℕ) : Type 0 where
  pub farm : is_farm (record_row (record_at book)) ≡ true
  pub accepted : accepts no_record (record_at book) ≡ true
  pub number : (seen_of book).farm ≡ slice_index (values_of (record_at book)) 0
  pub year : (seen_of book).year ≡ slice_index (values_of (record_at book)) 1

-- of a file that could not be read
abbrev pub not_read : Seen
not_read = record { state = Unreadable; records = 0; farm = 0; year = 0; numbers = replicate (3 + figure_count) 0 }

-- a closed book
abbrev pub ends_closed : State → Bool
ends_closed Unreadable = false
ends_closed Unfinished = false
ends_closed Closed = true
ends_closed (Refused code) = false

abbrev pub is_closed : Seen → Bool
is_closed s = ends_closed s.state
