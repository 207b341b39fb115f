-- Document 02, W1: "Advisers now type a book into one program". One record a line: the kind's name or number, then its values in the order of
-- document 01 with blanks between; a line with no word says nothing. What stands behind a # is gone before a line comes here.
use Rattle.std.specs.Prelude.{ℕ, zero, suc, ◌-◌, Bool, ◌&&◌, not, List, [], ◌∷◌, ◌++◌, length, take, replicate, eqb, leb, ltb}
use Rattle.base.specs.Choice.{pick}
use Rattle.codec.specs.Table.{fields, last_kind, last_row}
use Rattle.std.specs.Prelude.{Option, Some, None}
use Rattle.std.specs.Option.{option_or}
use Rattle.typed_words.specs.Words.{nth_word, same_text_lem, lowered}
use Rattle.typed_words.specs.Amounts.{amount_of}
use Rattle.names.specs.Names.{kind_name, chosen, decimals_at}
use Rattle.book.specs.declared.State.{State}
use Rattle.make_record.specs.Write.{Write, write}
use Rattle.writer.specs.declared.typed_line.Values.{Values}
use Rattle.writer.specs.declared.typed_line.Entry.{Entry}
use Rattle.writer.specs.declared.typed_line.Line.{Line}
use Rattle.writer.specs.declared.typed_line.Said.{Said}
use Rattle.writer.specs.declared.typed_line.Said.TheVariants.{Nothing, Record, Wrong}

-- ---- the kind

-- the kind whose name the word w is, of the n kinds above k; none where it is none of them
unfoldable pub named_from : ℕ → ℕ → List ℕ → Option ℕ
named_from zero k w = None
named_from (suc n) k w = pick (same_text_lem w (kind_name (suc k))) (Some (suc k)) (named_from n (suc k) w)

-- a kind by its name, in capitals or not, or else by a whole number
unfoldable pub kind_of : List ℕ → Option ℕ
kind_of w = option_or (named_from last_kind 0 (lowered w)) (amount_of 0 w)

-- ---- the row of the table

-- exactly four words stand behind the first
abbrev pub four_words : List ℕ → Bool
four_words line = not (eqb (length (nth_word 4 line)) 0) && eqb (length (nth_word 5 line)) 0

-- the row that a line of some kind is read by: a farm line with four words behind its kind is one of version 2. A number that is no kind has the row
-- 0, which has no fields
unfoldable pub row_of_line : ℕ → List ℕ → ℕ
row_of_line kind line = pick (ltb last_kind kind) 0 (pick (eqb kind 1 && four_words line) last_row kind)

-- ---- the values

-- the values read, and the place of the first word that is no value of its field, counted from 1; 0 where each is one
pub record Read : Type 0 where
  pub values : List ℕ
  pub wrong : ℕ

abbrev pub nothing_more : Read
nothing_more = record { values = []; wrong = 0 }

abbrev pub wrong_at : ℕ → Read
wrong_at place = record { values = []; wrong = place }

abbrev pub with : ℕ → Read → Read
with v r = record { values = v ∷ r.values; wrong = r.wrong }

-- the row has a field i, counted from 0
abbrev pub has_field : ℕ → ℕ → Bool
has_field row i = ltb i (length (fields row))

-- a word as the value of a row's field i: a number in the unit that people say, or the word of a choice. A word after the last field is counted
-- and not read
unfoldable pub value_at : ℕ → ℕ → List ℕ → Option ℕ
value_at row i word = pick (has_field row i) (option_or (amount_of (decimals_at row i) word) (chosen row i word)) (Some 0)

-- the value before those that r reads, or the place where there is none
abbrev pub with_value : Option ℕ → ℕ → Read → Read
with_value None place r = wrong_at place
with_value (Some v) place r = with v r

-- at most n values of a row, from field i on: the words behind the kind's
unfoldable pub values_from : ℕ → ℕ → ℕ → List ℕ → Read
values_from zero i row line = nothing_more
values_from (suc n) i row line =
    pick (eqb (length (nth_word (suc i) line)) 0) nothing_more
    (with_value (value_at row i (nth_word (suc i) line)) (suc (suc i)) (values_from n (suc i) row line))

-- the first 13, zeros behind
abbrev pub padded : List ℕ → List ℕ
padded vs = take 13 vs ++ replicate (13 - length vs) 0

abbrev pub listed : Read → Values
listed r = record { values = padded r.values; count = length r.values; wrong = r.wrong }

-- ---- the line

abbrev pub entry : ℕ → List ℕ → Entry
entry kind vs = record { kind = kind; values = padded vs; count = length vs }

-- a line that says no record
abbrev pub no_record : Said → Line
no_record said = record { said = said; entry = entry 0 [] }

abbrev pub by_values_lem : ℕ → Read → Line
by_values_lem kind r = pick (eqb r.wrong 0) (record { said = Record; entry = entry kind r.values }) (no_record (Wrong kind r.wrong))

abbrev pub by_kind : Option ℕ → List ℕ → Line
by_kind None text = no_record (Wrong 0 1)
by_kind (Some kind) text = by_values_lem kind (values_from 512 0 (row_of_line kind text) text)

-- what a line says that has no comment: a line of 1,024 bytes or more is not read; the others have no more than 512 words
unfoldable pub line_said : List ℕ → Line
line_said text =
    pick (leb 1024 (length text)) (no_record (Wrong 0 0))
    (pick (eqb (length (nth_word 0 text)) 0) (no_record Nothing)
    (by_kind (kind_of (nth_word 0 text)) text))

-- a close that is typed without its count has the records before it
unfoldable pub completed_of : Entry → ℕ → Entry
completed_of e records = pick (eqb e.kind 8 && eqb e.count 0) (entry 8 (records ∷ [])) e

-- the values of an entry
abbrev pub values_in : Entry → List ℕ
values_in e = take e.count e.values

-- what writing an entry after the state s gives, for a buffer of room bytes
abbrev pub write_entry : State → Entry → ℕ → Write
write_entry s e room = write s (completed_of e s.account.records).kind (values_in (completed_of e s.account.records)) room
