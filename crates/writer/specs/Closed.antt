-- The law closed-means-all: where the writer closes a book, every line of the text that has a word is read as a record, and the book is their
-- records in order. Said over the lines alone: no typist's memory is in it.
use Rattle.std.specs.Prelude.{ℕ, suc, List, [], ◌∷◌, ◌++◌, length}
use Rattle.codec.specs.Codec.{record_bytes}
use Rattle.make_record.specs.Write.{row_for}
use Rattle.text_lines.specs.Parts.{Numbered}
use Rattle.writer.specs.declared.typed_line.Entry.{Entry}
use Rattle.writer.specs.declared.typed_line.Said.{Said}
use Rattle.writer.specs.declared.typed_line.Said.TheVariants as said
use Rattle.writer.specs.Line.{line_said, completed_of, values_in}
use Rattle.writer.specs.Headings.{text_of}

-- the record that an entry says after n others: its kind and its values as they are typed; a close without its count counts those n
abbrev pub record_of : Entry → List ℕ
record_of e = record_bytes (row_for e.kind (length (values_in e))) (values_in e)

abbrev pub record_said : ℕ → Entry → List ℕ
record_said n e = record_of (completed_of e n)

-- a line says a record, and others come after it; a line without a word says nothing
abbrev pub says_then : Said → List ℕ → List ℕ → List ℕ → List ℕ
says_then said.Nothing one same next = same
says_then said.Record one same next = one ++ next
says_then (said.Wrong k place) one same next = same

-- the records that some lines say, after n others
unfoldable pub records_said : ℕ → List Numbered → List ℕ
records_said n [] = []
records_said n (l ∷ ls) =
    says_then (line_said (text_of l)).said (record_said n (line_said (text_of l)).entry) (records_said n ls) (records_said (suc n) ls)

-- a line has no word, or is read
abbrev pub IsRead : Said → Type 0
IsRead said.Nothing = Unit {0}
IsRead said.Record = Unit {0}
IsRead (said.Wrong k place) = ⊥

unfoldable pub EachRead : List Numbered → Type 0
EachRead [] = Unit {0}
EachRead (l ∷ ls) = IsRead (line_said (text_of l)).said × EachRead ls
