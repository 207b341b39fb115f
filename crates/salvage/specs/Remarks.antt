-- What a person is told of a salvage after the lines of the dropped records (specs/Lines), on standard error: where the reading ended, unless all was
-- read, then "K kept, D dropped", K without the close; or "refused 19" alone. And the byte of the exit status.
-- Assumes nothing.
use Rattle.std.specs.Prelude.{ℕ, ◌-◌, ◌/◌, List, [], ◌++◌, Bool, ◌&&◌, Result, Ok, Err, length, ltb}
use Rattle.base.specs.Choice.{pick}
use Rattle.codec.specs.Codec.{val_at}
use Rattle.printing.specs.Ascii.{ascii}
use Rattle.printing.specs.Decimal.{decimal}
use Rattle.salvage.specs.declared.Lengths.{Lengths}
use Rattle.salvage.specs.declared.Unsaved.{Unsaved}
use Rattle.salvage.specs.declared.how_far.Ending.{Ending}
use Rattle.salvage.specs.declared.how_far.Ending.TheVariants.{AtEnd, AtClose, Full, NoLength, NotWhole}
use Rattle.salvage.specs.declared.how_far.ReadingEnd.{ReadingEnd}
use Rattle.salvage.specs.Salvage.{number_of}
use Rattle.salvage.specs.HowFar.{all_read_lem}

-- why the reading ended
abbrev pub ending_text : Ending → List ℕ
ending_text AtEnd = ascii "the end of the bytes"
ending_text AtClose = ascii "its close"
ending_text Full = ascii "4095 records are kept"
ending_text (NoLength n) = ascii "a length that no record has (" ++ (decimal n ++ ascii ")")
ending_text NotWhole = ascii "a record that is not whole"

abbrev pub place_text : ℕ → List ℕ
place_text at = ascii "reading ended at byte " ++ (decimal at ++ ascii ": ")

abbrev pub unread_text : ℕ → List ℕ
unread_text n = ascii "; " ++ (decimal n ++ ascii " bytes were not read\n")

-- where and why it ended, unless all was read
abbrev pub reading_text : ReadingEnd → List ℕ
reading_text e = pick (all_read_lem e) [] (place_text e.at ++ (ending_text e.why ++ unread_text e.unread))

-- how many records are kept: the close counts them, which the clean book ends with
unfoldable pub kept_in : List ℕ → ℕ
kept_in book = pick (ltb (length book) 2) 0 (val_at book (length book - 2) 2)

abbrev pub saved_text : ℕ → ℕ → List ℕ
saved_text kept dropped = decimal kept ++ (ascii " kept, " ++ (decimal dropped ++ ascii " dropped\n"))

abbrev pub refused_text : ℕ → List ℕ
refused_text number = ascii "refused " ++ (decimal number ++ ascii "\n")

-- the last words, of the answer, the end of the reading and the clean book
abbrev pub end_text : Result Lengths ℕ → ReadingEnd → List ℕ → List ℕ
end_text (Ok l) e book = reading_text e ++ saved_text (kept_in book) (l.list / 9)
end_text (Err number) e book = refused_text number

-- an answer as it is told: a refusal by its number
abbrev pub by_number : Result Lengths Unsaved → Result Lengths ℕ
by_number (Ok l) = Ok l
by_number (Err why) = Err (number_of why)

-- a book that is longer than the program has room for
abbrev pub too_long_text : List ℕ
too_long_text = ascii "the damaged book is longer than 131072 bytes: nothing is written\n"

-- `0` where a book was saved and went out, all of the damaged one was read and all was told; `2` where one went out, and not all was read or told;
-- else `1`
abbrev pub status_byte : Bool → Bool → Bool → ℕ
status_byte saved read told = pick (saved && (read && told)) 48 (pick saved 50 49)
