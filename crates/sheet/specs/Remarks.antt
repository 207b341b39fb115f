-- What is told of a sheet that is read or written, on standard error: "N lines", or a sentence for people and then, for machines, "refused" with the
-- number and the row. And the byte of the exit status.
use Rattle.std.specs.Prelude.{Result, Ok, Err, ℕ, ◌+◌, ◌-◌, Bool, ◌&&◌, List, [], ◌∷◌, ◌++◌, eqb}
use Rattle.base.specs.Choice.{pick}
use Rattle.printing.specs.Ascii.{ascii}
use Rattle.printing.specs.Decimal.{decimal}
use Rattle.names.specs.Names.{sentence}
use Rattle.sheet.specs.Faults.{fault_text}
use Rattle.sheet.specs.declared.Refused.{Refused}
use Rattle.sheet.specs.declared.Numbered.{Numbered}
use Rattle.sheet.specs.Sheets.{numbered_of}

-- how many line feeds a text has: one for each row
unfoldable pub feeds : List ℕ → ℕ
feeds [] = 0
feeds (b ∷ s) = pick (eqb b 10) 1 0 + feeds s

-- a row for each line; the header is none
abbrev pub line_count : List ℕ → ℕ
line_count text = feeds text - 1

abbrev pub lines_text : ℕ → List ℕ
lines_text lines = decimal lines ++ ascii " lines\n"

-- 16 and 23 have no row
abbrev pub row_head : ℕ → List ℕ
row_head row = pick (eqb row 0) [] (ascii "row " ++ (decimal row ++ ascii ": "))

abbrev pub sentence_text : ℕ → ℕ → List ℕ
sentence_text code row = row_head row ++ (sentence code ++ ascii "\n")

-- 20 names the place, the others have their sentence
abbrev pub people_text : List ℕ → ℕ → ℕ → List ℕ
people_text text code row = pick (eqb code 20) (fault_text text row) (sentence_text code row)

abbrev pub row_word : ℕ → List ℕ
row_word row = pick (eqb row 0) [] (ascii " row " ++ decimal row)

abbrev pub refused_text : ℕ → ℕ → List ℕ
refused_text code row = ascii "refused " ++ (decimal code ++ (row_word row ++ ascii "\n"))

-- what is said at the end, of the text and the answer: the machine's line is the last
abbrev pub end_text : List ℕ → Result ℕ Numbered → List ℕ
end_text text (Ok n) = lines_text (line_count text)
end_text text (Err r) = people_text text r.code r.row ++ refused_text r.code r.row

-- an answer as it is told: a refusal by its number
abbrev pub by_number : Result ℕ Refused → Result ℕ Numbered
by_number (Ok n) = Ok n
by_number (Err r) = Err (numbered_of r)

-- what is longer than the most bytes that the program has room for
abbrev pub most_text : ℕ → List ℕ
most_text most = ascii " longer than " ++ (decimal most ++ ascii " bytes: nothing is written\n")

-- a sheet that is
abbrev pub too_long_text : ℕ → List ℕ
too_long_text most = ascii "the sheet is" ++ most_text most

-- line records that are
abbrev pub lines_too_long_text : ℕ → List ℕ
lines_too_long_text most = ascii "the lines are" ++ most_text most

-- `0` where the sheet was accepted, and everything was written, else `1`
abbrev pub status_byte : Bool → Bool → ℕ
status_byte accepted written = pick (accepted && written) 48 49
