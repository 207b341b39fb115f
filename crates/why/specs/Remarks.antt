-- What is told of a book: a line for machines, and one for people with the names of records and fields. And the byte of the exit status.
-- Assumes nothing.
use Rattle.std.specs.Prelude.{ℕ, ◌-◌, List, [], ◌++◌, Option, Some, None, Bool, true, false, ◌&&◌, ◌||◌, not, ltb, eqb}
use Rattle.base.specs.Choice.{pick}
use Rattle.codec.specs.Table.{is_kind, last_row}
use Rattle.account.specs.Sorts.{is_of_group}
use Rattle.printing.specs.Ascii.{ascii}
use Rattle.printing.specs.Decimal.{decimal, pointed}
use Rattle.typed_words.specs.Words.{nth_part}
use Rattle.names.specs.Names.{kind_name, field_name, decimals_at, unit_text, sentence}
use Rattle.why.specs.declared.Numbers.{Numbers}
use Rattle.why.specs.declared.Reason.{Reason}
use Rattle.why.specs.declared.Verdict.{Verdict}
use Rattle.why.specs.declared.Verdict.TheVariants.{Accepted, Missing, NextLength, Refused}

-- ---- the line for machines

abbrev pub place_text : ℕ → ℕ → ℕ → List ℕ
place_text number first last =
    ascii " record " ++ (decimal number ++ (ascii " bytes " ++ (decimal first ++ (ascii " to " ++ decimal last))))

abbrev pub position_text : ℕ → List ℕ
position_text field = pick (eqb field 0) [] (ascii " field " ++ decimal field)

abbrev pub numbers_text : Option Numbers → List ℕ
numbers_text (Some n) = ascii " value " ++ (decimal n.value ++ (ascii " limit " ++ decimal n.limit))
numbers_text None = []

unfoldable pub refused_text : Reason → List ℕ
refused_text w =
    ascii "refused "
    ++ (decimal w.code
    ++ (place_text w.number w.first w.last ++ (position_text w.field ++ (numbers_text w.compares ++ ascii "\n"))))

unfoldable pub missing_text : ℕ → List ℕ
missing_text n = ascii "unfinished: " ++ (decimal n ++ ascii " bytes missing\n")

abbrev pub machine_text : Verdict → List ℕ
machine_text (Accepted end more) = ascii "accepted\n"
machine_text (Missing n) = missing_text n
machine_text NextLength = ascii "unfinished: the next length is not known\n"
machine_text (Refused w) = refused_text w

-- ---- the line for people

-- the group of a detail, where a heading stands before it
abbrev pub group_text : ℕ → ℕ → List ℕ
group_text kind group = pick (is_of_group kind && not (eqb group 0)) (ascii ", group " ++ decimal group) []

-- the kind's name and the group, where the book has the kind
abbrev pub name_text : ℕ → ℕ → List ℕ
name_text kind group = pick (is_kind kind) (ascii " (" ++ (kind_name kind ++ (group_text kind group ++ ascii ")"))) []

unfoldable pub where_text : ℕ → ℕ → ℕ → List ℕ
where_text number kind group = ascii "record " ++ (decimal number ++ name_text kind group)

-- what the value is of, by the number of the rule and the row; a pig's parts, the grazed fractions and a farm record's length have lines of their own
unfoldable pub subject_table : List ℕ
subject_table =
    ascii "\n the length\n the version\n the kind\n the length\n\n\n\n the group\n the sum of days with this record\n the sum of the shares\n\n"
    ++ ascii " the count\n the sum of the volatilised and leached parts\n the sum of fractions with this record\n"
    ++ ascii " the length (of version 1)\n the length (of version 2)"

abbrev pub subject_line : ℕ → ℕ → ℕ
subject_line code row =
    pick (eqb code 10 && eqb row 5) 13
    (pick (eqb code 10 && eqb row 10) 14
    (pick (eqb code 4 && eqb row 1) 15
    (pick (eqb code 4 && eqb row last_row) 16 code)))

abbrev pub subject_text : ℕ → ℕ → ℕ → List ℕ
subject_text code row field =
    pick (eqb code 7) (field_name row (field - 1)) (nth_part 10 (subject_line code row) subject_table)

-- the field, counted from 0, whose decimals and unit the two numbers have: for 7 it is the field itself, for 10 a share, a part or a fraction; else
-- 12, which no record has, since they are whole numbers
abbrev pub measured_by : ℕ → ℕ → ℕ → ℕ
measured_by code row field = pick (eqb code 7) (field - 1) (pick (eqb code 10) (pick (eqb row 4) 6 (pick (eqb row 5) 8 3)) 12)

-- a number as people say it
abbrev pub amount_text : ℕ → ℕ → ℕ → List ℕ
amount_text row i v = pointed (decimals_at row i) v

-- the same, with its unit
abbrev pub measured_text : ℕ → ℕ → ℕ → List ℕ
measured_text row i v = amount_text row i v ++ unit_text row i

-- how the value has to stand to the limit: the version of a farm record has two ends, any other one value
abbrev pub exactly : ℕ → ℕ → Bool
exactly code kind = (eqb code 2 && not (eqb kind 1)) || eqb code 4 || eqb code 12 || (eqb code 10 && eqb kind 4)

abbrev pub relation_text : ℕ → ℕ → ℕ → ℕ → List ℕ
relation_text code kind value limit =
    pick (eqb code 8) (ascii "above ")
    (pick (exactly code kind) []
    (pick (ltb value limit) (ascii "at least ") (ascii "at most ")))

unfoldable pub compared_text : Reason → Numbers → List ℕ
compared_text w n =
    let i = measured_by w.code w.row w.field in
    subject_text w.code w.row w.field
    ++ (ascii " is "
    ++ (measured_text w.row i n.value
    ++ (ascii "; it must be " ++ (relation_text w.code w.kind n.value n.limit ++ amount_text w.row i n.limit))))

-- the rule's sentence where no numbers are compared
abbrev pub fault_by : Reason → Option Numbers → List ℕ
fault_by w (Some n) = compared_text w n
fault_by w None = ascii " " ++ sentence w.code

abbrev pub fault_text : Reason → List ℕ
fault_text w = fault_by w w.compares

unfoldable pub reason_text : Reason → List ℕ
reason_text w = where_text w.number w.kind w.group ++ (ascii ":" ++ (fault_text w ++ ascii "\n"))

unfoldable pub lack_text : ℕ → List ℕ
lack_text n =
    ascii "the book ends inside a record, which needs "
    ++ (decimal n ++ pick (eqb n 1) (ascii " more byte\n") (ascii " more bytes\n"))

-- where bytes stand after the close: from the byte end on, counted from 0
abbrev pub after_text : ℕ → Bool → List ℕ
after_text end more = pick more (ascii "; bytes stand after its close, from byte " ++ (decimal end ++ ascii " on, and change nothing")) []

unfoldable pub closed_text : ℕ → Bool → List ℕ
closed_text end more = ascii "the book is right and closed" ++ (after_text end more ++ ascii "\n")

abbrev pub people_text : Verdict → List ℕ
people_text (Accepted end more) = closed_text end more
people_text (Missing n) = lack_text n
people_text NextLength = ascii "the book ends before its close, where another record would begin\n"
people_text (Refused w) = reason_text w

-- ---- both

abbrev pub why_text : Verdict → List ℕ
why_text v = machine_text v ++ people_text v

abbrev pub is_accepted : Verdict → Bool
is_accepted (Accepted end more) = true
is_accepted (Missing n) = false
is_accepted NextLength = false
is_accepted (Refused w) = false

-- `0` where the book is accepted, and all was read and written, else `1`
abbrev pub status_byte : Bool → Bool → ℕ
status_byte accepted written = pick (accepted && written) 48 49
