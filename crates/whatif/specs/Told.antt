-- What people are told of a line of document 01's what-if slip that gives no estimate: what is wrong, the word, and what was expected.
use Rattle.std.specs.Prelude.{ℕ, Bool, true, false, ◌&&◌, List, [], ◌++◌, ◌==◌}
use Rattle.base.specs.Choice.{pick, one_more_lem}
use Rattle.printing.specs.Ascii.{ascii}
use Rattle.printing.specs.Decimal.{decimal}
use Rattle.names.specs.Names.{shown}
use Rattle.typed_words.specs.Words.{nth_word, nth_part}
use Rattle.slip.specs.Slip.{ge_in_range, ym_in_range, head_in_range, days_in_range, double, what_if}
use Rattle.slip.specs.declared.Change.{Change}
use Rattle.slip.specs.declared.Change.TheVariants.{Feed, Ym, Head}
use Rattle.slip.specs.declared.Ration.{Ration}
use Rattle.std.specs.Prelude.{Option, Some, None}
use Rattle.whatif.specs.declared.Fault.{Fault}
use Rattle.whatif.specs.declared.Fault.TheVariants.{TooLong, TooFew, TooMany, NoNumber, NoChange}
use Rattle.whatif.specs.declared.Asked.{Asked}
use Rattle.whatif.specs.declared.Asked.TheVariants.{Nothing, Estimate, Wrong}
use Rattle.whatif.specs.declared.Counts.{Counts}
use Rattle.whatif.specs.Asked.{unless, change_in, asked_of}
use Rattle.whatif.specs.Shown.{slip_line}

-- ---- the one table of names and ranges: places count from 0

unfoldable pub columns : List ℕ
columns = ascii "GE Ym head days CHANGE X"

-- of GE, Ym, head, days, and of a factor
unfoldable pub ranges : List ℕ
ranges = ascii " 1 to 1000 MJ; 0.5 to 20 per cent; 1 to 20000; a whole number, 1 to 366; 0.5 to 2"

-- the range of X: a factor's, or Ym's
abbrev pub number_row : Change → ℕ
number_row (Feed x) = 4
number_row (Ym x) = 1
number_row (Head x) = 4

-- with no change it is a factor's
abbrev pub row_named : Option Change → ℕ
row_named None = 4
row_named (Some change) = number_row change

abbrev pub row_of : ℕ → Change → ℕ
row_of place change = pick (place == 5) (number_row change) place

-- of the word at a place in a line
abbrev pub row_at : ℕ → List ℕ → ℕ
row_at place line = pick (place == 5) (row_named (change_in line)) place

abbrev pub expected : ℕ → List ℕ
expected row = ascii "; expected" ++ nth_part 59 row ranges

-- ---- a line that is not read

abbrev pub quoted : List ℕ → List ℕ
quoted word = ascii "\"" ++ (shown word ++ ascii "\"")

-- 65536 is a number too, and no count of days
abbrev pub no_number_lem : ℕ → List ℕ
no_number_lem place = pick (place == 3) (ascii " is no count of days") (ascii " is no number")

unfoldable pub wrong_number : ℕ → List ℕ → List ℕ
wrong_number place line =
    nth_word place columns ++ (ascii ": " ++ (quoted (nth_word place line) ++ (no_number_lem place ++ expected (row_at place line))))

-- by the fault
unfoldable pub fault_text : Fault → List ℕ → List ℕ
fault_text TooLong line = ascii "the line is too long: at most 1023 bytes before its #"
fault_text TooFew line = ascii "expected GE Ym head days CHANGE X"
fault_text TooMany line = ascii "one word too many: " ++ quoted (nth_word 6 line)
fault_text NoChange line = quoted (nth_word 4 line) ++ ascii " is no change; expected feed, ym or head"
fault_text (NoNumber place) line = wrong_number place line

abbrev pub line_start : ℕ → List ℕ
line_start number = ascii "line " ++ decimal number

abbrev pub unread_text : ℕ → Fault → List ℕ → List ℕ
unread_text number fault line = line_start number ++ (ascii ": not read: " ++ (fault_text fault line ++ ascii "\n"))

-- ---- a slip that is refused

-- the first number of the ration that is out of its range; with none it is the change's
abbrev pub out_of_ration : Ration → ℕ
out_of_ration r =
    unless (ge_in_range r.ge) 0 (unless (ym_in_range r.ym) 1 (unless (head_in_range r.head) 2 (unless (days_in_range r.days) 3 5)))

-- the number that a change changes
abbrev pub changed_place : Change → ℕ
changed_place (Feed x) = 0
changed_place (Ym x) = 1
changed_place (Head x) = 2

abbrev pub out_place : ℕ → Ration → Change → ℕ
out_place code r change = pick (code == 15) (changed_place change) (out_of_ration r)

abbrev pub changed_word : ℕ → List ℕ
changed_word code = pick (code == 15) (ascii "the changed ") []

abbrev pub out_text : ℕ → Ration → Change → List ℕ
out_text code r change =
    changed_word code
    ++ (nth_word (out_place code r change) columns ++ (ascii " is out of its range" ++ expected (row_of (out_place code r change) change)))

unfoldable pub refused_text : ℕ → ℕ → Ration → Change → List ℕ
refused_text number code r change =
    line_start number ++ (ascii ": refused " ++ (decimal code ++ (ascii ": " ++ (out_text code r change ++ ascii "\n"))))

-- ---- the two texts of a line

-- the slip, and beside it the kg of the ration with feed times 1
abbrev pub slip_text : Ration → Change → List ℕ
slip_text r change = slip_line (what_if r change) (what_if r (Feed (double 1 1))).kg

-- the slip answers with 0
abbrev pub answered_by : Ration → Change → Bool
answered_by r change = (what_if r change).code == 0

abbrev pub refusal_text : ℕ → Ration → Change → List ℕ
refusal_text number r change = pick (answered_by r change) [] (refused_text number (what_if r change).code r change)

abbrev pub answer_by : Asked → List ℕ
answer_by Nothing = []
answer_by (Estimate r change) = slip_text r change
answer_by (Wrong fault) = []

-- what standard output is told of the line
unfoldable pub answer_text : List ℕ → List ℕ
answer_text line = answer_by (asked_of line)

abbrev pub remark_by : ℕ → List ℕ → Asked → List ℕ
remark_by number line Nothing = []
remark_by number line (Estimate r change) = refusal_text number r change
remark_by number line (Wrong fault) = unread_text number fault line

-- what standard error is told of the line with this number
unfoldable pub remark_text : ℕ → List ℕ → List ℕ
remark_text number line = remark_by number line (asked_of line)

-- ---- the end

abbrev pub with_slip : Counts → Bool → Counts
with_slip c true = record { answered = one_more_lem c.answered; refused = c.refused; unread = c.unread }
with_slip c false = record { answered = c.answered; refused = one_more_lem c.refused; unread = c.unread }

abbrev pub one_unread : Counts → Counts
one_unread c = record { answered = c.answered; refused = c.refused; unread = one_more_lem c.unread }

abbrev pub counted_by : Counts → Asked → Counts
counted_by c Nothing = c
counted_by c (Estimate r change) = with_slip c (answered_by r change)
counted_by c (Wrong fault) = one_unread c

-- the counts with this line
unfoldable pub counted_of : Counts → List ℕ → Counts
counted_of c line = counted_by c (asked_of line)

-- the last line of standard error
abbrev pub counts_text : Counts → List ℕ
counts_text c =
    decimal c.answered ++ (ascii " answered, " ++ (decimal c.refused ++ (ascii " refused, " ++ (decimal c.unread ++ ascii " not read\n"))))

-- the status byte: 0 where each line was answered and the Bool says that nothing failed, else 1
abbrev pub status_of : Counts → Bool → ℕ
status_of c done = pick ((done && c.refused == 0) && c.unread == 0) 48 49
