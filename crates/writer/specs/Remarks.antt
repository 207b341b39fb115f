-- What the person who types is told: a remark on each line that failed or was withheld, values that are unusual, a group where it ends, and the
-- verdict.
use Rattle.std.specs.Prelude.{ℕ, ◌+◌, ◌-◌, ◌*◌, min, Bool, true, false, ◌&&◌, ◌||◌, not, List, [], ◌++◌, length, get_or, drop, eqb, leb}
use Rattle.std.specs.Prelude.{Option, None, Some, is_some, unwrap_or}
use Rattle.base.specs.Choice.{pick}
use Rattle.base.specs.Bytes.{index_of}
use Rattle.printing.specs.Ascii.{ascii}
use Rattle.printing.specs.Decimal.{decimal, pointed}
use Rattle.typed_words.specs.Words.{nth_word, nth_part}
use Rattle.typed_words.specs.Amounts.{amount_of}
use Rattle.codec.specs.Table.{fields, last_row}
use Rattle.grams.specs.Round.{round_div}
use Rattle.names.specs.Names.{kind_name, kind_names, field_name, field_names, is_choice, choices_of, expected, decimals_at, class_name}
use Rattle.names.specs.Names.{sentence, shown}
use Rattle.writer.specs.declared.typed_line.Entry.{Entry}
use Rattle.writer.specs.Line.{row_of_line, has_field}
use Rattle.account.specs.declared.Account.{Account}
use Rattle.account.specs.declared.Used.{Used}
use Rattle.account.specs.declared.Refusal.{Refusal}
use Rattle.writer.specs.declared.Typist.{Typist}
use Rattle.writer.specs.declared.Counts.{Counts}
use Rattle.writer.specs.declared.Cause.{Cause}
use Rattle.writer.specs.declared.Cause.TheVariants as causes
use Rattle.writer.specs.declared.Lost.{Lost}
use Rattle.writer.specs.declared.Run.{Run}
use Rattle.writer.specs.declared.Fate.{Fate}
use Rattle.writer.specs.declared.Fate.TheVariants.{Nothing, Unread, Withheld, Waits, Without, Refused, Wrote}
use Rattle.writer.specs.Typist.{lost_by, early, run_ended}
use Rattle.writer.specs.Unusual.{unusual_remarks}

-- ---- a line that is not read; xs is its text

abbrev pub quoted : List ℕ → List ℕ
quoted word = ascii "\"" ++ (shown word ++ ascii "\"")

abbrev pub long_text : List ℕ
long_text = ascii "not read: the line is too long: at most 1023 bytes before its #"

abbrev pub no_kind_text : List ℕ → List ℕ
no_kind_text xs =
    ascii "not read: " ++ (quoted (nth_word 0 xs) ++ (ascii " is no kind of record; expected " ++ (kind_names ++ ascii " or its number")))

abbrev pub field_text : ℕ → ℕ → List ℕ
field_text k i = pick (has_field k i) (ascii "," ++ field_name k i) []

abbrev pub expected_text : ℕ → ℕ → List ℕ
expected_text k i = pick (has_field k i) (ascii "; expected" ++ expected k i) []

-- a number, however many decimals it has
abbrev pub is_number : List ℕ → Bool
is_number w = is_some (amount_of (length w) w)

-- what stands after the first comma
abbrev pub after_comma : List ℕ → List ℕ
after_comma w = drop (index_of 44 w + 1) w

-- a comma stands where the point should: digits, a comma, and at most d digits
unfoldable pub has_comma : ℕ → List ℕ → Bool
has_comma d w = (is_some (amount_of 0 (nth_part 44 0 w)) && is_some (amount_of 0 (after_comma w))) && leb (length (after_comma w)) d

-- what a word w for field i is not: 27.9 is a number, but none for a field without decimals
unfoldable pub none_text : ℕ → ℕ → List ℕ → List ℕ
none_text k i w =
    pick (eqb (decimals_at k i) 0) (ascii " is no whole number")
    (pick (is_number w) (ascii " has too many decimals: at most " ++ decimal (decimals_at k i))
    (pick (has_comma (decimals_at k i) w) (ascii " is no number: use a point") (ascii " is no number")))

abbrev pub fault_text : ℕ → ℕ → List ℕ → List ℕ
fault_text k i w = pick (is_choice k i) (ascii " is none of " ++ choices_of k i) (none_text k i w ++ expected_text k i)

-- the word after i others in a line of the row k is no value: the field i - 1 is the value's, since the kind's word comes first
abbrev pub no_value_text : ℕ → ℕ → List ℕ → List ℕ
no_value_text k i xs =
    ascii "not read: "
    ++ (kind_name k ++ (field_text k (i - 1) ++ (ascii ": " ++ (quoted (nth_word i xs) ++ fault_text k (i - 1) (nth_word i xs)))))

-- a line of kind k, by the place of the wrong word, counted from 1
unfoldable pub unread_text : ℕ → ℕ → List ℕ → List ℕ
unread_text k place xs = pick (eqb place 0) long_text (pick (eqb place 1) (no_kind_text xs) (no_value_text (row_of_line k xs) (place - 1) xs))

-- ---- a close that is not written

abbrev pub withheld_text : ℕ → List ℕ
withheld_text failed = ascii "close withheld: line " ++ (decimal failed ++ ascii " failed, and a book with a failed line is not closed")

-- ---- a line that is refused, a being the account before it and e what it says

-- refusal 7 in a line of the row k: the field, counted from 1, and the word that is typed for it
abbrev pub range_text : ℕ → ℕ → List ℕ → List ℕ
range_text k field xs =
    ascii " field "
    ++ (decimal field
    ++ (ascii ":"
    ++ (field_name k (field - 1)
    ++ (ascii ": " ++ (quoted (nth_word field xs) ++ (ascii " is out of its range; expected" ++ expected k (field - 1)))))))

-- the values of a farm record of version 1, or of version 2
abbrev pub either_text : List ℕ
either_text = field_names 1 ++ (ascii ", or" ++ field_names last_row)

-- so many values
abbrev pub many_text : ℕ → List ℕ
many_text n = decimal n ++ pick (eqb n 1) (ascii " value") (ascii " values")

-- how many values a kind takes: the farm record of version 2 one more
abbrev pub takes_text : ℕ → ℕ → List ℕ
takes_text k row = pick (eqb k 1) (decimal (length (fields 1)) ++ (ascii " or " ++ many_text (length (fields last_row))))
    (many_text (length (fields row)))

abbrev pub names_text : ℕ → ℕ → List ℕ
names_text k row = pick (eqb k 1) either_text (field_names row)

abbrev pub kind_takes : ℕ → ℕ → List ℕ
kind_takes k row = ascii ": " ++ (kind_name k ++ (ascii " takes " ++ takes_text k row))

abbrev pub values_here : ℕ → ℕ → ℕ → List ℕ
values_here k row count =
    ascii ", and " ++ (decimal count ++ (pick (eqb count 1) (ascii " is here; expected") (ascii " are here; expected") ++ names_text k row))

-- refusal 4: how many values the kind takes, how many are here, and which it takes
abbrev pub count_text : ℕ → ℕ → ℕ → List ℕ
count_text k row count = kind_takes k row ++ values_here k row count

-- a sum of a few numbers, none of which comes near the most that 64 bits hold
abbrev pub sum_of : ℕ → ℕ → ℕ
sum_of a b = min (a + b) 18446744073709551615

-- what there was before, what is typed, and both; with d decimals
abbrev pub made_text : ℕ → ℕ → ℕ → List ℕ
made_text d before typed = pointed d before ++ (ascii " and " ++ (pointed d typed ++ (ascii " make " ++ pointed d (sum_of before typed))))

-- and that this is too much
abbrev pub together_text : ℕ → ℕ → ℕ → ℕ → List ℕ
together_text d before typed most = made_text d before typed ++ (ascii ", and " ++ (pointed d most ++ ascii " are the most"))

-- the days of kind k that were used under the heading
abbrev pub used_days : Used → ℕ → ℕ
used_days u k = pick (eqb k 3) u.enteric (pick (eqb k 4) u.nitrogen u.pig)

abbrev pub days_over_text : Account → Entry → List ℕ
days_over_text a e = ascii ": days: " ++ together_text 0 (used_days a.used e.kind) (get_or e.values 0 0) 366

abbrev pub shares_text : Entry → List ℕ
shares_text e =
    ascii ": the three shares must make 100.00 per cent: together "
    ++ pointed 2 (sum_of (sum_of (get_or e.values 6 0) (get_or e.values 7 0)) (get_or e.values 8 0))

abbrev pub parts_text : Entry → List ℕ
parts_text e =
    ascii ": the volatilised and the leached part must make at most 1.000: together "
    ++ pointed 3 (sum_of (get_or e.values 8 0) (get_or e.values 10 0))

abbrev pub grazed_text : Account → Entry → List ℕ
grazed_text a e = ascii ": fraction: " ++ together_text 2 a.used.grazed (get_or e.values 3 0) 10000

-- refusal 10, by the kind
abbrev pub over_text : Account → Entry → List ℕ
over_text a e = pick (eqb e.kind 4) (shares_text e) (pick (eqb e.kind 5) (parts_text e) (grazed_text a e))

-- why it is refused
unfoldable pub ground_text : Refusal → Account → Entry → List ℕ → List ℕ
ground_text r a e xs =
    pick (eqb r.code 7) (range_text (row_of_line e.kind xs) r.field xs)
    (pick (eqb r.code 4) (count_text e.kind (row_of_line e.kind xs) e.count)
    (pick (eqb r.code 9) (days_over_text a e)
    (pick (eqb r.code 10) (over_text a e) (ascii ": " ++ sentence r.code))))

abbrev pub refused_text : Refusal → Account → Entry → List ℕ → List ℕ
refused_text r a e xs = ascii "refused " ++ (decimal r.code ++ ground_text r a e xs)

-- ---- a group: its days and its gases

-- nothing where the days are those of the year, or where the year is not known
abbrev pub of_year : ℕ → Option ℕ → List ℕ
of_year days None = []
of_year days (Some year) = pick (eqb days year) [] (ascii " of " ++ decimal year)

-- the days of kind k, where there are some; the Bool says that it is the first kind told
unfoldable pub days_text : Bool → ℕ → ℕ → Option ℕ → List ℕ
days_text is_first k days year =
    pick (eqb days 0) []
    (pick is_first (ascii " ") (ascii ", ") ++ (kind_name k ++ (ascii " " ++ (decimal days ++ (ascii " days" ++ of_year days year)))))

abbrev pub no_days : Used → Bool
no_days d = eqb d.enteric 0 && (eqb d.nitrogen 0 && eqb d.pig 0)

unfoldable pub all_days : Used → Option ℕ → List ℕ
all_days d year =
    pick (no_days d) (ascii " no days")
    (days_text true 3 d.enteric year
    ++ (days_text (eqb d.enteric 0) 4 d.nitrogen year ++ days_text (eqb d.enteric 0 && eqb d.nitrogen 0) 5 d.pig year))

abbrev pub head_text : ℕ → ℕ → List ℕ
head_text class head = class_name class ++ (ascii ", " ++ (decimal head ++ ascii " head:"))

-- g grams of a head, in tenths of a kilogram
abbrev pub a_head : ℕ → ℕ → List ℕ
a_head g head = pick (eqb head 0) [] (ascii ", " ++ (pointed 1 (round_div g (head * 100)) ++ ascii " kg a head"))

-- g grams of a gas; nothing where there are none
unfoldable pub gas_text : List ℕ → ℕ → ℕ → List ℕ
gas_text name g head = pick (eqb g 0) [] (name ++ (pointed 3 g ++ (ascii " kg" ++ a_head g head)))

abbrev pub gases_text : Account → List ℕ
gases_text a =
    gas_text (ascii "; CH4 ") a.subtotal.ch4 a.heading.head ++ gas_text (ascii "; N2O ") a.subtotal.n2o.0 a.heading.head

abbrev pub group_name : ℕ → List ℕ
group_name group = ascii "group " ++ (decimal group ++ ascii " ")

-- the group of the account, with class, head, days and gases; nothing before the first heading
unfoldable pub group_text : Account → Option ℕ → List ℕ
group_text a year =
    pick (eqb a.heading.group 0) []
    (group_name a.heading.group
    ++ (head_text a.heading.class a.heading.head ++ (all_days a.used year ++ (gases_text a ++ ascii "\n"))))

-- ---- after a line

abbrev pub line_head : ℕ → List ℕ
line_head n = ascii "line " ++ (decimal n ++ ascii ": ")

-- the first 20 messages are told
abbrev pub message : ℕ → List ℕ → List ℕ
message told text = pick (leb 20 told) [] text

-- the close that waits is too early, since line n has a word
abbrev pub early_words : Option ℕ → ℕ → ℕ → List ℕ
early_words None told n = []
early_words (Some close) told n = message told (line_head close ++ (ascii "close too early: line " ++ (decimal n ++ ascii " comes after it\n")))

unfoldable pub early_text : Typist → ℕ → List ℕ
early_text t n = early_words t.waiting.close t.counts.told n

-- a line that may have been a heading, and what became of it
abbrev pub may_text : ℕ → List ℕ → List ℕ
may_text n became = ascii "line " ++ (decimal n ++ (ascii ", which may have been a heading, was " ++ became))

-- by which line the heading was lost
abbrev pub lost_words : Cause → ℕ → List ℕ
lost_words causes.Heading n = ascii "the heading in line " ++ (decimal n ++ ascii " was not written")
lost_words causes.Unread n = may_text n (ascii "not read")
lost_words causes.Refused n = may_text n (ascii "refused")

unfoldable pub lost_text : Lost → List ℕ
lost_text l = lost_words l.cause l.line

-- the lines of a run
abbrev pub run_head : ℕ → ℕ → List ℕ
run_head first last = pick (eqb first last) (line_head first) (ascii "lines " ++ (decimal first ++ (ascii " to " ++ (decimal last ++ ascii ": "))))

-- the run without heading that is open; none is where no line lost the heading, and the words would then say line 0
abbrev pub run_words : Option Run → Option Lost → ℕ → List ℕ
run_words None lost told = []
run_words (Some r) lost told =
    message told
    (run_head r.first r.last ++ (ascii "without heading: " ++ (lost_text (unwrap_or lost (lost_by 0 causes.Heading)) ++ ascii "\n")))

unfoldable pub run_text : Typist → List ℕ
run_text t = run_words t.waiting.run t.lost t.counts.told

-- a line that is told by itself
abbrev pub is_told : Fate → Bool
is_told Nothing = false
is_told (Unread k place) = true
is_told Withheld = true
is_told Waits = false
is_told Without = false
is_told (Refused k r) = true
is_told (Wrote k) = false

-- what became of the line with the text xs, which says e; t is the typist before it
unfoldable pub words_of : Fate → Typist → Entry → List ℕ → List ℕ
words_of Nothing t e xs = []
words_of (Unread k place) t e xs = unread_text k place xs
words_of Withheld t e xs = withheld_text (unwrap_or t.failed 0)
words_of Waits t e xs = []
words_of Without t e xs = []
words_of (Refused k r) t e xs = refused_text r t.state.account e xs
words_of (Wrote k) t e xs = []

-- the kind of a line that is written
abbrev pub kind_written : Fate → ℕ
kind_written Nothing = 0
kind_written (Unread k place) = 0
kind_written Withheld = 0
kind_written Waits = 0
kind_written Without = 0
kind_written (Refused k r) = 0
kind_written (Wrote k) = k

-- a heading and the close that are written end a group
unfoldable pub ended_text : ℕ → Typist → List ℕ
ended_text k t = pick (eqb k 2 || eqb k 8) (group_text t.state.account t.year) []

-- a line that is written: the group that it ends, and its unusual values
abbrev pub written_text : ℕ → Typist → ℕ → Entry → List ℕ
written_text k t n e = pick (eqb k 0) [] (ended_text k t ++ unusual_remarks n t.state.account e t.counts.unusual)

-- what is said of line n by itself
unfoldable pub own_text : Fate → Typist → ℕ → Entry → List ℕ → List ℕ
own_text fate t n e xs =
    pick (is_told fate) (message t.counts.told (line_head n ++ (words_of fate t e xs ++ ascii "\n"))) (written_text (kind_written fate) t n e)

-- a line that goes on with a run, or ends it
abbrev pub goes_on_lem : Fate → Bool
goes_on_lem Nothing = true
goes_on_lem (Unread k place) = false
goes_on_lem Withheld = false
goes_on_lem Waits = false
goes_on_lem Without = true
goes_on_lem (Refused k r) = false
goes_on_lem (Wrote k) = false

abbrev pub has_word : Fate → Bool
has_word Nothing = false
has_word (Unread k place) = true
has_word Withheld = true
has_word Waits = true
has_word Without = true
has_word (Refused k r) = true
has_word (Wrote k) = true

-- what is said after line n, t being the typist before it: of a close that it makes too early, of a run that it ends, and of itself
unfoldable pub remark_text : Fate → Typist → ℕ → Entry → List ℕ → List ℕ
remark_text fate t n e xs =
    pick (has_word fate)
    (early_text t n ++ pick (goes_on_lem fate) [] (run_text (early t) ++ own_text fate (run_ended (early t)) n e xs))
    []

-- ---- at the end

-- what is said where the text ends: of a run that is open, and of the group that the close ends
unfoldable pub end_remark : Fate → Typist → List ℕ
end_remark fate t = run_text t ++ ended_text (kind_written fate) (run_ended t)

-- the book is closed: its close is written, and all was read and written
abbrev pub is_closed : Typist → Bool → Bool
is_closed t good = good && eqb t.state.account.stage 2

-- the status: 0 where the book is closed, else 1, as a digit
abbrev pub status_of : Typist → Bool → ℕ
status_of t good = pick (is_closed t good) 48 49

-- the messages, and the unusual values, past the first 20
abbrev pub more_text : ℕ → List ℕ → List ℕ
more_text told what = pick (leb told 20) [] (ascii "and " ++ (decimal (told - 20) ++ what))

abbrev pub left_out_text : Counts → List ℕ
left_out_text c = more_text c.told (ascii " more\n") ++ more_text c.unusual (ascii " more unusual\n")

abbrev pub no_close_text : Typist → List ℕ
no_close_text t = pick (t.heard.words && not t.heard.close) (ascii "no close: the text ends without one\n") []

abbrev pub others_text : Counts → List ℕ
others_text c =
    decimal c.unread
    ++ (ascii " not read, " ++ (decimal c.without ++ (ascii " without heading, " ++ (decimal c.unusual ++ ascii " unusual\n"))))

abbrev pub counts_text : Counts → List ℕ
counts_text c = decimal c.written ++ (ascii " written, " ++ (decimal c.refused ++ (ascii " refused, " ++ others_text c)))

-- a group that nothing ended
unfoldable pub open_text : Typist → List ℕ
open_text t = pick (eqb t.state.account.stage 1) (group_text t.state.account t.year) []

-- a group that nothing ended, how many remarks were left out, whether there is no close, and the verdict
unfoldable pub verdict_text : Typist → Bool → List ℕ
verdict_text t good =
    open_text t
    ++ (left_out_text t.counts
    ++ (no_close_text t ++ (pick (is_closed t good) (ascii "closed: ") (ascii "not closed: ") ++ counts_text t.counts)))
