-- Document 01's kinds, fields, classes and numbers in the words that people are told (document 02, W1: a book that is typed), in one table.
use Rattle.std.specs.Prelude.{ℕ, zero, suc, ◌-◌, min, Bool, ◌&&◌, List, [], ◌∷◌, ◌++◌, length, get_or, take, drop, leb, ltb, eqb, Option, None, Some}
use Rattle.base.specs.Choice.{pick}
use Rattle.codec.specs.Table.{last_kind, last_row}
use Rattle.typed_words.specs.Words.{nth_part, nth_word, same_text_lem, lowered}
use Rattle.printing.specs.Ascii.{ascii}
use Rattle.printing.specs.Decimal.{pointed}
use Rattle.line_rows.specs.Rows.{sheet_form}

-- the line k of a text, counted from 0; from the last on all are the same
abbrev pub table_line : ℕ → ℕ → List ℕ → List ℕ
table_line last k text = nth_part 10 (min k last) text

-- ---- the kinds: a line for each row of the table, from 0, the farm record of version 2 behind the kinds; no other has fields

-- the line of what is no row
abbrev pub no_row : ℕ
no_row = suc last_row

unfoldable pub kind_table : List ℕ
kind_table = ascii "record\nfarm\nheading\nenteric\ncattle\npig\nenergy\nsoil\nclose\ntillage\ngrazing\nfarm\nrecord"

abbrev pub kind_name : ℕ → List ℕ
kind_name k = table_line no_row k kind_table

-- the names of n kinds from k on, with a comma before each
unfoldable pub names_from : ℕ → ℕ → List ℕ
names_from zero k = []
names_from (suc n) k = ascii ", " ++ (kind_name k ++ names_from n (suc k))

-- the names of all kinds, with a comma between
unfoldable pub kind_names : List ℕ
kind_names = kind_name 1 ++ names_from (last_kind - 1) 2

-- the names of a kind's fields, with a comma between
unfoldable pub field_table : List ℕ
field_table =
    ascii "\n"
    ++ ascii " farm number, year, warming set\n"
    ++ ascii " group, class, head\n"
    ++ ascii " days, GE, Ym\n"
    ++ ascii " days, feed, protein, milk, milk protein, gain, solid share, liquid share, pasture share\n"
    ++ ascii " days, feed, VS excretion, VS factor, MCF, protein, N factor, direct EF, volatilised part, volatilised EF, leached part, leached EF\n"
    ++ ascii " source, amount, factor\n"
    ++ ascii " area\n"
    ++ ascii " records before it\n"
    ++ ascii " zone, texture, change, years, area\n"
    ++ ascii " region, column, live weight, fraction\n"
    ++ ascii " farm number, year, CH4 factor, N2O factor"

abbrev pub field_names : ℕ → List ℕ
field_names k = table_line no_row k field_table

-- the name of field i, counted from 0, with the blank before it
abbrev pub field_name : ℕ → ℕ → List ℕ
field_name k i = nth_part 44 i (field_names k)

-- without it
abbrev pub label_of : ℕ → ℕ → List ℕ
label_of k i = drop 1 (field_name k i)

-- ---- fields that are one of a few named things

-- the text of field i, counted from 0, of a row, in a table whose lines have a semicolon between fields
abbrev pub cell_of : ℕ → ℕ → List ℕ → List ℕ
cell_of row i table = nth_part 59 i (table_line no_row row table)

-- the words for 1, 2, .., with a comma between; nothing for any other field
unfoldable pub choice_table : List ℕ
choice_table =
    ascii "\n\n;milking, dry, heifer, pig;\n\n\n\n\n\n\n"
    ++ ascii "boreal-shield-west, atlantic-maritime, boreal-plains, boreal-shield-east, mixedwood-plains, semiarid-prairies, montane-cordillera"
    ++ ascii ", pacific-maritime, subhumid-prairies;coarse, medium, fine"
    ++ ascii ";intensive-to-reduced, reduced-to-no, intensive-to-no, reduced-to-intensive, no-to-reduced, no-to-intensive;;\n"
    ++ ascii "atlantic, quebec, ontario, manitoba, saskatchewan, alberta, british-columbia;cows, heifers, calves;;\n"

abbrev pub choices_of : ℕ → ℕ → List ℕ
choices_of row i = cell_of row i choice_table

abbrev pub is_choice : ℕ → ℕ → Bool
is_choice row i = ltb 0 (length (choices_of row i))

-- the word for the number v, in a list of words
abbrev pub word_for : List ℕ → ℕ → List ℕ
word_for words v = nth_word 0 (nth_part 44 (v - 1) words)

abbrev pub choice_word : ℕ → ℕ → ℕ → List ℕ
choice_word row i v = word_for (choices_of row i) v

-- the number of the word w among the n words after the first k; none where it is none of them
unfoldable pub chosen_from : ℕ → ℕ → List ℕ → List ℕ → Option ℕ
chosen_from zero k words w = None
chosen_from (suc n) k words w = pick (same_text_lem w (word_for words (suc k))) (Some (suc k)) (chosen_from n (suc k) words w)

-- no field has more words
abbrev pub choices_most : ℕ
choices_most = 9

-- the number of a word, capitals or not
abbrev pub chosen : ℕ → ℕ → List ℕ → Option ℕ
chosen row i w = chosen_from choices_most 0 (choices_of row i) (lowered w)

-- ---- what is expected

-- what is expected of a kind's fields: from, to, and the unit that people say
unfoldable pub expected_table : List ℕ
expected_table =
    ascii "\n"
    ++ ascii " 0 to 4294967295; 1900 to 2200; 1 or 2 (or the CH4 and the N2O factor in its place)\n"
    ++ ascii " 1 to 65535; 1 to 4; 0 to 20000\n"
    ++ ascii " 1 to 366; 0 to 1000.00 MJ per head and day; 0 to 20.00 per cent\n"
    ++ ascii " 1 to 366; 0 to 50.00 kg per head and day; 0 to 40.00 per cent; 0 to 80.00 kg per head and day; 0 to 8.00 per cent"
    ++ ascii "; 0 to 3000 g per head and day; 0 to 100.00 per cent; 0 to 100.00 per cent; 0 to 100.00 per cent\n"
    ++ ascii " 1 to 366; 0 to 10.00 kg per head and day; 0 to 0.5000; 0 to 2.000; 0 to 1.000; 0 to 40.00 per cent; 0 to 2.000"
    ++ ascii "; 0 to 0.10000; 0 to 1.000; 0 to 0.10000; 0 to 1.000; 0 to 0.10000\n"
    ++ ascii " 1 to 8 (the documents give no names); 0 to 1000000.0 units; 0 to 10000000 g CO2 per unit\n"
    ++ ascii " 0 to 100000.00 ha\n"
    ++ ascii " 0 to 65535\n"
    ++ ascii " 1 to 9; 1 to 3; 1 to 6; 1 to 100; 0 to 100000.00 ha\n"
    ++ ascii " 1 to 7; 1 to 3; 0 to 2000 kg; 0 to 100.00 per cent\n"
    ++ ascii " 0 to 4294967295; 1900 to 2200; 1 to 1000; 1 to 1000"

-- the words of a choice, in brackets
abbrev pub choices_text : ℕ → ℕ → List ℕ
choices_text row i = pick (is_choice row i) (ascii " (" ++ (choices_of row i ++ ascii ")")) []

abbrev pub expected : ℕ → ℕ → List ℕ
expected row i = cell_of row i expected_table ++ choices_text row i

-- how many decimals the fields of a kind have: a digit for each
unfoldable pub decimals_table : List ℕ
decimals_table = ascii "\n000\n000\n022\n022220222\n024332353535\n010\n2\n0\n00002\n0002\n0000"

abbrev pub decimals_of : ℕ → List ℕ
decimals_of k = table_line no_row k decimals_table

-- 0 where there is no such field
abbrev pub decimals_at : ℕ → ℕ → ℕ
decimals_at k i = get_or (decimals_of k) i 0 - 48

-- ---- a value

-- the unit of a field, with a blank before it; nothing where it has none
unfoldable pub unit_table : List ℕ
unit_table =
    ascii "\n\n\n; MJ; per cent\n; kg; per cent; kg; per cent; g; per cent; per cent; per cent\n; kg;;;; per cent;;;;;;\n"
    ++ ascii "; units; g CO2 per unit\n ha\n\n;;;; ha\n;; kg; per cent\n"

abbrev pub unit_text : ℕ → ℕ → List ℕ
unit_text row i = cell_of row i unit_table

-- without the blank
abbrev pub unit_of : ℕ → ℕ → List ℕ
unit_of row i = drop 1 (unit_text row i)

-- the value v as it is typed: a choice by its word, a number with all its decimals
abbrev pub value_text : ℕ → ℕ → ℕ → List ℕ
value_text row i v = pick (is_choice row i) (choice_word row i v) (pointed (decimals_at row i) v)

-- a heading's second field is its class
abbrev pub class_name : ℕ → List ℕ
class_name c = choice_word 2 1 c

-- ---- what a field is

-- in a few words without commas
unfoldable pub help_table : List ℕ
help_table =
    ascii "\n"
    ++ ascii "number of the farm;year of the book;1 for the factors 21 and 310 or 2 for 23 and 296\n"
    ++ ascii "number of the group above those before it;what animals the group has;animals in the group\n"
    ++ ascii "days that the ration was fed;gross energy a head and day;part of the gross energy that becomes CH4\n"
    ++ ascii "days that the ration was fed;dry matter a head and day;crude protein of the dry matter;milk a head and day;protein of the milk"
    ++ ascii ";weight gained a head and day;share of the manure stored solid;share of the manure stored liquid;share of the manure left on pasture\n"
    ++ ascii "days that the ration was fed;feed a head and day;volatile solids excreted by kg of feed;volatile solids adjusted to the diet"
    ++ ascii ";methane conversion factor of the handling;crude protein of the feed;excreted nitrogen adjusted to the diet"
    ++ ascii ";N2O-N straight from the store by kg of N;part of the N that goes into the air;N2O-N by kg of that part"
    ++ ascii ";part of the N that is leached;N2O-N by kg of that part\n"
    ++ ascii "number of the energy source (the documents give no names);units used in the year;CO2 of a unit\n"
    ++ ascii "area of organic soil\n"
    ++ ascii "records before the close (left out it is filled in)\n"
    ++ ascii "ecozone of the land;texture of the soil;change of tillage;years since the change;area of the change\n"
    ++ ascii "region of the farm;which animals graze;live weight of an animal;part of the yearly intake that is grazed\n"
    ++ ascii "number of the farm;year of the book;CO2e of a kg of CH4;CO2e of a kg of N2O"

-- nothing where there is no such field
abbrev pub help_of : ℕ → ℕ → List ℕ
help_of row i = cell_of row i help_table

-- ---- the numbers of refusals

unfoldable pub sentence_table : List ℕ
sentence_table =
    ascii "closed\n"
    ++ ascii "a length that no record has: it is 4 to 26\n"
    ++ ascii "the version is not 1, nor 2 of a farm record\n"
    ++ ascii "no such kind of record: kinds are 1 to 10\n"
    ++ ascii "a wrong length or count of values\n"
    ++ ascii "the book has 4096 records, and no more go in\n"
    ++ ascii "out of its place: the one farm record is first; enteric, cattle and grazing need a milking, dry or heifer heading"
    ++ ascii ", pig a pig heading\n"
    ++ ascii "a value is out of its range\n"
    ++ ascii "the group number must be above that of the heading before\n"
    ++ ascii "more than 366 days of this kind under the heading\n"
    ++ ascii "cattle shares must be 100.00 per cent together, grazing fractions under a heading at most that"
    ++ ascii "; a pig's volatilised and leached parts at most 1.000\n"
    ++ ascii "more nitrogen in milk and gain than in the feed\n"
    ++ ascii "the close counts other records than there are before it; left out, the count is filled in\n"
    ++ ascii "a state outside its ranges\n"
    ++ ascii "a number of the ration or the change is out of its range\n"
    ++ ascii "the changed value is out of its range\n"
    ++ ascii "no room\n"
    ++ ascii "the bytes end before the close\n"
    ++ ascii "bytes stand after the close\n"
    ++ ascii "no such number\n"
    ++ ascii "not a sheet\n"
    ++ ascii "a number is outside its field: kind 3 to 10 or 16, group to 65535"
    ++ ascii ", a figure to 18446744073709551615, co2 and co2e -9223372036854775808 to 9223372036854775807\n"
    ++ ascii "the book is closed already\n"
    ++ ascii "the bytes are no run of whole lines, as the herd desk gives them: for a book use bin/sheet\n"
    ++ ascii "no such number"

-- 20 also says the form
unfoldable pub sentence : ℕ → List ℕ
sentence code = table_line 24 code sentence_table ++ pick (eqb code 20) (ascii ": " ++ sheet_form) []

-- ---- a word that is told back

-- a byte that prints, 33 to 126, or a question mark
abbrev pub printed_byte : ℕ → ℕ
printed_byte b = pick (leb 33 b && leb b 126) b 63

unfoldable pub all_printed : List ℕ → List ℕ
all_printed [] = []
all_printed (b ∷ s) = printed_byte b ∷ all_printed s

-- the first 24 bytes of a word
abbrev pub shown : List ℕ → List ℕ
shown word = all_printed (take 24 word)
