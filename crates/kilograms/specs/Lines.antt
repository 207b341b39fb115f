-- A typed text of grams, a number a line: what is printed of each line, and what is reported of one that has no number.
-- Assumes nothing.
use Rattle.std.specs.Prelude.{ℕ, List, [], ◌++◌, Bool, ◌&&◌, ◌||◌, length, eqb, ltb}
use Rattle.base.specs.Choice.{pick}
use Rattle.printing.specs.Ascii.{ascii}
use Rattle.printing.specs.Decimal.{decimal}
use Rattle.typed_words.specs.Words.{nth_word}
use Rattle.kilograms.specs.Kilograms.{is_grams, kilograms_text}

-- the line has no word
abbrev pub is_blank_line : List ℕ → Bool
is_blank_line line = eqb (length (nth_word 0 line)) 0

-- it has one word, a whole number of grams, and is no longer than a typed line may be
abbrev pub has_grams : List ℕ → Bool
has_grams line = ltb (length line) 1024 && (eqb (length (nth_word 1 line)) 0 && is_grams (nth_word 0 line))

abbrev pub is_right : List ℕ → Bool
is_right line = is_blank_line line || has_grams line

-- standard output has a line for each: the kilograms, or nothing
unfoldable pub line_text : List ℕ → List ℕ
line_text line = pick (has_grams line) (kilograms_text (nth_word 0 line)) [] ++ ascii "\n"

-- standard error has the number of a line that is wrong
unfoldable pub remark_text : ℕ → List ℕ → List ℕ
remark_text number line =
    pick (is_right line) [] (ascii "line " ++ (decimal number ++ ascii ": expected one whole number of grams, of at most 20 digits\n"))

-- the status byte: 0 where the Bool says that nothing was wrong, else 1
abbrev pub status_of : Bool → ℕ
status_of right = pick right 48 49
