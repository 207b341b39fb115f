-- The figures of a line in kilograms: of one line alone those that are not 0, of two lines those that differ, with the difference. And a sum, a
-- group's or the book's, which both books have, one of them or none.
-- Assumes nothing.
use Rattle.std.specs.Prelude.{ℕ, zero, suc, ◌+◌, ◌-◌, ◌*◌, List, [], ◌++◌, Bool, true, false, ◌&&◌, length, eqb, leb, ltb}
use Rattle.base.specs.Choice.{pick}
use Rattle.codec.specs.Codec.{val_at}
use Rattle.line_rows.specs.Rows.{is_signed, figure_names}
use Rattle.typed_words.specs.Words.{nth_part}
use Rattle.printing.specs.Ascii.{ascii}
use Rattle.printing.specs.Decimal.{pointed}
use Rattle.compare.specs.Records.{same}

-- ---- one figure

-- its name, in a line's order
abbrev pub figure_name : ℕ → List ℕ
figure_name f = nth_part 10 f figure_names

-- the word of figure f, counted from 0, of a line: eight bytes for each, after length, version, kind and group; 0 where the line has no such figure
unfoldable pub figure_of : List ℕ → ℕ → ℕ
figure_of line f = pick (ltb (length line) (6 + 8 * f + 8)) 0 (val_at line (6 + 8 * f) 8)

-- figure f has a sign: it stands after kind and group
abbrev pub has_sign : ℕ → Bool
has_sign f = is_signed (2 + f)

-- the word w of figure f, which is grams, in kilograms: of a figure with a sign the upper half of the words are numbers below 0
unfoldable pub kilograms : ℕ → ℕ → List ℕ
kilograms f w = pick (has_sign f && leb 9223372036854775808 w) (ascii "-" ++ pointed 3 (18446744073709551616 - w)) (pointed 3 w)

-- the number of a word, with 2^63 added where it has a sign: so none is below 0, and their differences stay
abbrev pub raised : ℕ → ℕ → ℕ
raised f w = pick (has_sign f) (pick (ltb w 9223372036854775808) (w + 9223372036854775808) (w - 9223372036854775808)) w

-- the new less the old in kilograms, with its sign
unfoldable pub change_text : ℕ → ℕ → ℕ → List ℕ
change_text f x y =
    pick (ltb (raised f y) (raised f x)) (ascii "-" ++ pointed 3 (raised f x - raised f y)) (ascii "+" ++ pointed 3 (raised f y - raised f x))

abbrev pub named_text : ℕ → ℕ → List ℕ
named_text f x = ascii "  " ++ (figure_name f ++ (ascii " " ++ (kilograms f x ++ ascii " kg")))

abbrev pub now_text : ℕ → ℕ → ℕ → List ℕ
now_text f x y = ascii ", now " ++ (kilograms f y ++ (ascii ", " ++ change_text f x y))

-- alone where it is not 0
unfoldable pub single_text : ℕ → ℕ → List ℕ
single_text f x = pick (eqb x 0) [] (named_text f x ++ ascii "\n")

-- or with what it is now where that is another
unfoldable pub figure_text : Bool → ℕ → ℕ → ℕ → List ℕ
figure_text alone f x y = pick alone (single_text f x) (pick (eqb x y) [] (named_text f x ++ (now_text f x y ++ ascii "\n")))

-- ---- the figures of a line s, alone or with those of a line t

-- n of them, from figure f on
unfoldable pub figures_from : ℕ → Bool → ℕ → List ℕ → List ℕ → List ℕ
figures_from zero alone f s t = []
figures_from (suc n) alone f s t = figure_text alone f (figure_of s f) (figure_of t f) ++ figures_from n alone (suc f) s t

abbrev pub figures_text : ℕ → Bool → List ℕ → List ℕ → List ℕ
figures_text n alone s t = figures_from n alone 0 s t

-- ---- a sum: its line in the old book, and in the new one, where it is there

abbrev pub only_text : List ℕ → ℕ → List ℕ → List ℕ → List ℕ
only_text word n which s = word ++ (which ++ figures_text n true s s)

unfoldable pub two_sums_text : List ℕ → ℕ → List ℕ → List ℕ → List ℕ
two_sums_text word n s t = pick (same s t) [] (word ++ (ascii ":\n" ++ figures_text n false s t))

unfoldable pub sum_text : List ℕ → ℕ → List ℕ → List ℕ → List ℕ
sum_text word n s t =
    pick (eqb (length s) 0) (pick (eqb (length t) 0) [] (only_text word n (ascii ", only in new:\n") t))
    (pick (eqb (length t) 0) (only_text word n (ascii ", only in old:\n") s)
    (two_sums_text word n s t))
