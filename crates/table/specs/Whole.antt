-- The whole table over a list of files, its last row in whole numbers: no word of 64 bits is in it.
use Rattle.std.specs.Prelude.{ℕ, zero, suc, ◌+◌, ◌^◌, Bool, List, [], ◌∷◌, ◌++◌, length, ℤ, pos, negsuc, ◌+ℤ◌, nat_lt, slice_index}
use Rattle.base.specs.Choice.{pick}
use Rattle.base.specs.Signed.{signed_of}
use Rattle.line_bytes.specs.Lines.{figure_count}
use Rattle.line_rows.specs.Rows.{is_signed}
use Rattle.printing.specs.Ascii.{ascii}
use Rattle.printing.specs.Decimal.{decimal, signed}
use Rattle.table.specs.declared.Seen.{Seen}
use Rattle.table.specs.declared.sums.Totals.{Totals}
use Rattle.table.specs.Seen.{seen_of, not_read, is_closed}
use Rattle.table.specs.Sums.{no_totals, totals_with}
use Rattle.table.specs.Rows.{header_text, row_text, last_text}

-- a file by its name: a book's bytes, or nothing that could be read
pub data File : Type 0 where
  book : List ℕ → List ℕ → File
  unreadable : List ℕ → File

abbrev pub seen_in : File → Seen
seen_in (book name bytes) = seen_of bytes
seen_in (unreadable name) = not_read

abbrev pub row_of : File → List ℕ
row_of (book name bytes) = row_text name (seen_of bytes)
row_of (unreadable name) = row_text name not_read

-- a row for each, in the order given
unfoldable pub rows_of : List File → List ℕ
rows_of [] = []
rows_of (f ∷ fs) = row_of f ++ rows_of fs

-- those of them that are closed books
unfoldable pub closed_of : List File → List Seen
closed_of [] = []
closed_of (f ∷ fs) = pick (is_closed (seen_in f)) (seen_in f ∷ closed_of fs) (closed_of fs)

-- ---- sums in whole numbers

-- the words of a column
unfoldable pub words_of : ℕ → List Seen → List ℕ
words_of column [] = []
words_of column (s ∷ ss) = slice_index s.numbers column ∷ words_of column ss

-- added up as they are, and as the signed numbers that they stand for
unfoldable pub whole_sum : List ℕ → ℕ
whole_sum [] = 0
whole_sum (w ∷ ws) = w + whole_sum ws

unfoldable pub signed_sum : List ℕ → ℤ
signed_sum [] = pos 0
signed_sum (w ∷ ws) = signed_of w +ℤ signed_sum ws

-- from −2^63 to 2^63 − 1
abbrev pub in_word : ℤ → Bool
in_word (pos n) = nat_lt n (2 ^ 63)
in_word (negsuc n) = nat_lt n (2 ^ 63)

-- the sum of a column, empty where it does not fit eight bytes
abbrev pub sum_text : ℕ → List ℕ → List ℕ
sum_text column ws =
    pick (is_signed column) (pick (in_word (signed_sum ws)) (signed (signed_sum ws)) [])
    (pick (nat_lt (whole_sum ws) (2 ^ 64)) (decimal (whole_sum ws)) [])

-- the sums of n columns from one on
unfoldable pub whole_sums : ℕ → ℕ → List Seen → List ℕ
whole_sums zero column ss = []
whole_sums (suc n) column ss = (ascii "," ++ sum_text column (words_of column ss)) ++ whole_sums n (suc column) ss

-- the last row of the closed books ss
unfoldable pub all_text : List Seen → List ℕ
all_text ss = ascii "all,,,," ++ (decimal (length ss) ++ (whole_sums (figure_count + 1) 2 ss ++ ascii "\r\n"))

-- the table
abbrev pub table_of : List File → List ℕ
table_of fs = header_text ++ (rows_of fs ++ all_text (closed_of fs))

-- ---- as the program goes: file after file, with running sums

unfoldable pub totals_over : Totals → List File → Totals
totals_over t [] = t
totals_over t (f ∷ fs) = totals_over (totals_with t (seen_in f)) fs

abbrev pub printed : List File → List ℕ
printed fs = header_text ++ (rows_of fs ++ last_text (totals_over no_totals fs))
