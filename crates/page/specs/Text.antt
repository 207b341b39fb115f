-- The small texts of the member's page: kilograms to the gram, with thin spaces and a real minus sign; a cell of a table.
-- Assumes nothing.
use Rattle.std.specs.Prelude.{ℕ, zero, suc, ◌-◌, ◌/◌, ◌%◌, ◌^◌, Bool, List, [], ◌∷◌, ◌++◌, ◌==◌, nat_le, nat_lt}
use Rattle.base.specs.Choice.{pick}
use Rattle.printing.specs.Ascii.{ascii, thin_space, minus_sign}
use Rattle.printing.specs.Decimal.{digit, decimal}

-- the last three digits of n, zeros among them
abbrev pub last_three : ℕ → List ℕ
last_three n = digit (n / 100 % 10) ∷ digit (n / 10 % 10) ∷ digit (n % 10) ∷ []

-- n's digits in threes, with at most so many thin spaces
unfoldable pub threes_by : ℕ → ℕ → List ℕ
threes_by zero n = decimal n
threes_by (suc f) n = pick (nat_lt n 1000) (decimal n) (threes_by f (n / 1000) ++ (thin_space ++ last_three n))

-- six are enough for any number of eight bytes
abbrev pub threes : ℕ → List ℕ
threes n = threes_by 6 n

-- n grams as kilograms, the grams in softer ink
unfoldable pub amount_text : ℕ → List ℕ
amount_text n = threes (n / 1000) ++ (ascii "<small>." ++ (last_three n ++ ascii "</small>"))

-- a word of eight bytes is below zero in two's complement
abbrev pub below : ℕ → Bool
below w = nat_le (2 ^ 63) w

-- the grams that a word stands for, as kilograms
unfoldable pub kilograms : ℕ → List ℕ
kilograms w = pick (below w) (minus_sign ++ amount_text (2 ^ 64 - w)) (amount_text w)

-- nothing where there are none
unfoldable pub figure_text : ℕ → List ℕ
figure_text w = pick (w == 0) [] (kilograms w)

-- a cell, which bears its label for narrow screens
unfoldable pub cell_text : List ℕ → ℕ → List ℕ
cell_text label w = ascii "<td data-l=\"" ++ (label ++ (ascii "\">" ++ (figure_text w ++ ascii "</td>")))
