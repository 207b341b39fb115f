-- Whole grams as people read them: kilograms with three decimals, so exact to the gram, thin spaces between thousands, a real minus sign. It goes by
-- the digits themselves, however many there are.
-- Assumes nothing.
use Rattle.std.specs.Prelude.{ℕ, ◌-◌, ◌%◌, List, [], ◌∷◌, ◌++◌, Bool, ◌&&◌, length, get_or, take, drop, replicate, leb, ltb, eqb, is_some}
use Rattle.base.specs.Choice.{pick}
use Rattle.printing.specs.Ascii.{thin_space, minus_sign}
use Rattle.typed_words.specs.Amounts.{amount_of}

-- before the last n digits of a number stands a space: they are whole threes
abbrev pub space_before : ℕ → List ℕ
space_before n = pick (ltb 0 n && eqb (n % 3) 0) thin_space []

-- digits in threes
unfoldable pub in_threes : List ℕ → List ℕ
in_threes [] = []
in_threes (d ∷ ds) = d ∷ (space_before (length ds) ++ in_threes ds)

-- at least four digits: kilograms have one, and grams three
abbrev pub filled : List ℕ → List ℕ
filled ds = replicate (4 - length ds) 48 ++ ds

-- the kilograms, a point, and the last three digits
abbrev pub pointed_before : ℕ → List ℕ → List ℕ
pointed_before n ds = in_threes (take n ds) ++ (46 ∷ drop n ds)

unfoldable pub amount_text : List ℕ → List ℕ
amount_text ds = pointed_before (length (filled ds) - 3) (filled ds)

-- ---- a word: digits, perhaps with a minus sign before them

abbrev pub is_below : List ℕ → Bool
is_below w = eqb (get_or w 0 0) 45

unfoldable pub digits_in : List ℕ → List ℕ
digits_in w = pick (is_below w) (drop 1 w) w

-- it is a whole number of grams: a number as people type it, without decimals, of at most 20 digits, which is as many as eight bytes can have
unfoldable pub is_grams : List ℕ → Bool
is_grams w = leb (length (digits_in w)) 20 && is_some (amount_of 0 (digits_in w))

abbrev pub sign_text : List ℕ → List ℕ
sign_text w = pick (is_below w) minus_sign []

unfoldable pub kilograms_text : List ℕ → List ℕ
kilograms_text w = sign_text w ++ amount_text (digits_in w)
