-- The numbers that a person types for the fields of document 01's book (document 02, W1), with the decimals that people say,
-- and their values in the book's unit: whole numbers of the last decimal.
use Rattle.std.specs.Prelude.{ℕ, ◌+◌, ◌-◌, ◌*◌, ◌^◌, ◌≤◌, min, ◌≡◌, Bool, true, ◌&&◌, ◌||◌, ◌⊎◌, List, [], ◌∷◌, ◌++◌, length, replicate, leb, ltb, eqb}
use Rattle.base.specs.Bytes.{index_of}
use Rattle.std.specs.Prelude.{Option, Some}
use Rattle.typed_words.specs.Numbers.{goes_on_lem, before_point, behind_point}

abbrev pub is_digit : ℕ → Bool
is_digit b = leb 48 b && leb b 57

-- v with one more digit behind its own; 10^15 stands for all that is more, which no field holds
abbrev pub with_digit : ℕ → ℕ → ℕ
with_digit v b = min (v * 10 + (b - 48)) 1000000000000000

-- the number of the digits of s, going on from v
unfoldable pub number_from : ℕ → List ℕ → Option ℕ
number_from v [] = Some v
number_from v (b ∷ s) = goes_on_lem (is_digit b) (number_from (with_digit v b) s)

-- at least one byte before the point; where there is a point, from 1 up to d after it
abbrev pub places_fit : ℕ → List ℕ → Bool
places_fit d s =
    (ltb 0 (index_of 46 s) && (eqb (index_of 46 s) (length s) || ltb 0 (length (behind_point s)))) && leb (length (behind_point s)) d

-- the digits before the point, those after it, and the zeros that are missing to d places
abbrev pub filled_up : ℕ → List ℕ → List ℕ
filled_up d s = before_point s ++ (behind_point s ++ replicate (d - length (behind_point s)) 48)

-- a number with up to d decimals, times 10^d: with 2 decimals 6.5 is 650, and 6 is 600
unfoldable pub amount_of : ℕ → List ℕ → Option ℕ
amount_of d s = goes_on_lem (places_fit d s) (number_from 0 (filled_up d s))

-- ---- what it is to write a number, without reading it

unfoldable pub all_digits : List ℕ → Bool
all_digits [] = true
all_digits (b ∷ s) = is_digit b && all_digits s

-- the whole number that digits write, after those of v
unfoldable pub value_after_lem : ℕ → List ℕ → ℕ
value_after_lem v [] = v
value_after_lem v (b ∷ s) = value_after_lem (v * 10 + (b - 48)) s

-- the word s writes a number with at most d decimals: digits, and perhaps a point with 1 to d digits after it; that number times 10^d is `value`
pub record Writes (d : ℕ) (s : List ℕ) (value : ℕ) : Type 0 where
  pub whole : List ℕ
  pub places : List ℕ
  pub some : 1 ≤ length whole
  pub most : length places ≤ d
  pub digits : all_digits (whole ++ places) ≡ true
  pub form : ((s ≡ whole) × (places ≡ [])) ⊎ ((s ≡ whole ++ (46 ∷ places)) × (1 ≤ length places))
  pub times : value ≡ value_after_lem 0 (whole ++ places) * 10 ^ (d - length places)

-- it writes one
pub record WritesOne (d : ℕ) (s : List ℕ) : Type 0 where
  pub value : ℕ
  pub is : Writes d s value
