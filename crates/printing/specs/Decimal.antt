-- The numbers of document 01's printed lines as decimal text: the lister's figures, and the slip's kilograms to the gram.
use Rattle.std.specs.Prelude.{◌≡◌, ℕ, zero, suc, ◌+◌, ◌/◌, ◌%◌, ◌≤◌, Bool, true, false, List, [], ◌∷◌, ◌++◌, length, take, drop, ltb, ℤ, pos, negsuc}

-- the ASCII digit of d
abbrev pub digit : ℕ → ℕ
digit d = 48 + d

-- n's digits where n has at most f more than one; the Bool says that n has one
unfoldable pub digits_by : ℕ → Bool → ℕ → List ℕ
digits_by zero b n = digit n ∷ []
digits_by (suc f) true n = digit n ∷ []
digits_by (suc f) false n = digits_by f (ltb (n / 10) 10) (n / 10) ++ (digit (n % 10) ∷ [])

-- n's decimal digits: no leading zeros, "0" for zero
unfoldable pub decimal : ℕ → List ℕ
unfolding digits_by
decimal n = digits_by n (ltb n 10) n

-- a signed number: a minus sign before the digits of one below zero, `negsuc n` being −(n + 1)
unfoldable pub signed : ℤ → List ℕ
signed (pos n) = decimal n
signed (negsuc n) = 45 ∷ decimal (suc n)

-- n thousandths as a decimal with three places: kilograms of n grams
abbrev pub thousandths : ℕ → List ℕ
thousandths n = decimal (n / 1000) ++ (46 ∷ digit (n / 100 % 10) ∷ digit (n / 10 % 10) ∷ digit (n % 10) ∷ [])

-- the last d digits of n, zeros among them
unfoldable pub last_digits : ℕ → ℕ → List ℕ
last_digits zero n = []
last_digits (suc d) n = last_digits d (n / 10) ++ (digit (n % 10) ∷ [])

-- n without its last d digits
unfoldable pub without_last : ℕ → ℕ → ℕ
without_last zero n = n
without_last (suc d) n = without_last d (n / 10)

-- n as a number with d decimals, in units of the last: 650 with 2 is 6.50, with none 650
unfoldable pub pointed : ℕ → ℕ → List ℕ
pointed zero n = decimal n
pointed (suc d) n = decimal (without_last (suc d) n) ++ (46 ∷ last_digits (suc d) n)

-- each number with a space before it
unfoldable pub spaced : List ℕ → List ℕ
spaced [] = []
spaced (n ∷ ns) = (32 ∷ decimal n) ++ spaced ns

-- the numbers with one space between
unfoldable pub joined : List ℕ → List ℕ
unfolding spaced
joined [] = []
joined (n ∷ ns) = decimal n ++ spaced ns

-- the numbers on a line: one space between, a newline at the end
abbrev pub numbers_line : List ℕ → List ℕ
numbers_line ns = joined ns ++ (10 ∷ [])

-- zs is the buffer xs with the text s in it from index at on; what stood before and behind stays; r is the index past the text
pub record Put (xs zs : List ℕ) (at : ℕ) (s : List ℕ) (r : ℕ) : Type 0 where
  pub next : r ≡ at + length s
  pub room : r ≤ length xs
  pub text : zs ≡ take at xs ++ (s ++ drop r xs)
