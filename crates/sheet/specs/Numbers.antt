-- Document 02, W13: "Numbers have no leading zeros, and zero has no minus sign." Numbers as text, and read off the front of a text.
-- A signed number is its two's complement of eight bytes, as it stands in a line.
use Rattle.std.specs.Prelude.{ℕ, ◌+◌, ◌-◌, ◌*◌, Bool, true, false, ◌&&◌, List, [], ◌∷◌, get_or, drop, leb, eqb}
use Rattle.base.specs.Choice.{pick}

-- ---- the words of eight bytes

-- 2^63: how many signed numbers of eight bytes are below zero
abbrev pub half : ℕ
half = 9223372036854775808

-- 2^64: how many there are
abbrev pub full : ℕ
full = 18446744073709551616

-- ---- a number read off the front of a text

-- the first byte; 0, which is in no number, where there is none
abbrev pub first : List ℕ → ℕ
first s = get_or s 0 0

-- the text begins with a number; its value; what stands after it
pub record Number : Type 0 where
  pub good : Bool
  pub value : ℕ
  pub rest : List ℕ

abbrev pub found : ℕ → List ℕ → Number
found v s = record { good = true; value = v; rest = s }

abbrev pub none : List ℕ → Number
none s = record { good = false; value = 0; rest = s }

-- the number v goes on with the digits that s begins with
unfoldable pub digits : ℕ → List ℕ → Number
digits v [] = found v []
digits v (b ∷ s) = pick (leb 48 b && leb b 57) (digits (v * 10 + (b - 48)) s) (found v (b ∷ s))

-- a number above zero: a digit that is not 0, then digits
unfoldable pub positive : List ℕ → Number
positive s = pick (leb 49 (first s) && leb (first s) 57) (digits (first s - 48) (drop 1 s)) (none s)

-- 0 alone, or a number above zero
unfoldable pub unsigned : List ℕ → Number
unsigned s = pick (eqb (first s) 48) (found 0 (drop 1 s)) (positive s)

-- ---- a number in its field

-- the text begins with a number; that is inside its field; its value there, else 0; what stands after it
pub record Cell : Type 0 where
  pub good : Bool
  pub fits : Bool
  pub value : ℕ
  pub rest : List ℕ

-- a number up to the highest, of this value in its field
abbrev pub in_field : Number → ℕ → ℕ → Cell
in_field n highest v = record {
  good = n.good;
  fits = n.good && leb n.value highest;
  value = pick
      (n.good && leb n.value highest) v 0;
  rest = n.rest;
}

unfoldable pub unsigned_cell : ℕ → List ℕ → Cell
unsigned_cell highest s = in_field (unsigned s) highest (unsigned s).value

-- a number above zero after a minus sign, which goes one further, or a number without
unfoldable pub signed_cell : ℕ → List ℕ → Cell
signed_cell highest s =
    pick (eqb (first s) 45) (in_field (positive (drop 1 s)) (highest + 1) (full - (positive (drop 1 s)).value))
    (in_field (unsigned s) highest (unsigned s).value)

-- an empty column: nothing, of value 0
abbrev pub empty_cell : List ℕ → Cell
empty_cell s = record { good = true; fits = true; value = 0; rest = s }
