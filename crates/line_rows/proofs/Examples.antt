-- Worked lines: the credit of a hectare in its first year, grazing, and a farm whose total is below zero.
use Prim.Native.Nat.{◌-◌, ◌^◌}
use mathlib.Core.Path.{◌≡◌, refl}
use mathlib.Core.Bool.{true, false}
use mathlib.Core.List.{[], ◌∷◌}
use Rattle.printing.specs.Ascii.{ascii}
use Rattle.printing.specs.Decimal.{digits_by, decimal, signed}
use Rattle.line_rows.specs.declared.Form.TheVariants.{Listing, Sheet}
use Rattle.line_rows.specs.Rows.{columns_text, row_text}

credit : row_text Listing false (9 ∷ 0 ∷ 0 ∷ 0 ∷ (2 ^ 64 - 135593) ∷ 0 ∷ 0 ∷ 0 ∷ []) ≡ ascii "9 0 0 0 -135593 0 0 0\n"
unfolding row_text columns_text signed decimal digits_by
credit = refl

grazed : row_text Listing false (10 ∷ 12 ∷ 0 ∷ 0 ∷ 0 ∷ 0 ∷ 0 ∷ 570000 ∷ []) ≡ ascii "10 12 0 0 0 0 0 570000\n"
unfolding row_text columns_text signed decimal digits_by
grazed = refl

total : row_text Listing true (8 ∷ 0 ∷ 10 ∷ 0 ∷ (2 ^ 64 - 135593) ∷ 0 ∷ 0 ∷ 28 ∷ (2 ^ 64 - 135355) ∷ []) ≡ ascii "8 0 10 0 -135593 0 0 28 -135355\n"
unfolding row_text columns_text signed decimal digits_by
total = refl

-- the same two in a sheet: its last column is empty but in the close's line
credit-in-sheet : row_text Sheet false (9 ∷ 0 ∷ 0 ∷ 0 ∷ (2 ^ 64 - 135593) ∷ 0 ∷ 0 ∷ 0 ∷ []) ≡ ascii "9,0,0,0,-135593,0,0,0,\r\n"
unfolding row_text columns_text signed decimal digits_by
credit-in-sheet = refl

total-in-sheet : row_text Sheet true (8 ∷ 0 ∷ 10 ∷ 0 ∷ (2 ^ 64 - 135593) ∷ 0 ∷ 0 ∷ 28 ∷ (2 ^ 64 - 135355) ∷ [])
    ≡ ascii "8,0,10,0,-135593,0,0,28,-135355\r\n"
unfolding row_text columns_text signed decimal digits_by
total-in-sheet = refl
