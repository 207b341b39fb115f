-- Laws of the screen, one field and one row after the other.
-- Assumes nothing.
use Prim.Native.Nat.{ℕ, suc, ◌+◌, ◌-◌, ◌<◌, ◌≤◌}
use native.Mathlib.Numerals.{add-one}
use native.Mathlib.Omega.{arith}
use mathlib.Core.Path.{◌≡◌, refl}
use mathlib.Core.List.{[], ◌++◌}
use Rattle.codec.specs.Table.{last_row}
use Rattle.printing.specs.Ascii.{ascii}
use Rattle.kinds_screen.specs.Screen.{field_text, fields_from, row_text, rows_from}

module _ (n i row : ℕ) where
  pub one_field : i < n → fields_from (n - i) i row ≡ (ascii ";" ++ field_text row i) ++ fields_from (n - (i + 1)) (i + 1) row
  unfolding fields_from
  one_field h = let left : n - i ≡ suc (n - (i + 1)) = omega arith in rw (left, add-one i) refl

  pub no_field : n ≤ i → fields_from (n - i) i row ≡ []
  unfolding fields_from
  no_field h = let left : n - i ≡ 0 = omega arith in rw left refl

pub one-row : (row : ℕ) → row ≤ last_row → rows_from (suc last_row - row) row ≡ row_text row ++ rows_from (suc last_row - (row + 1)) (row + 1)
unfolding rows_from
one-row row h = let left : suc last_row - row ≡ suc (suc last_row - (row + 1)) = omega arith in rw (left, add-one row) refl

pub no_row : (row : ℕ) → last_row < row → rows_from (suc last_row - row) row ≡ []
unfolding rows_from
no_row row h = let left : suc last_row - row ≡ 0 = omega arith in rw left refl
