-- Laws of the table, one word, field and row after the other.
-- Assumes nothing.
use Prim.Native.Nat.{ℕ, suc, ◌+◌, ◌-◌, ◌<◌, ◌≤◌}
use native.Mathlib.Numerals.{add-one}
use native.Mathlib.Omega.{arith}
use mathlib.Core.Path.{◌≡◌, refl}
use mathlib.Core.List.{[], ◌++◌}
use lib.ListN.{length}
use Rattle.codec.specs.Table.{last_row, fields}
use Rattle.printing.specs.Ascii.{ascii}
use Rattle.names.specs.Names.{choice_word}
use Rattle.kinds.specs.Kinds.{choices_from, field_text, fields_from, rows_from}

module _ (n v row i : ℕ) where
  pub one_word : v < n
      → choices_from (n - v) (v + 1) row i ≡ (ascii "|" ++ choice_word row i (v + 1)) ++ choices_from (n - (v + 1)) (v + 1 + 1) row i
  unfolding choices_from
  one_word h = let left : n - v ≡ suc (n - (v + 1)) = omega arith in rw (left, add-one (v + 1)) refl

  pub no_word : n ≤ v → choices_from (n - v) (v + 1) row i ≡ []
  unfolding choices_from
  no_word h = let left : n - v ≡ 0 = omega arith in rw left refl

module _ (n i row : ℕ) where
  pub one_field : i < n → fields_from (n - i) i row ≡ field_text row i ++ fields_from (n - (i + 1)) (i + 1) row
  unfolding fields_from
  one_field h = let left : n - i ≡ suc (n - (i + 1)) = omega arith in rw (left, add-one i) refl

  pub no_field : n ≤ i → fields_from (n - i) i row ≡ []
  unfolding fields_from
  no_field h = let left : n - i ≡ 0 = omega arith in rw left refl

pub one-row : (row : ℕ) → row ≤ last_row
    → rows_from (suc last_row - row) row ≡ fields_from (length (fields row)) 0 row ++ rows_from (suc last_row - (row + 1)) (row + 1)
unfolding rows_from
one-row row h = let left : suc last_row - row ≡ suc (suc last_row - (row + 1)) = omega arith in rw (left, add-one row) refl

pub no_row : (row : ℕ) → last_row < row → rows_from (suc last_row - row) row ≡ []
unfolding rows_from
no_row row h = let left : suc last_row - row ≡ 0 = omega arith in rw left refl
