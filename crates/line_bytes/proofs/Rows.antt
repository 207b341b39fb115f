-- What holds of the two rows of lines: their sizes, and values in their ranges written and read again.
-- Assumes nothing.
use mathlib.Core.Path.{◌≡◌, refl, ◌∙◌}
use mathlib.Core.List.{List, [], ◌∷◌}
use Prim.Native.Nat.{ℕ, ◌+◌}
use native.Mathlib.Omega.{arith}
use lib.Dec.{T}
use lib.ListN.{length, length-append}
use Rattle.codec.specs.Table.{size}
use Rattle.codec.specs.Codec.{bytes_hold, values_at, first_bad}
use Rattle.codec.proofs.Rows.{right-field, right-row, fit_row}
use Rattle.codec.proofs.Round.{back}
use Rattle.codec.proofs.Values.{bytes-length}
use Rattle.line_bytes.specs.Lines.{figure_count, line_fields, total_fields, line_size, total_size, line_values, line_bytes_lem, total_values, total_bytes}

-- the table's test, of the rows of lines
right-rows : T (right-row line_fields) × T (right-row total_fields)
unfolding right-field right-row line_fields total_fields bytes_hold
right-rows = (tt, tt)

-- they take as many bytes as a line has
pub sizes : (size line_fields ≡ line_size) × (size total_fields ≡ total_size)
unfolding line_fields total_fields size
sizes = (refl, refl)

-- and have as many values
counts : (4 + figure_count ≡ length line_fields) × (5 + figure_count ≡ length total_fields)
unfolding line_fields total_fields
counts = (refl, refl)

-- a line: how many bytes it has; its values, in the ranges of its row, written and read again
module _ (kind group : ℕ) (figures : List ℕ) where
  pub line-length : length (line_bytes_lem kind group figures) ≡ line_size
  unfolding line_bytes_lem
  line-length = bytes-length line_fields (line_values kind group figures) 0 ∙ sizes.0

  pub line-back : length figures ≡ figure_count → first_bad line_fields (line_values kind group figures) 0 ≡ 0
      → values_at line_fields (line_bytes_lem kind group figures) 0 ≡ line_values kind group figures
  unfolding line_bytes_lem
  line-back n p =
      let vs : List ℕ = line_values kind group figures in
      back line_fields vs (fit_row line_fields right-rows.0 vs 0 p) (omega (arith, counts.0))

-- and the close's
module _ (sums : List ℕ) (co2e : ℕ) where
  pub total-length : length (total_bytes sums co2e) ≡ total_size
  unfolding total_bytes
  total-length = bytes-length total_fields (total_values sums co2e) 0 ∙ sizes.1

  pub total-back : length sums ≡ figure_count → first_bad total_fields (total_values sums co2e) 0 ≡ 0
      → values_at total_fields (total_bytes sums co2e) 0 ≡ total_values sums co2e
  unfolding total_bytes
  total-back n p =
      let vs : List ℕ = total_values sums co2e in
      back total_fields vs (fit_row total_fields right-rows.1 vs 0 p) (omega (arith, counts.1, length-append sums (co2e ∷ [])))
