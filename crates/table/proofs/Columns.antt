-- One cell after the other.
-- Assumes nothing.
use Rattle.std.proofs.Common.{◌≡◌, ℕ, ◌+◌, ◌<◌, ◌≤◌, Bool, List, [], ◌++◌, length, get_or, drop, refl, add-one, arith, drop_of_length-le, drop-cons}
use Rattle.line_rows.specs.declared.Form.TheVariants.{Sheet}
use Rattle.line_rows.specs.Rows.{is_signed, row_most, header}
use Rattle.table.specs.declared.sums.Sum.{Sum}
use Rattle.table.specs.Sums.{fits}
use Rattle.table.specs.Rows.{cell_text, cells_text, sums_text}

module _ (shown : Bool) (vs : List ℕ) (k : ℕ) where
  pub one_cell : k < length vs → cells_text shown k (drop k vs) ≡ cell_text shown k (get_or vs k 0) ++ cells_text shown (k + 1) (drop (k + 1) vs)
  unfolding cells_text
  one_cell h = rw (add-one k, drop-cons vs k 0 h) refl

  pub no_cell : length vs ≤ k → cells_text shown k (drop k vs) ≡ []
  unfolding cells_text
  no_cell h = rw (drop_of_length-le vs h) refl

module _ (ss : List Sum) (k : ℕ) where
  pub one-sum-cell : (d : Sum) → k < length ss
      → sums_text k (drop k ss) ≡ cell_text (fits (is_signed k) (get_or ss k d)) k (get_or ss k d).low ++ sums_text (k + 1) (drop (k + 1) ss)
  unfolding sums_text
  one-sum-cell d h = rw (add-one k, drop-cons ss k d h) refl

  pub no-sum-cell : length ss ≤ k → sums_text k (drop k ss) ≡ []
  unfolding sums_text
  no-sum-cell h = rw (drop_of_length-le ss h) refl

-- a sheet's header has `kind,group`, and fits a row's bytes
pub header-least : 10 ≤ length (header Sheet)
unfolding header
header-least = omega arith

pub header-most : length (header Sheet) ≤ row_most
unfolding header
header-most = omega arith
