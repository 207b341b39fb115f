-- Two runs of bytes that are the same, and the values of a record.
-- Assumes nothing.
use Rattle.std.specs.Prelude.{ℕ, ◌+◌, ◌≤◌, List, [], ◌∷◌, Bool, true, false, ◌&&◌, length, eqb}
use Rattle.codec.specs.Table.{fields, size, last_row}
use Rattle.codec.specs.Codec.{in_twelve}
use Rattle.account.specs.Judge.{record_row, values_of}

-- the same bytes
unfoldable pub same : List ℕ → List ℕ → Bool
same [] [] = true
same [] (y ∷ ys) = false
same (x ∷ xs) [] = false
same (x ∷ xs) (y ∷ ys) = eqb x y && same xs ys

-- the values of a record in twelve places, zeros after them
abbrev pub values_in : List ℕ → List ℕ
values_in r = in_twelve (values_of r)

-- r is a record whose row is one of the table, and has all its fields
pub record Readable (r : List ℕ) : Type 0 where
  pub most : record_row r ≤ last_row
  pub long : 4 + size (fields (record_row r)) ≤ length r
