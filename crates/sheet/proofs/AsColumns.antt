-- A line and its row, column by column: how the proofs of both round trips go through them.
-- Assumes nothing.
use Prim.Native.Nat.{ℕ, ◌-◌}
use mathlib.Core.List.{List, [], ◌∷◌, ◌++◌}
use lib.ListN.{get_or, drop}
use lib.Dec.{eqb}
use Rattle.base.specs.Choice.{pick}
use Rattle.base.specs.Signed.{signed_of}
use Rattle.codec.specs.Codec.{val_at, be}
use Rattle.line_bytes.specs.Lines.{size_of_kind}
use Rattle.printing.specs.Decimal.{decimal, signed}
use Rattle.sheet.specs.declared.rows.Column.{Column}
use Rattle.sheet.specs.Rows.{columns, column_end}

-- the kind of the line that s begins with
abbrev pub kind_at : List ℕ → ℕ
kind_at s = get_or s 3 0

-- the bytes of the columns' values, one after the other
unfoldable pub bytes : List Column → List ℕ → List ℕ
bytes [] vs = []
bytes (c ∷ cs) vs = be c.width (get_or vs 0 0) ++ bytes cs (drop 1 vs)

-- and the values that stand so in s
unfoldable pub values : List Column → List ℕ → List ℕ
values [] s = []
values (c ∷ cs) s = val_at s 0 c.width ∷ values cs (drop c.width s)

-- length, version 1, then the columns' values
unfoldable pub line_of : ℕ → List ℕ → List ℕ
line_of kind vs = be 2 (size_of_kind kind - 2) ++ (1 ∷ bytes (columns kind) vs)

-- the number that a word of a line stands for
abbrev pub signed_text : ℕ → List ℕ
signed_text w = signed (signed_of w)

unfoldable pub cell_text : Column → ℕ → List ℕ
cell_text c v = pick (eqb c.width 0) [] (pick c.signed (signed_text v) (decimal v))

unfoldable pub row_text : List Column → List ℕ → List ℕ
row_text [] vs = []
row_text (c ∷ cs) vs = cell_text c (get_or vs 0 0) ++ (column_end c.last ++ row_text cs (drop 1 vs))
