-- Past the last row there are none; else a row ends where the next begins. Assumes nothing.
use mathlib.Core.Path.{◌≡◌, sym, ap}
use Prim.Native.Nat.{◌+◌}
use native.Mathlib.Omega.{arith}
use lib.ListN.{length, get_or}
use Rattle.codec.specs.Table.{table, fields}
use Rattle.by_row.proofs.Columns.{begins, row_ends}
use Rattle.codec.proofs.EachKind.{no_fields}
use Rattle.by_row.proofs.table.values_of.Goals as goal

pub overflow_sub-result : goal.overflow_sub-result
unfolding begins table
overflow_sub-result c =
    let ends : get_or (begins 0 table) (c.args.row + 1) 0 ≡ get_or (begins 0 table) c.args.row 0 + length (fields c.args.row) =
    row_ends table c.args.row (omega (arith, c.if-row-gt-LAST_ROW.false)) in
    omega (arith, ends)

pub returns : goal.returns
unfolding begins table
returns c =
    let ends : get_or (begins 0 table) (c.args.row + 1) 0 ≡ get_or (begins 0 table) c.args.row 0 + length (fields c.args.row) =
    row_ends table c.args.row (omega (arith, c.if-row-gt-LAST_ROW.false)) in
    omega (arith, ends)

pub returns-then-row-gt-LAST_ROW : goal.returns-then-row-gt-LAST_ROW
returns-then-row-gt-LAST_ROW c = sym (ap length (no_fields _ c.if-row-gt-LAST_ROW.true))
