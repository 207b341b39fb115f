-- Past its fields a row has none; else the code's table has the field where its row begins, i further on. Assumes nothing.
use mathlib.Core.Path.{sym}
use Prim.Native.Nat.{◌<◌}
use native.Mathlib.Omega.{arith}
use lib.ListN.{length, get_or-eq_default}
use Rattle.codec.specs.Table.{table, fields, field}
use Rattle.by_row.proofs.Columns.{begins, all_fields, ends-within, field-listed}
use Rattle.by_row.proofs.table.field_at.Goals as goal

-- the field is one of the table's
pub overflow_add-f : goal.overflow_add-f
unfolding begins all_fields table
overflow_add-f c =
    let there : c.args.i < length (fields c.args.row) = omega (arith, c.if-values_of-i.false, c.values_of.ensures) in
    omega (arith, there, ends-within table 0 c.args.row (omega (arith, c.requires)))

pub offset_bounds-row-2 : goal.offset_bounds-row-2
unfolding begins all_fields table
offset_bounds-row-2 c =
    let there : c.args.i < length (fields c.args.row) = omega (arith, c.if-values_of-i.false, c.values_of.ensures) in
    omega (arith, there, ends-within table 0 c.args.row (omega (arith, c.requires)))

pub bounds-row-row : goal.bounds-row-row
unfolding begins all_fields table
bounds-row-row c =
    let there : c.args.i < length (fields c.args.row) = omega (arith, c.if-values_of-i.false, c.values_of.ensures) in
    omega (arith, there, ends-within table 0 c.args.row (omega (arith, c.requires)))

pub returns : goal.returns
unfolding begins all_fields table
returns c =
    let there : c.args.i < length (fields c.args.row) = omega (arith, c.if-values_of-i.false, c.values_of.ensures) in
    field-listed table c.args.row c.args.i (omega (arith, c.requires)) there

pub returns-then-values_of-i : goal.returns-then-values_of-i
returns-then-values_of-i c =
    sym (get_or-eq_default (fields c.args.row) (field 0 0 0) (omega (arith, c.if-values_of-i.true, c.values_of.ensures)))

pub offset_bounds-row : goal.offset_bounds-row
offset_bounds-row c = omega (arith, c.requires)

pub bounds-row : goal.bounds-row
bounds-row c = omega (arith, c.requires)
