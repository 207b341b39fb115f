use mathlib.Core.Path.{sym, ◌∙◌}
use Rattle.sheet.proofs.Items.{row-wrong, row_field, row-right}
use Rattle.sheet.proofs.line_row.Goals as goal

pub returns-then-is_line_kind : goal.returns-then-is_line_kind
returns-then-is_line_kind c = row-right c.args.text.now c.args.at _ c.in-Ok.ensures (sym c.is_line_kind.ensures ∙ c.if-is_line_kind.true)

pub returns-else-is_line_kind : goal.returns-else-is_line_kind
returns-else-is_line_kind c = row_field c.args.text.now c.args.at _ c.in-Ok.ensures (sym c.is_line_kind.ensures ∙ c.if-is_line_kind.false)

pub returns-in-Err : goal.returns-in-Err
returns-in-Err c = rw c.refusal_of.ensures (row-wrong c.args.text.now c.args.at _ c.in-Err.ensures.fault)
