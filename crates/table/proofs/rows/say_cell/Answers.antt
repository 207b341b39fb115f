-- An empty cell, or the number. Assumes nothing.
use Rattle.printing.proofs.Texts.{◌⟫◌}
use Rattle.table.proofs.rows.say_cell.Goals as goal

pub returns : goal.returns
returns c = rw c.if-not-shown.false (c.say.ensures ⟫ c.say_column.ensures)
