use borrow.Author.Tests.{ne_eqb}
use Rattle.printing.proofs.Texts.{◌⟫◌}
use Rattle.sheet.proofs.remarks.say_row.Goals as goal

pub returns : goal.returns
returns c = rw (ne_eqb _ 0 c.if-row-eq0.false) (c.say.ensures ⟫ c.say_number.ensures)
