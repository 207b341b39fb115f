-- One or more. Assumes nothing.
use borrow.Author.Tests.{eq-eqb, ne_eqb}
use Rattle.printing.proofs.Texts.{◌⟫◌}
use Rattle.writer.proofs.lines.say_many.Goals as goal

pub returns-then-n-eq1 : goal.returns-then-n-eq1
returns-then-n-eq1 c = rw (eq-eqb _ _ c.if-n-eq1.true) (c.say_number.ensures ⟫ c.say.ensures)

pub returns : goal.returns
returns c = rw (ne_eqb _ _ c.if-n-eq1.false) (c.say_number.ensures ⟫ c.say-2.ensures)
