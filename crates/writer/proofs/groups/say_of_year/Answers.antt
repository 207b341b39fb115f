-- Nothing where the days are those of the year. Assumes nothing.
use borrow.Author.Tests.{eq-eqb, ne_eqb}
use Rattle.printing.proofs.Texts.{◌⟫◌, says-none}
use Rattle.writer.proofs.groups.say_of_year.Goals as goal

pub returns-in-None : goal.returns-in-None
returns-in-None c = rw c.in-None.is says-none

pub returns-then-days-whole : goal.returns-then-days-whole
returns-then-days-whole c = rw (c.in-Some.is, eq-eqb _ _ c.if-days-whole.true) says-none

pub returns-else-days-whole : goal.returns-else-days-whole
returns-else-days-whole c = rw (c.in-Some.is, ne_eqb _ _ c.if-days-whole.false) (c.say.ensures ⟫ c.say_number.ensures)
