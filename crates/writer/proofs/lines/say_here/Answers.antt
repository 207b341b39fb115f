-- One or more. Assumes nothing.
use borrow.Author.Tests.{eq-eqb, ne_eqb}
use Rattle.writer.proofs.lines.say_here.Goals as goal

pub returns-then-count-eq1 : goal.returns-then-count-eq1
returns-then-count-eq1 c = rw (eq-eqb _ _ c.if-count-eq1.true) c.say.ensures

pub returns : goal.returns
returns c = rw (ne_eqb _ _ c.if-count-eq1.false) c.say-2.ensures
