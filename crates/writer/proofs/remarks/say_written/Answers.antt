-- Where it is written. Assumes nothing.
use borrow.Author.Tests.{eq-eqb, ne_eqb}
use Rattle.printing.proofs.Texts.{◌⟫◌, says-none}
use Rattle.writer.proofs.remarks.say_written.Goals as goal

pub returns-then-kind-eq0 : goal.returns-then-kind-eq0
returns-then-kind-eq0 c = rw (eq-eqb _ _ c.if-kind-eq0.true) says-none

pub returns : goal.returns
returns c = rw (ne_eqb _ _ c.if-kind-eq0.false) (c.say_ended.ensures ⟫ c.say_unusual.ensures)
