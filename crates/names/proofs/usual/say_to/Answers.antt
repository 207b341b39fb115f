use borrow.Author.Tests.{eq-eqb, ne_eqb}
use Rattle.printing.proofs.Texts.{◌⟫◌, says-none}
use Rattle.names.proofs.usual.say_to.Goals as goal

pub returns-then-u : goal.returns-then-u
returns-then-u c = rw (eq-eqb _ _ c.if-u.true) says-none

pub returns : goal.returns
returns c = rw (ne_eqb _ _ c.if-u.false) (c.say.ensures ⟫ c.say_value.ensures)
