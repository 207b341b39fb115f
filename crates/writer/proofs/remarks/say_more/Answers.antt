-- Past the first twenty. Assumes nothing.
use borrow.Author.Tests.{le-leb, lt-leb}
use Rattle.printing.proofs.Texts.{◌⟫◌, says-none}
use Rattle.writer.proofs.remarks.say_more.Goals as goal

pub returns-then-told-le20 : goal.returns-then-told-le20
returns-then-told-le20 c = rw (le-leb _ _ c.if-told-le20.true) says-none

pub returns : goal.returns
returns c = rw (lt-leb _ _ c.if-told-le20.false) (c.say.ensures ⟫ c.say_number.ensures ⟫ c.say-2.ensures)
