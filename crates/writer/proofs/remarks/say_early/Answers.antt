-- Twenty are told. Assumes nothing.
use borrow.Author.Tests.{le-leb, lt-leb}
use Rattle.printing.proofs.Texts.{◌⟫◌, says-none}
use Rattle.writer.specs.Remarks.{early_text}
use Rattle.writer.proofs.remarks.say_early.Goals as goal

pub returns-in-None : goal.returns-in-None
unfolding early_text
returns-in-None c = rw c.in-None.is says-none

pub returns-then-c-ge20 : goal.returns-then-c-ge20
unfolding early_text
returns-then-c-ge20 c = rw (c.in-Some.is, le-leb _ _ c.if-c-ge20.true) says-none

pub returns-else-c-ge20 : goal.returns-else-c-ge20
unfolding early_text
returns-else-c-ge20 c =
    rw (c.in-Some.is, lt-leb _ _ c.if-c-ge20.false)
    (c.say_line.ensures ⟫ c.say.ensures ⟫ c.say_number.ensures ⟫ c.say-in-Some.ensures)
