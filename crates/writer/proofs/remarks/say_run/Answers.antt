-- Twenty are told. Assumes nothing.
use borrow.Author.Tests.{le-leb, lt-leb}
use Rattle.printing.proofs.Texts.{◌⟫◌, says-none}
use Rattle.writer.specs.Remarks.{run_text}
use Rattle.writer.proofs.remarks.say_run.Goals as goal

pub returns-in-None : goal.returns-in-None
unfolding run_text
returns-in-None c = rw c.in-None.is says-none

pub returns-then-c-ge20 : goal.returns-then-c-ge20
unfolding run_text
returns-then-c-ge20 c = rw (c.in-Some.is, le-leb _ _ c.if-c-ge20.true) says-none

pub returns-else-c-ge20 : goal.returns-else-c-ge20
unfolding run_text
returns-else-c-ge20 c =
    rw (c.in-Some.is, lt-leb _ _ c.if-c-ge20.false)
    (c.say_run_head.ensures ⟫ c.say.ensures ⟫ rw c.unwrap_or-lost.ensures at c.say_lost.ensures ⟫ c.say-in-Some.ensures)
