-- By the test. Assumes nothing.
use Rattle.printing.proofs.Texts.{says-none}
use Rattle.writer.proofs.remarks.say_no_close.Goals as goal

pub returns-then-h : goal.returns-then-h
returns-then-h c = rw c.if-h.true c.say.ensures

pub returns : goal.returns
returns c = rw c.if-h.false says-none
