-- By the test. Assumes nothing.
use Rattle.writer.proofs.remarks.say_outcome.Goals as goal

pub returns-then-closed : goal.returns-then-closed
returns-then-closed c = rw c.if-closed.true c.say.ensures

pub returns : goal.returns
returns c = rw c.if-closed.false c.say-2.ensures
