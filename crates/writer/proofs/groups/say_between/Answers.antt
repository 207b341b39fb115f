-- By the test. Assumes nothing.
use Rattle.writer.proofs.groups.say_between.Goals as goal

pub returns-then-first : goal.returns-then-first
returns-then-first c = rw c.if-first.true c.say.ensures

pub returns : goal.returns
returns c = rw c.if-first.false c.say-2.ensures
