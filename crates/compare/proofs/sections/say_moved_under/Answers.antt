-- Assumes nothing.
use Rattle.compare.proofs.sections.say_moved_under.Goals as goal

pub returns-then-under : goal.returns-then-under
returns-then-under c = rw c.if-under.true c.say.ensures

pub returns : goal.returns
returns c = rw c.if-under.false c.say-2.ensures
