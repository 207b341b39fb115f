-- By the answer. Assumes nothing.
use Rattle.whatif.proofs.telling.with_slip.Goals as goal

pub returns-then-answered : goal.returns-then-answered
returns-then-answered c = rw (c.if-answered.true, c.one_more.ensures)

pub returns : goal.returns
returns c = rw (c.if-answered.false, c.one_more-2.ensures)
