-- The three tests in their order. Assumes nothing.
use Rattle.rules.proofs.outside.weigh.Goals as goal

pub returns : goal.returns
returns c = rw (c.stopped.ensures, c.barred-code.ensures, c.placed.ensures)
