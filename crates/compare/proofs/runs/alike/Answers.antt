-- Assumes nothing.
use Rattle.compare.proofs.runs.alike.Goals as goal

pub first_of-requires : goal.first_of-requires
first_of-requires c = c.requires.0

pub first_of-requires-2 : goal.first_of-requires-2
first_of-requires-2 c = c.requires.1

pub returns : goal.returns
returns c = rw (c.first_of.ensures, c.first_of-2.ensures) at c.same.ensures
