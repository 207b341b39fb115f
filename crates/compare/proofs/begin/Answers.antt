-- Assumes nothing.
use Rattle.compare.proofs.begin.Goals as goal

pub returns : goal.returns
returns c = c.at_stage.ensures
