-- Assumes nothing.
use Rattle.compare.proofs.Sides.{at-start}
use Rattle.compare.proofs.at_stage.Goals as goal

pub returns : goal.returns
returns c = at-start _ _ _ _ c.at_places.ensures c.start.ensures c.start-2.ensures
