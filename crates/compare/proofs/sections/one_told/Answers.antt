-- Assumes nothing.
use Rattle.compare.proofs.Pieces.{one-told-is}
use Rattle.compare.proofs.sections.one_told.Goals as goal

pub reach-place-requires : goal.reach-place-requires
reach-place-requires c = c.requires.place

pub returns : goal.returns
returns c = one-told-is _ c.args.s _ _ c.reach-place.ensures.0 c.saturating_sub.ensures
