-- Assumes nothing.
use Rattle.compare.proofs.Sides.{side-is, side-valid}
use Rattle.compare.proofs.sections.side.Goals as goal

pub reach-place-requires : goal.reach-place-requires
reach-place-requires c = c.requires.0

pub returns : goal.returns
returns c = let a = c.args in (
  side-is _ a.p a.front a.told a.end a.grouped _ c.reach-place.ensures.0,
  side-valid _ a.p a.front a.told a.end a.grouped _ c.reach-place.ensures.0 c.reach-place.ensures.1 c.requires.1,
)
