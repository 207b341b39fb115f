-- Assumes nothing.
use Rattle.compare.proofs.NextGroups.{alone-is}
use Rattle.compare.proofs.groups.alone_side.Goals as goal

pub reach-heading-requires : goal.reach-heading-requires
reach-heading-requires c = c.requires

pub end_of_part-end-requires : goal.end_of_part-end-requires
end_of_part-end-requires c = c.reach-heading.ensures.1

pub returns : goal.returns
returns c = alone-is _ c.args.p _ _ _ c.reach-heading.ensures.0 c.end_of_part-end.ensures.value.0 c.saturating_sub-left.ensures
