-- Assumes nothing.
use Rattle.compare.proofs.NextGroups.{both-opened}
use Rattle.compare.proofs.groups.open_both.Goals as goal

pub reach-s-requires : goal.reach-s-requires
reach-s-requires c = c.requires.0

pub reach-t-requires : goal.reach-t-requires
reach-t-requires c = c.requires.1

pub open-requires : goal.open-requires
open-requires c = (c.reach-s.ensures.1, c.reach-t.ensures.1)

pub returns : goal.returns
returns c = record {
  value = both-opened _ _ c.args.p c.args.q _ _ _ c.«open».ensures.value c.reach-s.ensures.0 c.reach-t.ensures.0;
  opens = c.«open».ensures.opens;
}
