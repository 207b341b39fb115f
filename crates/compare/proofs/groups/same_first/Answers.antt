-- Assumes nothing.
use Rattle.compare.proofs.NextGroups.{first-is}
use Rattle.compare.proofs.groups.same_first.Goals as goal

pub rest_of-xs-requires : goal.rest_of-xs-requires
rest_of-xs-requires c = c.requires.0.inside

pub rest_of-ys-requires : goal.rest_of-ys-requires
rest_of-ys-requires c = c.requires.1.inside

pub step-t-requires : goal.step-t-requires
step-t-requires c = c.requires.0.range

pub step-u-requires : goal.step-u-requires
step-u-requires c = c.requires.1.range

pub first_of-requires : goal.first_of-requires
first_of-requires c = c.step-t.ensures.inside

pub first_of-requires-2 : goal.first_of-requires-2
first_of-requires-2 c = c.step-u.ensures.inside

pub returns : goal.returns
returns c = rw (
  c.first_of.ensures,
  c.first_of-2.ensures,
  c.rest_of-xs.ensures,
  c.rest_of-ys.ensures,
  first-is _ _ _ (rw c.rest_of-xs.ensures at c.step-t.ensures),
  first-is _ _ _ (rw c.rest_of-ys.ensures at c.step-u.ensures),
) at c.same.ensures
