-- Assumes nothing.
use native.Mathlib.Omega.{arith}
use Rattle.compare.proofs.sections.say_moved_in.Goals as goal

pub say_moved-requires : goal.say_moved-requires
say_moved-requires c = (omega (arith, c.requires.moved, c.well_formed), omega (arith, c.requires.moved', c.well_formed))

pub returns : goal.returns
returns c = c.say_moved.ensures
