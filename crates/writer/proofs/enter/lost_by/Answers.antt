-- By the test. Assumes nothing.
use mathlib.Core.Path.{refl}
use Rattle.writer.proofs.enter.lost_by.Goals as goal

pub returns-then-may : goal.returns-then-may
returns-then-may c = rw (c.if-may.true, c.lost_in.ensures) refl

pub returns : goal.returns
returns c = rw c.if-may.false refl
