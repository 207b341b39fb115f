-- Assumes nothing.
use mathlib.Core.Path.{refl}
use Rattle.compare.proofs.plans.others_of.Goals as goal

pub returns-then-paired : goal.returns-then-paired
returns-then-paired c = rw c.if-paired.true refl

pub returns : goal.returns
returns c = rw c.if-paired.false refl
