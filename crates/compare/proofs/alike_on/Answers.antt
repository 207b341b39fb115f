-- Assumes nothing.
use mathlib.Core.Path.{refl}
use Rattle.compare.proofs.alike_on.Goals as goal

pub returns : goal.returns
returns c = rw c.same.ensures refl
