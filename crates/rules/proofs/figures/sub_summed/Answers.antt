-- Assumes nothing.
use mathlib.Core.Path.{refl}
use Rattle.rules.proofs.figures.sub_summed.Goals as goal

pub returns : goal.returns
returns c = rw c.plus-n2o.ensures refl
