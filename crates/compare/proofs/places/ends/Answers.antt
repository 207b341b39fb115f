-- Assumes nothing.
use mathlib.Core.Path.{refl}
use Rattle.compare.proofs.places.ends.Goals as goal

pub returns : goal.returns
returns c = rw c.kind_of-kind.ensures refl
