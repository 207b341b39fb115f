-- Assumes nothing.
use mathlib.Core.Path.{refl}
use Rattle.compare.proofs.places.stands.Goals as goal

pub returns : goal.returns
returns c = rw c.in_range.ensures refl
