-- Assumes nothing.
use mathlib.Core.Path.{refl}
use Rattle.compare.proofs.places.start.Goals as goal

pub returns : goal.returns
returns c = rw c.new-a.ensures refl
