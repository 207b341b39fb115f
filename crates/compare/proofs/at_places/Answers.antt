-- Assumes nothing.
use mathlib.Core.Path.{refl}
use Rattle.compare.proofs.at_places.Goals as goal

pub returns : goal.returns
returns c = rw (c.idle-old.ensures, c.idle-new.ensures) refl
