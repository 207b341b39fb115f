-- Assumes nothing.
use mathlib.Core.Path.{refl}
use Rattle.compare.proofs.side_in.Goals as goal

pub returns : goal.returns
returns c = rw (c.stands.ensures, c.stands-2.ensures) refl
