-- Assumes nothing.
use mathlib.Core.Path.{refl}
use Rattle.account.proofs.range.unheaded.Goals as goal

pub returns : goal.returns
returns c = rw c.unused.ensures refl
