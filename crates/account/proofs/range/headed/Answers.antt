-- Assumes nothing.
use mathlib.Core.Path.{refl}
use Rattle.account.proofs.range.headed.Goals as goal

pub returns : goal.returns
returns c = rw c.used_in.ensures refl
