use mathlib.Core.Path.{refl}
use Rattle.names.proofs.usual.goes_by.Goals as goal

pub returns : goal.returns
returns c = rw c.find.ensures.value refl
