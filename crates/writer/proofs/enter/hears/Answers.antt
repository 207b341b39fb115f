-- Field by field. Assumes nothing.
use mathlib.Core.Path.{refl}
use Rattle.writer.proofs.enter.hears.Goals as goal

pub returns : goal.returns
returns c = refl
