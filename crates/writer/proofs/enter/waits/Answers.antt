-- Field by field. Assumes nothing.
use mathlib.Core.Path.{refl}
use Rattle.writer.proofs.enter.waits.Goals as goal

pub returns : goal.returns
returns c = rw c.line_named-w.ensures refl
