-- Field by field. Assumes nothing.
use mathlib.Core.Path.{refl}
use Rattle.writer.proofs.enter.unheaded.Goals as goal

pub returns : goal.returns
returns c = rw (c.first_failed-t.ensures, c.run_with-w.ensures, c.one_without-counted.ensures) refl
