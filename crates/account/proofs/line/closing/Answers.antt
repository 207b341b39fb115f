-- By their size. Assumes nothing.
use mathlib.Core.Path.{refl}
use Rattle.account.proofs.line.closing.Goals as goal

pub returns : goal.returns
returns c = rw c.closing_size-given.ensures refl
