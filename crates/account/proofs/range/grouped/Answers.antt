-- Assumes nothing.
use mathlib.Core.Path.{refl}
use Rattle.account.proofs.range.grouped.Goals as goal

pub returns : goal.returns
returns c = rw c.grams.ensures refl
