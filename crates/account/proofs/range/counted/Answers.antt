-- Assumes nothing.
use mathlib.Core.Path.{refl}
use Rattle.account.proofs.range.counted.Goals as goal

pub returns : goal.returns
returns c = refl
