-- The two ends, 1 and 366. Assumes nothing.
use mathlib.Core.Path.{refl}
use Rattle.slip.proofs.days_in_range.Goals as goal

pub returns : goal.returns
returns c = refl
