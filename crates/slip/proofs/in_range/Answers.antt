-- Both ends belong to the range, and a NaN does not. Assumes nothing.
use mathlib.Core.Path.{refl}
use Rattle.slip.proofs.in_range.Goals as goal

pub returns : goal.returns
returns c = refl
