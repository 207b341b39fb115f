-- `codec::numbers::put1` meets its contract.
-- Assumes nothing.
use mathlib.Core.Path.{refl}
use Rattle.codec.specs.Codec.{be}
use Rattle.codec.proofs.numbers.put1.Goals as goal

pub returns : goal.returns
unfolding be
returns c = refl
