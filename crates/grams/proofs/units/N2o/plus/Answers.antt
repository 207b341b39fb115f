-- `grams::units::N2o::plus` meets its contract. Assumes nothing.
use Rattle.std.proofs.Common.{refl}
use Rattle.grams.proofs.units.N2o.plus.Goals as goal

pub returns : goal.returns
returns c = refl
