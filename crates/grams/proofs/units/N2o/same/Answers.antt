-- `grams::units::N2o::same` meets its contract. Assumes nothing.
use Rattle.std.proofs.Common.{refl}
use Rattle.grams.proofs.units.N2o.same.Goals as goal

pub returns : goal.returns
returns c = refl
