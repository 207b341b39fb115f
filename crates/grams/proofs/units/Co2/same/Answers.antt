-- `grams::units::Co2::same` meets its contract. Assumes nothing.
use Rattle.std.proofs.Common.{refl}
use Rattle.grams.proofs.units.Co2.same.Goals as goal

pub returns : goal.returns
returns c = refl
