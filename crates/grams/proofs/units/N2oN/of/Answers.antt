-- `grams::units::N2oN::of` meets its contract. Assumes nothing.
use Rattle.std.proofs.Common.{refl}
use Rattle.grams.proofs.units.N2oN.of.Goals as goal

pub returns : goal.returns
returns c = refl
