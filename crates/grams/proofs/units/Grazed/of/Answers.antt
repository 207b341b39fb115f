-- `grams::units::Grazed::of` meets its contract. Assumes nothing.
use Rattle.std.proofs.Common.{refl}
use Rattle.grams.proofs.units.Grazed.of.Goals as goal

pub returns : goal.returns
returns c = refl
