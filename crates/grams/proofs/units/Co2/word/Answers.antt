-- `grams::units::Co2::word` meets its contract. Assumes nothing.
use Rattle.std.proofs.Common.{refl}
use Rattle.grams.proofs.units.Co2.word.Goals as goal

pub returns : goal.returns
returns c = refl
