use mathlib.Core.Path.{refl}
use lib.Ieee.{of_bits, round}
use Rattle.slip.specs.Slip.{kg_ch4}
use Rattle.slip.proofs.kg_ch4.Goals as goal

pub returns : goal.returns
unfolding of_bits round kg_ch4
returns c = refl
