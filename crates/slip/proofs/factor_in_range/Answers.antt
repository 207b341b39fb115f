use lib.Ieee.{of_bits, round}
use Rattle.slip.proofs.factor_in_range.Goals as goal

pub returns : goal.returns
unfolding of_bits round
returns c = c.in_range.ensures
