use Rattle.slip.specs.Slip.{ration_in_range}
use Rattle.slip.proofs.ration_in_range.Goals as goal

pub returns : goal.returns
unfolding ration_in_range
returns c = cc
