-- Exact halves go to the even number, computed from the definitions.
-- Assumes nothing.
use lib.Dec.{T}
use Rattle.grams.specs.Cases.{every}
use Rattle.account.proofs.EachFigure.{computed}
use Rattle.promises.specs.Halves.{halves}

-- W8: each row of the table comes to its even number.
pub halves-to-even : T (every halves)
unfolding computed
halves-to-even = tt
