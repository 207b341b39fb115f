-- The worked values of a change of tillage: every row of the table gives what is printed. Assumes nothing.
use Rattle.std.proofs.Common.{T}
use Rattle.grams.specs.Round.{round_div}
use Rattle.grams.specs.TillageTable.{less_tillage, less_of, pair_of}
use Rattle.grams.specs.CarbonRate.{steps, exp_of, rate_of, mg_of}
use Rattle.grams.specs.Tillage.{co2_of, tillage_of}
use Rattle.grams.specs.Cases.{every}
use Rattle.grams.specs.Tillage.Cases.{tillage_cases}

pub worked : T (every tillage_cases)
unfolding round_div less_tillage less_of pair_of steps exp_of rate_of mg_of co2_of tillage_of
worked = tt
