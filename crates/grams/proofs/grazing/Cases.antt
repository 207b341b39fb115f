-- The worked values of grazing: every row of the table gives what is printed. Assumes nothing.
use Rattle.std.proofs.Common.{T}
use Rattle.grams.specs.Round.{round_div}
use Rattle.grams.specs.Grazing.{pasture_table, pasture_factor, grazing_of}
use Rattle.grams.specs.Cases.{every}
use Rattle.grams.specs.Grazing.Cases.{grazing_cases}

pub pasture-worked : T (every grazing_cases)
unfolding round_div pasture_table pasture_factor grazing_of
pasture-worked = tt
