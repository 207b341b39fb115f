-- P1 to P9: every row of the table gives what is printed. Assumes nothing.
use Rattle.std.proofs.Common.{T}
use Rattle.grams.specs.Round.{round_div}
use Rattle.grams.specs.Cattle as cattle
use Rattle.grams.specs.Pig as pig
use Rattle.grams.specs.Farm.{soil_of}
use Rattle.grams.specs.Cases.{cases, every}

pub paper : T (every cases)
unfolding round_div cattle.enteric_of cattle.below_zero cattle.manure_of pig.manure_of soil_of
paper = tt
