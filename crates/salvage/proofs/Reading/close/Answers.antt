-- The record of kind 8 with the count. Assumes nothing.
use mathlib.Core.Path.{refl}
use native.Mathlib.Omega.{arith}
use Rattle.codec.specs.Table.{table, size}
use Rattle.salvage.proofs.Reading.close.Goals as goal

pub write-requires : goal.write-requires
unfolding table size
write-requires c = (omega arith, record { least = omega arith; most = omega arith; count = refl })
