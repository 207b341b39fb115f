-- `grams::cattle::storage` meets its contract. Assumes nothing.
use Rattle.std.proofs.Common.{ap, arith}
use Rattle.grams.specs.declared.units.N2o.{N2o}
use Rattle.grams.proofs.cattle.storage.Goals as goal

pub returns : goal.returns
returns c = record { exact = cc; small = omega (arith, ap (λ (r : N2o). r.0) c.plus.ensures) }
