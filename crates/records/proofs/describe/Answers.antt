-- Part by part. Assumes nothing.
use mathlib.Core.Path.{refl}
use native.Mathlib.Omega.{arith}
use Rattle.records.proofs.describe.Goals as goal

pub returns : goal.returns
returns c = let c3 = c in record { number = refl; first = refl; last = omega arith; row = c3.row_of-row.ensures; group = refl }
