-- `values::enteric::read` meets its contract.
-- Assumes nothing.
use Rattle.codec.specs.Table.{table}
use Rattle.codec.proofs.Values.{values-read}
use native.Mathlib.Omega.{arith}
use Rattle.values.proofs.enteric.read.Goals as goal

pub returns : goal.returns
unfolding table
returns c = values-read _ _ _ _ _ _ (omega arith) (omega arith)
