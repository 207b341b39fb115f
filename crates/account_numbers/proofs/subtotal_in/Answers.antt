-- Four numbers. Assumes nothing.
use mathlib.Core.Path.{refl}
use Rattle.account_numbers.proofs.subtotal_in.Goals as goal

pub returns : goal.returns
returns c = rw c.of-n2o.ensures refl
