-- `codec::numbers::put8` meets its contract.
-- Assumes nothing.
use mathlib.Core.Path.{◌∙◌}
use native.Mathlib.Omega.{arith}
use Rattle.codec.proofs.Stores.{part_stored}
use Rattle.codec.proofs.numbers.put8.Goals as goal

pub returns : goal.returns
returns c = part_stored 8 c.args.v c.args.at _ _ _ (c.copy_from_slice.ensures.after ∙ c.bytes8.ensures) (omega arith) c.requires
