-- `codec::numbers::put4` meets its contract.
-- Assumes nothing.
use mathlib.Core.Path.{◌∙◌}
use native.Mathlib.Omega.{arith}
use Rattle.codec.proofs.BigEndian.{word_of_4}
use Rattle.codec.proofs.Stores.{part_stored}
use Rattle.codec.proofs.numbers.put4.Goals as goal

pub returns : goal.returns
returns c =
    part_stored 4 c.args.v c.args.at _ _ _ (c.copy_from_slice.ensures.after ∙ c.to_be_bytes.ensures ∙ word_of_4 c.args.v) (omega arith) c.requires
