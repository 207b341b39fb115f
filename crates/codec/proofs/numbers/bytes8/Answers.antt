-- `codec::numbers::bytes8` meets its contract.
-- Assumes nothing.
use mathlib.Core.Path.{◌∙◌}
use Rattle.codec.proofs.BigEndian.{word_of_8}
use Rattle.codec.proofs.numbers.bytes8.Goals as goal

pub returns : goal.returns
returns c = c.to_be_bytes.ensures ∙ word_of_8 c.args.v
