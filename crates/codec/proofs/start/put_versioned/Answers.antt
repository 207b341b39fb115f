-- `codec::start::put_versioned` meets its contract: three numbers.
-- Assumes nothing.
use mathlib.Core.Path.{refl}
use Rattle.codec.proofs.start.put_versioned.Goals as goal

pub returns : goal.returns
returns c = rw (
  c.put1-2.ensures,
  c.put1.ensures,
  c.put2.ensures,
) refl
