-- 13 with zeros. Assumes nothing.
use mathlib.Core.Path.{refl}
use Rattle.make_record.proofs.outside.Goals as goal

pub returns : goal.returns
returns c = rw c.refused.ensures refl
