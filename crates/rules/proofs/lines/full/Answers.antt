-- Assumes nothing.
use mathlib.Core.Path.{refl}
use Rattle.rules.proofs.lines.full.Goals as goal

pub returns : goal.returns
returns c = rw c.by_fields-same.ensures refl
