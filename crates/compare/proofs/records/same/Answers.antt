-- Assumes nothing.
use mathlib.Core.Path.{◌∙◌}
use Rattle.compare.proofs.SameBytes.{pointwise-same}
use Rattle.compare.proofs.records.same.Goals as goal

pub returns : goal.returns
returns c = c.eq.ensures ∙ pointwise-same _ _
