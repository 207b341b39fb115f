-- From the lowest step to the highest. Assumes nothing.
use Rattle.std.proofs.Common.{◌∙◌}
use Rattle.page.specs.Bars.{scale_of}
use Rattle.page.proofs.Steps.{min-lesser, max-greater}
use Rattle.page.proofs.bars.scale.Goals as goal

pub returns : goal.returns
unfolding scale_of
returns c = (
  rw (
    c.unit-unit.ensures.0,
    c.saturating_sub.ensures,
    c.max-hi.ensures ∙ max-greater _ _,
    c.min-lo.ensures ∙ min-lesser _ _,
  ),
  c.unit-unit.ensures.1,
)
