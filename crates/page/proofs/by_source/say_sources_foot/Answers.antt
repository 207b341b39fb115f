-- One text after the other. Assumes nothing.
use Rattle.printing.proofs.Texts.{◌⟫◌}
use Rattle.page.specs.Parts.{sources_foot}
use Rattle.page.proofs.by_source.say_sources_foot.Goals as goal

pub returns : goal.returns
unfolding sources_foot
returns c = c.say.ensures
    ⟫ c.say_gases.ensures
    ⟫ c.say_together.ensures
    ⟫ c.say-2.ensures
