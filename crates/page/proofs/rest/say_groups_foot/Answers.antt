-- One text after the other. Assumes nothing.
use Rattle.printing.proofs.Texts.{◌⟫◌}
use Rattle.page.specs.Parts.{groups_foot}
use Rattle.page.proofs.rest.say_groups_foot.Goals as goal

pub returns : goal.returns
unfolding groups_foot
returns c = c.say.ensures
    ⟫ c.say_figures.ensures
    ⟫ c.say_together.ensures
    ⟫ c.say-2.ensures
