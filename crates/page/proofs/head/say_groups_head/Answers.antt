-- One text after the other. Assumes nothing.
use Rattle.printing.proofs.Texts.{◌⟫◌}
use Rattle.page.specs.Parts.{groups_head}
use Rattle.page.proofs.head.say_groups_head.Goals as goal

pub returns : goal.returns
unfolding groups_head
returns c = c.say.ensures
    ⟫ c.say_number.ensures
    ⟫ c.say-2.ensures
    ⟫ c.say_number-2.ensures
    ⟫ c.say-3.ensures
