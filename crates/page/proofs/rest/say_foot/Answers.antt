-- One text after the other. Assumes nothing.
use Rattle.printing.proofs.Texts.{◌⟫◌}
use Rattle.page.specs.Parts.{foot_text}
use Rattle.page.proofs.rest.say_foot.Goals as goal

pub returns : goal.returns
unfolding foot_text
returns c = c.say.ensures
    ⟫ c.say_name.ensures
    ⟫ c.say-2.ensures
    ⟫ c.say_number.ensures
    ⟫ c.say-3.ensures
