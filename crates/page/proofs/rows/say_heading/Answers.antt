-- One text after the other. Assumes nothing.
use Rattle.printing.proofs.Texts.{◌⟫◌}
use Rattle.page.specs.Parts.{heading_text}
use Rattle.page.proofs.rows.say_heading.Goals as goal

pub returns : goal.returns
unfolding heading_text
returns c = c.say.ensures
    ⟫ c.say_number.ensures
    ⟫ c.say-2.ensures
    ⟫ c.say_number-2.ensures
    ⟫ c.say-3.ensures
    ⟫ c.say_class.ensures
    ⟫ c.say-4.ensures
