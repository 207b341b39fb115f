-- One text after the other. Assumes nothing.
use Rattle.printing.proofs.Texts.{◌⟫◌}
use Rattle.page.specs.Parts.{head_text}
use Rattle.page.proofs.head.say_head.Goals as goal

pub returns : goal.returns
unfolding head_text
returns c = c.say.ensures
    ⟫ c.say_name.ensures
    ⟫ c.say_title.ensures
    ⟫ c.say_style.ensures
    ⟫ c.say_name-2.ensures
    ⟫ c.say-2.ensures
    ⟫ c.say_name-3.ensures
    ⟫ c.say-3.ensures
