-- One text after the other. Assumes nothing.
use Rattle.printing.proofs.Texts.{◌⟫◌}
use Rattle.page.specs.Parts.{after_text}
use Rattle.page.proofs.notice.say_after.Goals as goal

pub returns : goal.returns
unfolding after_text
returns c = c.say_advice.ensures
    ⟫ c.say.ensures
    ⟫ c.say_name.ensures
    ⟫ c.say_made_of.ensures
    ⟫ c.say_number.ensures
    ⟫ c.say-2.ensures
