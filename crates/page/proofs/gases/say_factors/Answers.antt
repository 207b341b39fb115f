-- One text after the other. Assumes nothing.
use Rattle.printing.proofs.Texts.{◌⟫◌}
use Rattle.page.specs.Parts.{factors_text}
use Rattle.page.proofs.gases.say_factors.Goals as goal

pub returns : goal.returns
unfolding factors_text
returns c = c.say.ensures
    ⟫ c.say_number.ensures
    ⟫ c.say-2.ensures
    ⟫ c.say_number-2.ensures
    ⟫ c.say-3.ensures
