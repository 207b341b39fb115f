-- One text after the other. Assumes nothing.
use Rattle.printing.proofs.Texts.{◌⟫◌}
use Rattle.page.specs.Parts.{carbon_text}
use Rattle.page.proofs.gases.say_carbon.Goals as goal

pub returns : goal.returns
unfolding carbon_text
returns c = c.say.ensures
    ⟫ c.say_figure.ensures
    ⟫ c.say-2.ensures
    ⟫ c.say_kilograms.ensures
    ⟫ c.say-3.ensures
    ⟫ c.say_kilograms-2.ensures
