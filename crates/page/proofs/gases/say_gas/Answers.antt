-- One text after the other. Assumes nothing.
use Rattle.printing.proofs.Texts.{◌⟫◌}
use Rattle.page.specs.Parts.{gas_text}
use Rattle.page.proofs.gases.say_gas.Goals as goal

pub returns : goal.returns
unfolding gas_text
returns c = c.say_figure.ensures
    ⟫ c.say.ensures
    ⟫ c.say_number.ensures
    ⟫ c.say-2.ensures
    ⟫ c.say_kilograms.ensures
