-- One text after the other. Assumes nothing.
use Rattle.printing.proofs.Texts.{◌⟫◌}
use Rattle.page.specs.Parts.{gas_table}
use Rattle.page.proofs.gases.say_gas_table.Goals as goal

pub returns : goal.returns
unfolding gas_table
returns c = c.say_factors.ensures
    ⟫ c.say_gas.ensures
    ⟫ c.say.ensures
    ⟫ c.say_gas-2.ensures
    ⟫ c.say_carbon.ensures
    ⟫ c.say-2.ensures
    ⟫ c.say_kilograms.ensures
    ⟫ c.say-3.ensures
